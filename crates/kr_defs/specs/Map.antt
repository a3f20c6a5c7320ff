-- A finite map is the list of its entries, in the order of its keys (this project's own form, in the words of std's BTreeMap).
use Rattle.std.specs.Prelude.{ℕ, ℤ, Bool, List, Option, Some, None, not, ◌&&◌, nat_le, length, is_some, slice_get}
use Rattle.std.specs.declared.cmp.Ordering.{Ordering}
use Rattle.std.specs.Ordering.{nat_cmp, int_cmp, ordering_then}
use Rattle.std.specs.Cmp.Lexicographic.{slice_cmp}
use Rattle.std.specs.List.Sorted.{IsStrictlySortedBy}
use Rattle.std.specs.Map.{keys_of, lookup, remove_entry}
use Rattle.std.specs.BTreeMap.{insert_entry, is_at}
use Rattle.std.specs.BTreeMap.Range.{entries_between}
use Rattle.std.specs.declared.ops.Bound.TheVariants.{Excluded, Unbounded}
use Rattle.kr_defs.specs.declared.record.ConfigKey.{ConfigKey}

module _ {K V : Type 0} (order : K → K → Ordering) where
  -- each key stands once, in order
  abbrev pub IsMap : List (K × V) → Type 0
  IsMap entries = IsStrictlySortedBy order (keys_of entries)

  -- the value at the key
  abbrev pub get : List (K × V) → K → Option V
  get entries key = lookup (is_at (order key)) entries

  -- the key has a value
  abbrev pub contains : List (K × V) → K → Bool
  contains entries key = is_some (get entries key)

  -- a value for this key would be one too many
  abbrev pub is_full : ℕ → List (K × V) → K → Bool
  is_full most entries key = not (contains entries key) && nat_le most (length entries)

  -- the map with the value at the key
  abbrev pub insert : List (K × V) → K → V → List (K × V)
  insert entries key value = insert_entry order entries key value

  -- the map without the key
  abbrev pub remove : List (K × V) → K → List (K × V)
  remove entries key = remove_entry (is_at (order key)) entries

  -- the entries above a key, or all of them
  abbrev pub above : List (K × V) → Option K → List (K × V)
  above entries None = entries
  above entries (Some key) = entries_between order (Excluded key) Unbounded entries

  -- the entry with the least key above the given one, or the first of all
  abbrev pub next : List (K × V) → Option K → Option (K × V)
  next entries after = slice_get (above entries after) 0

-- text by its bytes
abbrev pub text_order : List ℕ → List ℕ → Ordering
text_order = slice_cmp nat_cmp

-- a partition by the id of its topic, then by its index
abbrev pub partition_order : ℕ × ℤ → ℕ × ℤ → Ordering
partition_order x y = ordering_then (nat_cmp x.0 y.0) (int_cmp x.1 y.1)

-- a setting by type, then resource name, then key
abbrev pub config_order : ConfigKey → ConfigKey → Ordering
config_order x y = ordering_then (int_cmp x.kind y.kind) (ordering_then (text_order x.name y.name) (text_order x.key y.key))
