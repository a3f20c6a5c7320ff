-- Which partitions each broker has a replica of, at least, so that what concerns one broker is found without a walk over all
-- partitions (this project's own). Keys are only added: what a partition has lost is still listed, and a reader asks the
-- partition itself.
use Rattle.std.specs.Prelude.{◌≡◌, ◌==◌, ℕ, ℤ, Bool, true, false, not, ◌&&◌, ◌||◌, List, [], ◌∷◌, length, All, Option, unwrap_or}
use Rattle.std.specs.BTreeMap.{is_at}
use Rattle.std.specs.BTreeSet.{insert_key}
use Rattle.std.specs.List.{list_any}
use Rattle.std.specs.Map.{set_value}
use Rattle.std.specs.Option.{option_map_or}
use Rattle.std.specs.Ordering.{int_cmp, is_eq}
use Rattle.kr_defs.specs.declared.partition.Partition.{Partition}
use Rattle.kr_defs.specs.Ids.{has}
use Rattle.kr_defs.specs.Map as entries
use Rattle.kr_defs.specs.Map.{partition_order}

-- the key is one of them
abbrev pub holds_key : List (ℕ × ℤ) → ℕ × ℤ → Bool
holds_key keys key = list_any (is_at (partition_order key)) keys

-- the key of the broker is listed
abbrev pub lists_key : List (ℤ × List (ℕ × ℤ)) → ℤ → ℕ × ℤ → Bool
lists_key listed broker key = option_map_or (λ keys. holds_key keys key) (entries.get int_cmp listed broker) false

-- the keys that are found, none where nothing is
abbrev pub keys_or_none : Option (List (ℕ × ℤ)) → List (ℕ × ℤ)
keys_or_none found = unwrap_or found []

-- the partition has the broker as a replica
abbrev pub has_replica : ℤ → Partition → Bool
has_replica broker p = has p.replicas broker

-- a replica stands by: it is eligible though out of sync, or was the last one known (KIP-966)
abbrev pub has_standing_by : Partition → Bool
has_standing_by p = not (length p.eligible == 0 && length p.last_known == 0)

-- these keys are at least those of the partitions that pass the test
abbrev pub AreAtLeast : List (ℕ × ℤ) → (Partition → Bool) → List ((ℕ × ℤ) × Partition) → Type 0
AreAtLeast keys test partitions = All (λ e. test e.1 ≡ true → holds_key keys e.0 ≡ true) partitions

-- what was among the keys still is
abbrev pub KeepsKeys : List (ℕ × ℤ) → List (ℕ × ℤ) → Type 0
KeepsKeys before after = (key : ℕ × ℤ) → holds_key before key ≡ true → holds_key after key ≡ true

-- of every broker at least the keys of the partitions that have it as a replica
abbrev pub Lists : List (ℤ × List (ℕ × ℤ)) → List ((ℕ × ℤ) × Partition) → Type 0
Lists listed partitions = (broker : ℤ) → All (λ e. has e.1.replicas broker ≡ true → lists_key listed broker e.0 ≡ true) partitions

-- the key among those of the broker
unfoldable pub with_key : ℕ × ℤ → List (ℤ × List (ℕ × ℤ)) → ℤ → List (ℤ × List (ℕ × ℤ))
with_key key listed broker =
    option_map_or (λ keys. set_value (is_at (int_cmp broker)) listed (insert_key partition_order keys key)) (entries.get int_cmp listed broker) (entries.insert int_cmp listed broker (key ∷ []))

-- what was listed still is
abbrev pub Grows : List (ℤ × List (ℕ × ℤ)) → List (ℤ × List (ℕ × ℤ)) → Type 0
Grows before after = (broker : ℤ) (key : ℕ × ℤ) → lists_key before broker key ≡ true → lists_key after broker key ≡ true

-- the key is listed for these brokers too, and nothing else is
abbrev pub IsListedFor : List ℤ → ℕ × ℤ → List (ℤ × List (ℕ × ℤ)) → List (ℤ × List (ℕ × ℤ)) → Type 0
IsListedFor brokers added before after =
    (broker : ℤ) (key : ℕ × ℤ) → lists_key after broker key ≡ (lists_key before broker key || (has brokers broker && is_eq (partition_order key added)))
