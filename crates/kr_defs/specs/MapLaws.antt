-- Laws of maps, and of the partitions of one topic among all (this project's own).
use Rattle.std.specs.Prelude.{◌≡◌, ◌≢◌, ℕ, ℤ, negsuc, List, [], ◌∷◌, Option, Some, None, All, IsTrue, false}
use Rattle.std.specs.declared.cmp.Ordering.{Ordering}
use Rattle.std.specs.Ordering.{is_eq}
use Rattle.std.specs.Cmp.{IsTotalOrder}
use Rattle.kr_defs.specs.declared.partition.Partition.{Partition}
use Rattle.kr_defs.specs.Image.{is_index}
use Rattle.kr_defs.specs.Walk.{of_topic}
use Rattle.kr_defs.specs.Map.{IsMap, get, insert, above, next, partition_order}

module _ {K V : Type 0} (order : K → K → Ordering) (entries : List (K × V)) where
  -- A walk from one next entry to another passes each entry once, in order.
  pub record WalksPassAll : Type 0 where
    pub begins : above order entries None ≡ entries
    pub goes_on : (after : Option K) (e : K × V) → next order entries after ≡ Some e → above order entries after ≡ e ∷ above order entries (Some e.0)
    pub ends : (after : Option K) → next order entries after ≡ None → above order entries after ≡ []

  -- Each entry is found under its key.
  abbrev pub EntriesAreFound : Type 0
  EntriesAreFound = All (λ (e : K × V). get order entries e.0 ≡ Some e.1) entries

  -- A new value leaves those of all other keys.
  abbrev pub InsertionsAreApart : Type 0
  InsertionsAreApart = (key other : K) (value : V) → is_eq (order other key) ≡ false → get order (insert order entries key value) other ≡ get order entries other

  pub record MapsHold : Type 0 where
    pub walks : WalksPassAll
    pub found : EntriesAreFound
    pub apart : InsertionsAreApart

abbrev pub MapLaws : {K V : Type 0} → (K → K → Ordering) → List (K × V) → Type 0
MapLaws order entries = IsTotalOrder order → IsMap order entries → MapsHold order entries

-- A walk that begins below the first index of a topic passes each partition of that topic, and then no other of it.
pub record TopicWalksPassAll (partitions : List ((ℕ × ℤ) × Partition)) : Type 0 where
  pub begins : (id : ℕ) → of_topic id (above partition_order partitions (Some (id, negsuc 0))) ≡ of_topic id partitions
  pub goes_on : (after : ℕ × ℤ) (e : (ℕ × ℤ) × Partition) → next partition_order partitions (Some after) ≡ Some e → e.0.0 ≡ after.0 → of_topic after.0 (above partition_order partitions (Some after)) ≡ e ∷ of_topic e.0.0 (above partition_order partitions (Some e.0))
  pub passes_on : (after : ℕ × ℤ) (e : (ℕ × ℤ) × Partition) → next partition_order partitions (Some after) ≡ Some e → e.0.0 ≢ after.0 → of_topic after.0 (above partition_order partitions (Some after)) ≡ []
  pub ends : (after : ℕ × ℤ) → next partition_order partitions (Some after) ≡ None → of_topic after.0 (above partition_order partitions (Some after)) ≡ []

abbrev pub TopicWalks : List ((ℕ × ℤ) × Partition) → Type 0
TopicWalks partitions = IsMap partition_order partitions → All (λ (e : (ℕ × ℤ) × Partition). IsTrue (is_index e.0.1)) partitions → TopicWalksPassAll partitions
