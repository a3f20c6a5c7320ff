-- Changes of walked partitions: each has a meaning after the ones before it, where it has one by itself.
use Rattle.std.proofs.Common.{◌≡◌, ◌∙◌, ℤ, ℕ, true, false, cond, List, [], ◌∷◌, refl, ap, subst}
use Rattle.std.specs.Prelude.{Option, Some, None, IsTrue, is_some}
use Rattle.std.specs.declared.cmp.Ordering.{Ordering}
use Rattle.std.specs.Ordering.{is_eq}
use Rattle.std.specs.List.{AllByRecursion, cons_option}
use Rattle.std.specs.Option.{option_map}
use Rattle.std.proofs.lemmas.List.Elements.{recursion_from_All}
use Rattle.kr_defs.specs.declared.broker.Broker.{Broker}
use Rattle.kr_defs.specs.declared.partition.Partition.{Partition}
use Rattle.kr_defs.specs.declared.partition.PartitionChange.{PartitionChange}
use Rattle.kr_defs.specs.declared.record.Record.TheVariants as kinds
use Rattle.kr_defs.specs.Apply.{apply_record}
use Rattle.kr_defs.specs.Image.{Image, IsValid, topic_name, has_topic}
use Rattle.kr_defs.specs.Map as entries
use Rattle.kr_defs.specs.Map.{partition_order}
use Rattle.kr_defs.specs.Merge.{merged}
use Rattle.kr_defs.specs.Partition.{is_well_formed}
use Rattle.kr_defs.specs.Walk.{Walked, changes_of, walk}
use Rattle.kr_defs.specs.WalkLaws.{AreApart}
use Rattle.kr_defs.proofs.ImageParts.{partition_total}
use Rattle.kr_defs.proofs.Tests.{some_is}
use Rattle.kr_defs.proofs.WalkedOnce.{walked_once}
use Rattle.kr_defs.proofs.Walks.{get_other}
use Rattle.kr_calls.specs.TakingOutLaws.{LeaveWith}

-- what is true of all values is true of the one at a key
pub value_at : {K V : Type 0} (R : K → K → Ordering) (P : V → Type 0) (es : List (K × V)) (k : K) (v : V) → AllByRecursion (λ e. P e.1) es → entries.get R es k ≡ Some v → P v
value_at R P [] k v all is = absurd cc
value_at R P (e ∷ es) k v all is =
    elim (is_eq (R k e.0)) as (λ b. cond b (Some e.1) (entries.get R es k) ≡ Some v → P v) [
      | true ↦ λ is. subst P (some_is e.1 v is) all.0
      | false ↦ λ is. value_at R P es k v all.1 is
    ] is

-- a change of the partition keeps it well formed
abbrev pub KeepsFormed : (Walked → Option PartitionChange) → Walked → Type 0
KeepsFormed change w = (c : PartitionChange) → change w ≡ Some c → is_well_formed (merged w.partition c) ≡ true

-- a change that has a meaning by itself
pub record Stands (change : Walked → Option PartitionChange) (topics : List (List ℕ × ℕ)) (partitions : List ((ℕ × ℤ) × Partition)) (w : Walked) : Type 0 where
  pub named : topic_name topics w.key.0 ≡ Some w.topic
  pub there : entries.get partition_order partitions w.key ≡ Some w.partition
  pub formed : KeepsFormed change w

-- each stands, and each is another one than those behind it
abbrev pub StandApart : (Walked → Option PartitionChange) → List (List ℕ × ℕ) → List ((ℕ × ℤ) × Partition) → List Walked → Type 0
StandApart change topics partitions [] = Unit {0}
StandApart change topics partitions (w ∷ ws) =
    Stands change topics partitions w × (AllByRecursion (λ v. is_eq (partition_order v.key w.key) ≡ false) ws × StandApart change topics partitions ws)

-- they do still where one of them changes
pub still_stand : (change : Walked → Option PartitionChange) (topics : List (List ℕ × ℕ)) (ps : List ((ℕ × ℤ) × Partition)) (key : ℕ × ℤ) (state : Partition) (ws : List Walked) → AllByRecursion (λ v. is_eq (partition_order v.key key) ≡ false) ws → StandApart change topics ps ws → StandApart change topics (entries.insert partition_order ps key state) ws
still_stand change topics ps key state [] apart stand = tt
still_stand change topics ps key state (w ∷ ws) apart stand =
    let s = stand.0 in
    (record { named = s.named; there = get_other partition_total ps key w.key state apart.0 ∙ s.there; formed = s.formed }, (stand.1.0, still_stand change topics ps key state ws apart.1 stand.1.1))

pub is_owned : (topics : List (List ℕ × ℕ)) (id : ℕ) (name : List ℕ) → topic_name topics id ≡ Some name → has_topic topics id ≡ true
is_owned topics id name named = ap (λ o. is_some o) named

-- the image after them differs in its partitions alone
pub changes_stand : (change : Walked → Option PartitionChange) (image : Image) (ws : List Walked) → StandApart change image.topics image.partitions ws → LeaveWith image image.brokers (changes_of change ws)
unfolding apply_record
changes_stand change image [] stand = (image.partitions, refl)
changes_stand change image (w ∷ ws) stand =
    elim (change w) as (λ o. change w ≡ o → LeaveWith image image.brokers (cons_option (option_map (λ c. kinds.PartitionChange w.key.1 w.key.0 c) o) (changes_of change ws))) [
      | None ↦ λ is. changes_stand change image ws stand.1.1
      | Some c ↦ λ is.
          let next = record image { partitions = entries.insert partition_order image.partitions w.key (merged w.partition c) } in
          let rest = changes_stand change next ws (still_stand change image.topics image.partitions w.key (merged w.partition c) ws stand.1.0 stand.1.1) in
          (rest.0, rw (is_owned image.topics w.key.0 w.topic stand.0.named, stand.0.there, stand.0.formed c is) rest.1)
    ] refl

-- a change that keeps each well formed partition well formed
abbrev pub IsSound : (Walked → Option PartitionChange) → Type 0
IsSound change = (w : Walked) → is_well_formed w.partition ≡ true → KeepsFormed change w

all_apart : (change : Walked → Option PartitionChange) (image : Image) → IsSound change → AllByRecursion (λ e. IsTrue (is_well_formed e.1)) image.partitions → (ws : List Walked) → AllByRecursion (λ (w : Walked). entries.get partition_order image.partitions w.key ≡ Some w.partition) ws → AllByRecursion (λ (w : Walked). topic_name image.topics w.key.0 ≡ Some w.topic) ws → AreApart ws → StandApart change image.topics image.partitions ws
all_apart change image sound formed [] there named apart = tt
all_apart change image sound formed (w ∷ ws) there named apart = (
  record { named = named.0; there = there.0; formed = sound w (value_at partition_order (λ (p : Partition). IsTrue (is_well_formed p)) image.partitions w.key w.partition formed there.0) },
  (recursion_from_All (λ (v : Walked). is_eq (partition_order v.key w.key) ≡ false) ws apart.0, all_apart change image sound formed ws there.1 named.1 apart.1),
)

-- the changes of a walk over a valid image
pub walk_stands : (change : Walked → Option PartitionChange) (image : Image) → IsSound change → IsValid image → StandApart change image.topics image.partitions (walk image)
walk_stands change image sound valid =
    let once = walked_once image valid in
    all_apart change image sound (recursion_from_All (λ e. IsTrue (is_well_formed e.1)) image.partitions valid.partitions.well_formed) (walk image)
    (recursion_from_All (λ (w : Walked). entries.get partition_order image.partitions w.key ≡ Some w.partition) (walk image) once.there)
    (recursion_from_All (λ (w : Walked). topic_name image.topics w.key.0 ≡ Some w.topic) (walk image) once.named) once.apart

-- also on the image with other brokers
pub walk_leaves : (change : Walked → Option PartitionChange) (image : Image) (brokers : List (ℤ × Broker)) → IsSound change → IsValid image → LeaveWith (record image { brokers = brokers }) brokers (changes_of change (walk image))
walk_leaves change image brokers sound valid = changes_stand change (record image { brokers = brokers }) (walk image) (walk_stands change image sound valid)
