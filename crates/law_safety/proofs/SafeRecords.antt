-- Records that are safe one after the other.
use Rattle.std.proofs.Common.{◌≡◌, ℤ, ℕ, suc, Bool, true, false, cond, List, [], ◌∷◌, ◌++◌, refl}
use Rattle.std.specs.Prelude.{Option, Some, None, Result, Ok, Err, IfOk, ◌||◌, slice_get}
use Rattle.std.specs.List.{AllByRecursion, list_all, list_any, cons_option}
use Rattle.std.specs.Option.{option_map}
use Rattle.std.proofs.lemmas.Bool.{and_parts}
use Rattle.kr_defs.specs.declared.partition.PartitionChange.{PartitionChange}
use Rattle.kr_defs.specs.declared.record.ConfigKey.{ConfigKey}
use Rattle.kr_defs.specs.declared.record.Record.{Record}
use Rattle.kr_defs.specs.declared.record.Record.TheVariants as kinds
use Rattle.kr_defs.specs.Apply.{apply_record}
use Rattle.kr_defs.specs.Brokers.{active}
use Rattle.kr_defs.specs.Guard.{and_then}
use Rattle.kr_defs.specs.Ids.{has, within}
use Rattle.kr_defs.specs.Image.{Image, IsValid}
use Rattle.kr_defs.specs.Map as entries
use Rattle.kr_defs.specs.Map.{partition_order}
use Rattle.kr_defs.specs.Merge.{merged}
use Rattle.kr_defs.specs.NewPartition.{first_leader}
use Rattle.kr_defs.specs.Walk.{Walked, changes_of, walk}
use Rattle.kr_calls.specs.Deciding.{apply_records}
use Rattle.kr_calls.specs.NewPartitions.{new_partitions}
use Rattle.kr_calls.specs.SafeChange.{Exchange, is_safe}
use Rattle.law_safety.specs.SafeChangeLaws.{AreSafe}
use Rattle.law_safety.proofs.NewReplicas.{IsNew}
use Rattle.kr_calls.proofs.WalkedChanges.{StandApart, still_stand, is_owned, IsSound, walk_stands}

pub if_ok : {T E : Type 0} (P : T → Type 0) (r : Result T E) → ((x : T) → r ≡ Ok x → P x) → IfOk r P
if_ok P (Ok x) f = f x refl
if_ok P (Err e) f = tt

-- a record that makes and changes no partition
abbrev pub is_calm : Record → Bool
is_calm (kinds.PartitionChange index topic change) = false
is_calm (kinds.Partition index topic state) = false
is_calm other = true

-- an image with the same topics and partitions
pub record WithPartitionsOf (image after : Image) : Type 0 where
  pub topics : after.topics ≡ image.topics
  pub partitions : after.partitions ≡ image.partitions

-- the first of the active replicas leads
first_leads : (active replicas : List ℤ) → list_any (has active) replicas ≡ true → slice_get (within replicas active) 0 ≡ Some (first_leader (within replicas active))
first_leads active [] some = absurd cc
first_leads active (id ∷ replicas) some =
    elim (has active id) as (λ b. (b || list_any (has active) replicas) ≡ true → slice_get (cond b (id ∷ within replicas active) (within replicas active)) 0 ≡ Some (first_leader (cond b (id ∷ within replicas active) (within replicas active)))) [
      | true ↦ λ some. refl
      | false ↦ λ some. first_leads active replicas some
    ] some

module _ (exchange : Option Exchange) where
  pub both_safe : (image : Image) (xs ys : List Record) → AreSafe exchange image xs → ((mid : Image) → apply_records image xs ≡ Ok mid → AreSafe exchange mid ys) → AreSafe exchange image (xs ++ ys)
  both_safe image [] ys first then = then image refl
  both_safe image (x ∷ xs) ys first then = (
    first.0,
    elim (apply_record image x) as (λ r. IfOk r (λ after. AreSafe exchange after xs) → ((mid : Image) → and_then r (λ after. apply_records after xs) ≡ Ok mid → AreSafe exchange mid ys) → IfOk r (λ after. AreSafe exchange after (xs ++ ys))) [
      | Ok after ↦ λ first then. both_safe after xs ys first then
      | Err cause ↦ λ first then. tt
    ] first.1 then,
  )

  calm_safe : (image : Image) (r : Record) (rest : Image → Type 0) → is_calm r ≡ true → IfOk (apply_record image r) rest → Rattle.law_safety.specs.SafeChangeLaws.IsSafeRecord exchange image r × IfOk (apply_record image r) rest
  calm_safe image (kinds.PartitionChange index topic change) rest is more = absurd cc
  calm_safe image (kinds.Partition index topic state) rest is more = absurd cc
  calm_safe image (kinds.RegisterBroker broker state) rest is more = (tt, more)
  calm_safe image (kinds.UnregisterBroker broker epoch) rest is more = (tt, more)
  calm_safe image (kinds.Topic name id) rest is more = (tt, more)
  calm_safe image (kinds.Config kind name key value) rest is more = (tt, more)
  calm_safe image (kinds.FenceBroker broker epoch) rest is more = (tt, more)
  calm_safe image (kinds.UnfenceBroker broker epoch) rest is more = (tt, more)
  calm_safe image (kinds.RemoveTopic topic) rest is more = (tt, more)
  calm_safe image (kinds.FeatureLevel name level) rest is more = (tt, more)
  calm_safe image (kinds.BrokerRegistrationChange broker epoch fenced stopping) rest is more = (tt, more)
  calm_safe image kinds.NoOp rest is more = (tt, more)
  calm_safe image (kinds.BeginTransaction name) rest is more = (tt, more)
  calm_safe image kinds.EndTransaction rest is more = (tt, more)
  calm_safe image (kinds.AbortTransaction reason) rest is more = (tt, more)

  pub all_calm_safe : (image : Image) (records : List Record) → list_all is_calm records ≡ true → AreSafe exchange image records
  all_calm_safe image [] are = tt
  all_calm_safe image (r ∷ records) are =
      let parts = and_parts (is_calm r) (list_all is_calm records) are in
      calm_safe image r (λ after. AreSafe exchange after records) parts.0 (if_ok (λ after. AreSafe exchange after records) (apply_record image r) (λ after is. all_calm_safe after records parts.1))

  -- new partitions, of whichever image their lists are, each with an active replica
  pub partitions_safe : (at image : Image) (id first : ℕ) (lists : List (List ℤ)) → AllByRecursion (IsNew image) lists → AreSafe exchange at (new_partitions image id first lists)
  partitions_safe at image id first [] new = tt
  partitions_safe at image id first (replicas ∷ lists) new =
      (first_leads (active image) replicas new.0.led, if_ok (λ after. AreSafe exchange after (new_partitions image id (suc first) lists)) _ (λ after is. partitions_safe after image id (suc first) lists new.1))

  -- ---- changes of a walk

  -- safe on any image with these settings
  abbrev pub IsSafeWalk : List (ConfigKey × List ℕ) → (Walked → Option PartitionChange) → Type 0
  IsSafeWalk configs change =
      (image : Image) (w : Walked) (c : PartitionChange) → image.configs ≡ configs → change w ≡ Some c →
      is_safe image exchange w.topic w.key w.partition c ≡ true

  changes_safe : (change : Walked → Option PartitionChange) (image : Image) (ws : List Walked) → IsSafeWalk image.configs change → StandApart change image.topics image.partitions ws → AreSafe exchange image (changes_of change ws)
  unfolding apply_record
  changes_safe change image [] safe stand = tt
  changes_safe change image (w ∷ ws) safe stand =
      elim (change w) as (λ o. change w ≡ o → AreSafe exchange image (cons_option (option_map (λ c. kinds.PartitionChange w.key.1 w.key.0 c) o) (changes_of change ws))) [
        | None ↦ λ is. changes_safe change image ws safe stand.1.1
        | Some c ↦ λ is.
            let next = record image { partitions = entries.insert partition_order image.partitions w.key (merged w.partition c) } in
            let rest = changes_safe change next ws safe (still_stand change image.topics image.partitions w.key (merged w.partition c) ws stand.1.0 stand.1.1) in (
              record { name = w.topic; partition = w.partition; named = stand.0.named; stands = stand.0.there; safe = safe image w c refl is },
              rw (is_owned image.topics w.key.0 w.topic stand.0.named, stand.0.there, stand.0.formed c is) rest,
            )
      ] refl

  pub walk_safe : (change : Walked → Option PartitionChange) (image after : Image) → IsSound change → IsValid image → WithPartitionsOf image after → IsSafeWalk after.configs change → AreSafe exchange after (changes_of change (walk image))
  walk_safe change image after sound valid same safe =
      changes_safe change after (walk image) safe
      (rw (same.topics, same.partitions) (walk_stands change image sound valid))
