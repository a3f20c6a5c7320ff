-- A log's next batch, as the code judges it.
use Rattle.std.specs.Prelude.{◌≡◌, ℕ, ℤ, pos, ◌+ℤ◌, ◌*◌, ◌≤◌, ◌≤ℤ◌, Option, Some, None, List, length, Result, Ok, Err, IsSome, MatchResult}
use Rattle.std.specs.List.{AllByRecursion}
use Rattle.kr_base.specs.declared.answers.NoMemory.{NoMemory}
use Rattle.kr_batch.specs.declared.fault.BatchFault.{BatchFault}
use Rattle.kr_batch.specs.declared.fault.BatchFault.TheVariants as faults
use Rattle.kr_defs.specs.declared.ill.Ill.{Ill}
use Rattle.kr_defs.specs.declared.limits.TheConstants.{MOST_RECORDS}
use Rattle.kr_defs.specs.declared.record.Item.{Item}
use Rattle.kr_defs.specs.Image.{Image}
use Rattle.kr_defs.specs.LogStates.{apply_all_at, apply_at}
use Rattle.kr_batch.specs.declared.Batch.{Batch}
use Rattle.kr_batch.specs.Grammar.{IsBatch}
use Rattle.kr_store.specs.Images.{Images, IsAbove, last_kept, log_place, tip_state}
use Rattle.kr_store.specs.ItemAnswers.{KeepsEpochs, MayOpen, with_begin}
use Rattle.kr_fold.specs.declared.fault.ToolFault.{ToolFault}
use Rattle.kr_fold.specs.declared.log.Place.{Place}
use Rattle.kr_fold.specs.Logs.{Folded, folded_with}
use Rattle.kr_fold.specs.SourceBytes.{longest}
use Rattle.kr_fold.specs.Endings.{ReadsLog, EndsLog, IsLogFault}

-- the state after an item, which stands at the place, or why it has no meaning
abbrev pub IsItemApplied : Images → Images → ℤ → Item → Option Ill → Type 0
IsItemApplied before after place item None = (apply_at (tip_state before) (log_place place) item ≡ Ok (tip_state after)) × KeepsEpochs after (with_begin before place item)
IsItemApplied before after place item (Some cause) = apply_at (tip_state before) (log_place place) item ≡ Err cause

abbrev pub AreApplied : Images → Images → ℤ → List Item → Option Ill → Type 0
AreApplied before after place items None = apply_all_at (tip_state before) (log_place place) items ≡ Ok (tip_state after)
AreApplied before after place items (Some cause) = apply_all_at (tip_state before) (log_place place) items ≡ Err cause

-- the batch that the bytes stand for, which has few items; or that they stand for none
abbrev pub IsBatchOrNone : List ℕ → Option Batch → Type 0
IsBatchOrNone bytes (Some batch) = IsBatch batch bytes × (1 ≤ length batch.items) × (length batch.items ≤ MOST_RECORDS)
IsBatchOrNone bytes None = (batch : Batch) → IsBatch batch bytes → ⊥

-- a fault means that there is none, but for want of memory
abbrev pub none_for : BatchFault → Result (Option Batch) NoMemory
none_for faults.NoMemory = Err (record {})
none_for other = Ok None

-- a log that ends at the tip, with the state of the images
abbrev pub log_of : ℤ → Images → Folded
log_of tip images = record { tip = tip; state = tip_state images }

-- the log with the batch, at its new tip; or that it doesn't follow
abbrev pub IsFollowed : ℤ → Images → Images → Batch → Option ℤ → Type 0
IsFollowed tip before after batch (Some next) =
    (folded_with (log_of tip before) batch ≡ Some (log_of next after)) × (next ≡ tip +ℤ pos (length batch.items))
IsFollowed tip before after batch None = folded_with (log_of tip before) batch ≡ None

-- ---- what is kept of the log

-- an epoch is kept, each is a place, and no transaction was open at any
pub record Keeps (images : Images) : Type 0 where
  pub low : AllByRecursion (λ (k : ℤ × Image). pos 0 ≤ℤ k.0) images.kept
  pub some : IsSome (last_kept images)
  pub closed : AllByRecursion (λ (b : ℤ × Option ℤ). b.1 ≡ None) images.kept_begun

-- the next item may stand at the place, under which the present image may be kept
pub record Stands (images : Images) (place : ℤ) : Type 0 where
  pub natural : pos 0 ≤ℤ place
  pub may : MayOpen images place
  pub above : IsAbove images.kept (place +ℤ pos 1)
  pub keeps : Keeps images

-- nothing is kept under the place yet
pub record IsBeyond (images : Images) (place : ℤ) : Type 0 where
  pub natural : pos 0 ≤ℤ place
  pub above : IsAbove images.kept place
  pub keeps : Keeps images

-- ---- places

-- the tip isn't negative, and each byte brings few items
pub record IsWithin (p : Place) : Type 0 where
  pub natural : pos 0 ≤ℤ p.tip
  pub few : p.tip ≤ℤ pos (10000 * p.at)
  pub bytes : p.at ≤ longest

abbrev pub log_at : Place → Images → Folded
log_at p images = log_of p.tip images

-- the log was read to the next place, or to the end of the input
abbrev pub IsReadTo : Option (List ℕ) → Option (List ℕ) → Place → Images → Option Place → Type 0
IsReadTo left left' place images (Some next) = ReadsLog left left' (log_at next images) next.at
IsReadTo left left' place images None = EndsLog left left' (log_at place images)

-- a log that was read to a place is read on, or isn't read to its end
abbrev pub ReadsOn : Option (List ℕ) → Option (List ℕ) → Place → Images → Images → Result (Option Place) ToolFault → Type 0
ReadsOn mid left' place images images' result =
    (left : Option (List ℕ)) → ReadsLog left mid (log_at place images) place.at
    → MatchResult result (λ next. IsReadTo left left' place images' next) (λ fault. IsLogFault left left' fault)
