-- The image that bytes stand for is valid.
use Rattle.std.proofs.Common.{ℕ, ℤ, pos, List, [], ◌∷◌, ◌++◌, refl, arith, ◌+◌, length, not}
use Rattle.std.proofs.lemmas.List.Elements.{All-nil}
use Rattle.std.specs.Prelude.{Option, Some, None, Result, Ok, Err, nat_lt}
use Rattle.std.specs.List.{list_any}
use Rattle.std.specs.List.Sorted.{IsStrictlySortedBy}
use Rattle.std.specs.Ordering.{int_eq}
use Rattle.kr_batch.specs.declared.Batch.{Batch}
use Rattle.kr_batch.specs.Reading.{batch_of}
use Rattle.kr_defs.specs.declared.ill.Ill.{Ill}
use Rattle.kr_defs.specs.declared.record.Item.{Item}
use Rattle.kr_defs.specs.declared.record.Item.TheVariants as items
use Rattle.kr_defs.specs.declared.record.Record.{Record}
use Rattle.kr_defs.specs.Apply.{apply}
use Rattle.kr_defs.specs.Image.{Image, IsValid, empty}
use Rattle.kr_defs.specs.ImageOrder.{is_later}
use Rattle.kr_defs.proofs.Tests.{Gives, gives_done, gives_if, gives_refuse}
use Rattle.kr_defs.proofs.Validity.{kept}
use Rattle.kr_wire.specs.Reading.{◌>>=◌}
use Rattle.kr_snapshot.specs.declared.fault.BatchCause.TheVariants as causes
use Rattle.kr_snapshot.specs.declared.fault.ImageFault.TheVariants as faults
use Rattle.kr_snapshot.specs.Reading.{Progress, Taken, batch_fault_behind, batch_read, batch_refused, batch_taken, ends, extent, goes_on, head_taken, headed, image_at_end, image_of, is_control, item_read, items_read, judged, nothing_taken, numbers_at, record_read, size_at, so_far, waits, whole_read, with_meaning}

pub empty_valid : IsValid empty
unfolding IsStrictlySortedBy
empty_valid = record {
  brokers = record { ordered = tt; numbers = All-nil _; small = All-nil _; few = omega arith };
  topics = record { ordered = tt; names = All-nil _; ids = All-nil _; distinct = refl; few = omega arith };
  partitions = record { ordered = tt; owned = All-nil _; indexes = All-nil _; well_formed = All-nil _; few = omega arith };
  configs = record { ordered = tt; little = omega arith };
  features = record { ordered = tt; levels = All-nil _; short = All-nil _; few = omega arith };
}

then_gives : {X Y E : Type 0} (Q : X → Type 0) (P : Y → Type 0) (r : Result X E) (next : X → Result Y E) → Gives Q r → ((x : X) → Q x → Gives P (next x)) → Gives P (r >>= next)
then_gives Q P (Ok x) next first step y is = step x (first x refl) y is
then_gives Q P (Err e) next first step y is = absurd cc

-- ---- records

-- the image of the records so far is valid
abbrev IsGood : Progress → Type 0
IsGood p = IsValid p.image

meaning_good : (p : Progress) (r : Record) (q : Result Image Ill) → Gives IsValid q → Gives IsGood (with_meaning p r q)
meaning_good p r (Ok image) good = gives_done IsGood _ (good image refl)
meaning_good p r (Err cause) good = λ after is. absurd cc

record_good : (p : Progress) (r : Record) → IsGood p → Gives IsGood (record_read p r)
unfolding record_read
record_good p r good =
    gives_refuse IsGood (faults.Order (pos p.found)) (not (is_later p.seen r)) _ (λ _. meaning_good p r (apply p.image (items.Record r)) (kept p.image good (items.Record r)))

item_good : (p : Progress) (item : Item) → IsGood p → Gives IsGood (item_read p item)
item_good p (items.Record r) good = record_good p r good
item_good p items.Control good = λ after is. absurd cc

items_good : (those : List Item) (p : Progress) → IsGood p → Gives IsGood (items_read p those)
items_good [] p good = gives_done IsGood p good
items_good (item ∷ others) p good = then_gives IsGood IsGood (item_read p item) (λ next. items_read next others) (item_good p item good) (λ next g. items_good others next g)

-- ---- batches

batch_good : (p : Progress) (batch : Batch) → IsGood p → Gives IsGood (batch_read p batch)
unfolding batch_read
batch_good p batch good =
    gives_refuse IsGood (batch_fault_behind p.found causes.Base) (not (int_eq batch.base (pos p.found))) _ (λ _.
    gives_refuse IsGood (batch_fault_behind p.found causes.Control) (list_any is_control batch.items) _ (λ _.
    gives_refuse IsGood (faults.NoEnd (p.found + length batch.items) p.expected) (nat_lt p.expected (p.found + length batch.items)) _ (λ _. items_good batch.items p good)))

whole_good : (p : Progress) (bytes : List ℕ) → IsGood p → Gives IsGood (whole_read p bytes)
unfolding whole_read
whole_good p bytes good = then_gives (λ (b : Batch). Unit {0}) IsGood (batch_refused p.found (batch_of bytes)) (batch_read p) (λ _ _. tt) (λ batch _. batch_good p batch good)

-- ---- bytes

abbrev IsGoodBody : Option (ℤ × Progress) → Type 0
IsGoodBody None = Unit {0}
IsGoodBody (Some b) = IsGood b.1

abbrev IsGoodSoFar : Taken → Type 0
IsGoodSoFar t = IsGoodBody t.body

head_good : (held : List ℕ) → Gives IsGoodSoFar (head_taken held)
unfolding head_taken
head_good held =
    gives_if IsGoodSoFar (nat_lt (length held) 16) (waits None held) _ (λ _. gives_done IsGoodSoFar _ tt)
    (λ _. then_gives (λ (head : (ℤ × ℕ) × List ℕ). Unit {0}) IsGoodSoFar (headed (numbers_at held)) _ (λ _ _. tt) (λ head _. gives_done IsGoodSoFar _ empty_valid))

batch_taken_good : (b : ℤ × Progress) (held : List ℕ) → IsGood b.1 → Gives IsGoodSoFar (batch_taken b held)
unfolding batch_taken
batch_taken_good b held good =
    gives_if IsGoodSoFar (nat_lt (length held) 12) (waits (Some b) held) _ (λ _. gives_done IsGoodSoFar _ good)
    (λ _. then_gives (λ (size : ℕ). Unit {0}) IsGoodSoFar (batch_refused b.1.found (size_at held)) _ (λ _ _. tt) (λ size _.
    gives_if IsGoodSoFar (nat_lt (length held) (extent size)) (waits (Some b) held) _ (λ _. gives_done IsGoodSoFar _ good)
    (λ _. then_gives IsGood IsGoodSoFar (whole_read b.1 held) _ (whole_good b.1 held good) (λ next g. gives_done IsGoodSoFar _ g))))

judged_good : (body : Option (ℤ × Progress)) (held : List ℕ) → IsGoodBody body → Gives IsGoodSoFar (judged body held)
judged_good None held good = head_good held
judged_good (Some b) held good = batch_taken_good b held good

goes_good : (bytes : List ℕ) (t : Taken) → IsGoodSoFar t → Gives IsGoodSoFar (goes_on t bytes)
goes_good [] t good = gives_done IsGoodSoFar t good
goes_good (byte ∷ bytes) t good =
    then_gives IsGoodSoFar IsGoodSoFar (judged t.body (t.held ++ byte ∷ [])) (λ next. goes_on next bytes) (judged_good t.body (t.held ++ byte ∷ []) good) (λ next g. goes_good bytes next g)

-- ---- the image

abbrev pub IsLoadable : ℤ × Image → Type 0
IsLoadable x = IsValid x.1

ends_good : (body : Option (ℤ × Progress)) (held : List ℕ) → IsGoodBody body → Gives IsLoadable (ends body held)
ends_good None held good = λ x is. absurd cc
ends_good (Some b) [] good =
    then_gives IsValid IsLoadable (image_at_end b.1) (λ image. Ok (b.0, image))
    (gives_refuse IsValid (faults.NoEnd b.1.found b.1.expected) (nat_lt b.1.found b.1.expected) (Ok b.1.image) (λ _. gives_done IsValid b.1.image good))
    (λ image valid. gives_done IsLoadable (b.0, image) valid)
ends_good (Some b) (byte ∷ held) good = λ x is. absurd cc

pub loaded_valid : (bytes : List ℕ) → Gives IsLoadable (image_of bytes)
unfolding image_of
loaded_valid bytes = then_gives IsGoodSoFar IsLoadable (so_far bytes) (λ t. ends t.body t.held) (goes_good bytes nothing_taken tt) (λ t good. ends_good t.body t.held good)
