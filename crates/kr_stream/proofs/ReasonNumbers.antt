-- A reason is the only one with its numbers.
use Rattle.std.proofs.Common.{◌≡◌, ◌∙◌, ℕ, ℤ, pos, cond, nat_eq, refl, sym, ap}
use Rattle.std.specs.Prelude.{unsigned_abs}
use Rattle.std.specs.Ordering.{int_eq}
use Rattle.kr_defs.specs.declared.ill.Ill.{Ill}
use Rattle.kr_defs.specs.declared.ill.Ill.TheVariants as ills
use Rattle.kr_defs.specs.Causes as causes
use Rattle.kr_calls.specs.declared.events.BatchRefusal.{BatchRefusal}
use Rattle.kr_calls.specs.declared.events.BatchRefusal.TheVariants as batches
use Rattle.kr_calls.specs.declared.events.ImageRefusal.{ImageRefusal}
use Rattle.kr_calls.specs.declared.events.ImageRefusal.TheVariants as images
use Rattle.kr_calls.specs.declared.events.Reason.{Reason}
use Rattle.kr_calls.specs.declared.events.Reason.TheVariants as reasons
use Rattle.kr_stream.specs.RefusalNumbers.{batch_number, first_number, image_number, image_place, reason_number, record_named, second_number, third_number}

-- ---- what numbers stand for

abbrev batch_of : ℤ → ℤ → BatchRefusal
batch_of number at =
    cond (int_eq number (pos 1)) batches.Short
    (cond (int_eq number (pos 2)) batches.Trailing
    (cond (int_eq number (pos 3)) batches.Magic
    (cond (int_eq number (pos 4)) batches.Crc
    (cond (int_eq number (pos 5)) batches.Compressed
    (cond (int_eq number (pos 6)) batches.BadCount
    (cond (int_eq number (pos 7)) (batches.BadOffset (unsigned_abs at)) (batches.Record (unsigned_abs at))))))))

abbrev image_of : ℤ → ℤ → ImageRefusal
image_of number place =
    cond (int_eq number (pos 1)) (images.Batch place)
    (cond (int_eq number (pos 2)) images.NoEnd
    (cond (int_eq number (pos 3)) (images.Order place) (images.IllFormed place)))

abbrev cause_of : ℤ → Ill
cause_of number =
    cond (int_eq number (pos 1)) ills.BadNumber
    (cond (int_eq number (pos 2)) ills.NoBroker
    (cond (int_eq number (pos 3)) ills.StaleEpoch
    (cond (int_eq number (pos 4)) ills.NoTopic
    (cond (int_eq number (pos 5)) ills.TopicExists
    (cond (int_eq number (pos 6)) ills.BadName
    (cond (int_eq number (pos 7)) ills.NoPartition
    (cond (int_eq number (pos 8)) ills.PartitionExists
    (cond (int_eq number (pos 9)) ills.BadPartition
    (cond (int_eq number (pos 10)) ills.Limit ills.BadTransaction)))))))))

abbrev reason_of : ℕ → ℤ → ℤ → ℤ → Reason
reason_of number first second third =
    cond (nat_eq number 1) (reasons.AlreadyLeading first)
    (cond (nat_eq number 2) (reasons.NotLeading first second)
    (cond (nat_eq number 3) (reasons.OldEpoch first second)
    (cond (nat_eq number 4) (reasons.BadNext first second)
    (cond (nat_eq number 5) (reasons.BadCommit first second third)
    (cond (nat_eq number 6) (reasons.Gap first second)
    (cond (nat_eq number 7) (reasons.BadBatch (batch_of first second))
    (cond (nat_eq number 8) (reasons.IllFormed first (cause_of second))
    (cond (nat_eq number 9) (reasons.OlderImage first second)
    (cond (nat_eq number 10) (reasons.BadImage (image_of first second)) (reasons.Exhausted first))))))))))

-- ---- each is that of its own numbers

batch_again : (r : BatchRefusal) → batch_of (pos (batch_number r)) (pos (record_named r)) ≡ r
batch_again batches.Short = refl
batch_again batches.Trailing = refl
batch_again batches.Magic = refl
batch_again batches.Crc = refl
batch_again batches.Compressed = refl
batch_again batches.BadCount = refl
batch_again (batches.BadOffset at) = refl
batch_again (batches.Record at) = refl

image_again : (r : ImageRefusal) → image_of (pos (image_number r)) (image_place r) ≡ r
image_again (images.Batch place) = refl
image_again images.NoEnd = refl
image_again (images.Order place) = refl
image_again (images.IllFormed place) = refl

cause_again : (c : Ill) → cause_of (pos (causes.number_of c)) ≡ c
cause_again ills.BadNumber = refl
cause_again ills.NoBroker = refl
cause_again ills.StaleEpoch = refl
cause_again ills.NoTopic = refl
cause_again ills.TopicExists = refl
cause_again ills.BadName = refl
cause_again ills.NoPartition = refl
cause_again ills.PartitionExists = refl
cause_again ills.BadPartition = refl
cause_again ills.Limit = refl
cause_again ills.BadTransaction = refl

abbrev again : Reason → Reason
again r = reason_of (reason_number r) (first_number r) (second_number r) (third_number r)

reason_again : (r : Reason) → again r ≡ r
reason_again (reasons.AlreadyLeading ours) = refl
reason_again (reasons.NotLeading asked ours) = refl
reason_again (reasons.OldEpoch asked greatest) = refl
reason_again (reasons.BadNext asked end) = refl
reason_again (reasons.BadCommit asked committed tip) = refl
reason_again (reasons.Gap expected found) = refl
reason_again (reasons.BadBatch refusal) = ap (λ r. reasons.BadBatch r) (batch_again refusal)
reason_again (reasons.IllFormed place cause) = ap (λ c. reasons.IllFormed place c) (cause_again cause)
reason_again (reasons.OlderImage asked committed) = refl
reason_again (reasons.BadImage refusal) = ap (λ r. reasons.BadImage r) (image_again refusal)
reason_again (reasons.Exhausted place) = refl

pub one_reason : (a b : Reason) → reason_number a ≡ reason_number b → first_number a ≡ first_number b → second_number a ≡ second_number b → third_number a ≡ third_number b → a ≡ b
one_reason a b number first second third =
    let same : again a ≡ again b = rw (number, first, second, third) refl in
    sym (reason_again a) ∙ (same ∙ reason_again b)
