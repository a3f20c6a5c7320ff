-- The batch at the front of bytes: how many bytes it has, and what is shown of it.
use Rattle.std.proofs.Common.{◌≡◌, ◌∙◌, ℕ, ◌+◌, ◌<◌, ◌≤◌, List, ◌++◌, length, take, drop, Err, refl, ap, subst, arith}
use Rattle.std.proofs.Math.Seq.{take-add}
use Rattle.std.proofs.lemmas.List.{length-drop}
use Rattle.kr_defs.specs.declared.limits.TheConstants.{MOST_RECORDS}
use Rattle.kr_batch.specs.declared.Batch.{Batch}
use Rattle.kr_batch.specs.declared.fault.BatchFault.{BatchFault}
use Rattle.kr_batch.specs.declared.fault.BatchFault.TheVariants as batches
use Rattle.kr_batch.specs.Answers.{IsFault}
use Rattle.kr_batch.specs.Grammar.{IsBatch}
use Rattle.kr_batch.specs.Reading.{batch_of}
use Rattle.kr_lines.specs.declared.fault.ShowFault.{ShowFault}
use Rattle.kr_lines.specs.declared.fault.ShowFault.TheVariants as faults
use Rattle.kr_lines.specs.BatchLines.{batch_lines}
use Rattle.kr_lines.specs.Endings.{IsTooShort, cut, refused}
use Rattle.kr_lines.specs.inner.Steps.{IsFront, IsNoText, IsShownTo, IsStopped, IsTextOf, fault_of}

pub batch_few : (batch : Batch) (bytes : List ℕ) → IsBatch batch bytes → length batch.items ≤ MOST_RECORDS
batch_few batch bytes is = is.fixed.first.second.second.second.second.few

pub text_of_batch : (batch : Batch) (bytes text : List ℕ) → IsBatch batch bytes → text ≡ batch_lines batch bytes → IsTextOf bytes text
text_of_batch batch bytes text is lines = record { batch = batch; is = is; lines = lines }

-- where decoding answers a fault, it is the bytes' but for want of memory
pub no_text : (bytes : List ℕ) (at : ℕ) (fault : BatchFault) → IsFault fault (batch_of bytes) → IsNoText bytes at (fault_of at fault)
no_text bytes at batches.NoMemory is = tt
no_text bytes at batches.Short is = (refl, is)
no_text bytes at batches.Trailing is = (refl, is)
no_text bytes at (batches.Magic found) is = (refl, is)
no_text bytes at (batches.Crc stored counted) is = (refl, is)
no_text bytes at (batches.Compressed kind) is = (refl, is)
no_text bytes at (batches.BadCount count delta) is = (refl, is)
no_text bytes at (batches.BadOffset place) is = (refl, is)
no_text bytes at (batches.Record place cause) is = (refl, is)

module _ (bytes : List ℕ) (at : ℕ) (text : List ℕ) where
  pub shown_to : (len : ℕ) (text' lines : List ℕ) → at + len ≤ length bytes → 12 ≤ len → IsTextOf (take len (drop at bytes)) lines → text' ≡ text ++ lines → IsShownTo bytes at text text' (at + len)
  shown_to len text' lines within some is grown = record {
    batch = is.batch;
    front = take len (drop at bytes);
    parts = take-add at len bytes;
    is = is.is;
    lines = grown ∙ ap (λ (l : List ℕ). text ++ l) is.lines;
    more = omega (arith, some);
    within = within;
  }

  pub stopped_short : at < length bytes → IsTooShort (drop at bytes) → IsStopped bytes at text text (faults.Malformed at batches.Short)
  stopped_short more short =
      let some : 0 < length (drop at bytes) = simp length-drop (omega (arith, more)) in
      (refl, cut some short, refl)

  pub stopped_refused : (len : ℕ) (fault : ShowFault) → IsFront (drop at bytes) len → IsNoText (take len (drop at bytes)) at fault → IsStopped bytes at text text fault
  stopped_refused len (faults.Malformed place cause) front is =
      let whole : batch_of (take (front.0 + 12) (drop at bytes)) ≡ Err cause = subst (λ (n : ℕ). batch_of (take n (drop at bytes)) ≡ Err cause) front.2 is.1 in
      (is.0, refused front.0 cause front.1 whole, refl)
  stopped_refused len faults.NoMemory front is = refl
  stopped_refused len faults.ReadFault front is = absurd is
  stopped_refused len faults.WriteFault front is = absurd is
  stopped_refused len faults.BadHead front is = absurd is
  stopped_refused len faults.TooLong front is = absurd is
