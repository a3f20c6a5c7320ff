-- The words of an image's fault tell what reading gives, unless memory ran out.
use Rattle.std.proofs.Common.{◌≡◌, ℕ, ℤ, List, refl, sym, Result, Ok, Err}
use Rattle.std.specs.Prelude.{IfOk, IsErr}
use Rattle.kr_defs.specs.Image.{Image}
use Rattle.kr_snapshot.specs.declared.fault.ImageFault.{ImageFault}
use Rattle.kr_snapshot.specs.declared.fault.ImageFault.TheVariants as faults
use Rattle.kr_snapshot.specs.ReaderState.{IsFault}
use Rattle.testlib_codec_answers.proofs.FaultWords.{true_not_false}
use Rattle.testlib_codec_answers.specs.ImageWords.{TellsImage, fault_words}

module _ {T : Type 0} (bytes_of : T → List ℕ) (at : ℕ) where
  told : (fault : ImageFault) (read : Result (ℤ × Image) ImageFault) (text : T) → (fault ≡ faults.NoMemory → ⊥) → IsFault fault read
      → bytes_of text ≡ fault_words fault at → TellsImage (bytes_of text) read
  told faults.NoMemory read text none is words = absurd (none refl)
  told (faults.Batch place cause) read text none is words = rw is (record { at = at; told = words })
  told (faults.NoEnd found expected) read text none is words = rw is (record { at = at; told = words })
  told (faults.Order place) read text none is words = rw is (record { at = at; told = words })
  told (faults.IllFormed place cause) read text none is words = rw is (record { at = at; told = words })

  pub told_fault : {E : Type 0} (fault : ImageFault) (read : Result (ℤ × Image) ImageFault) (answer : Result T E) → IsFault fault read
      → IfOk answer (λ text. bytes_of text ≡ fault_words fault at) → (fault ≡ faults.NoMemory → IsErr answer) → IfOk answer (λ text. TellsImage (bytes_of text) read)
  told_fault fault read (Ok text) is words none = told fault read text (λ no. true_not_false (sym (none no))) is words
  told_fault fault read (Err e) is words none = tt
