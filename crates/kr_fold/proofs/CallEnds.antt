-- What a dump answers, of what was read and what was written.
use Rattle.std.proofs.Common.{◌≡◌, ℕ, ℤ, inl, inr, List, Option, Result, Ok, Err, sym, subst, arith}
use Rattle.std.specs.Prelude.{OnOk, OnErr, IfErr}
use Rattle.std.specs.Io.KnownBytes.{Appends}
use Rattle.kr_base.specs.FailedPuts.{AppendsFront}
use Rattle.kr_defs.specs.Image.{Image}
use Rattle.kr_dump.specs.DumpText.{dump_text}
use Rattle.kr_snapshot.specs.Grammar.{IsImage}
use Rattle.kr_wire.specs.Grammar.{Exactly}
use Rattle.kr_fold.specs.declared.fault.ToolFault.{ToolFault}
use Rattle.kr_fold.specs.declared.fault.ToolFault.TheVariants as faults
use Rattle.kr_fold.specs.Images.{BreaksAt}
use Rattle.kr_fold.specs.Endings.{TookAll, Dumps, DumpEnds, IsInputFault}

module _ (left left' : Option (List ℕ)) where
  pub dumps_of : (bytes text : List ℕ) (offset : ℤ) (image : Image) → TookAll (Exactly bytes) left left' → IsImage offset image bytes → text ≡ dump_text offset image → Dumps (Exactly text) left left'
  dumps_of bytes text offset image all is told = record {
    offset = offset;
    image = image;
    ends = record { taken = all.taken; took = all.took; end = all.end; short = all.short; is = subst (IsImage offset image) (sym all.is) is };
    wrote = sym told;
  }

  pub dump_done : (written written' : Option (List ℕ)) (text : List ℕ) (result : Result (Unit {0}) ToolFault) → Dumps (Exactly text) left left'
      → OnOk result (Appends written written' text) → OnErr result (AppendsFront written written' text) → IfErr result (λ fault. fault ≡ faults.WriteFault)
      → DumpEnds left left' written written' result
  dump_done written written' text (Ok done) dumps ok err fault =
      record { offset = dumps.offset; image = dumps.image; ends = dumps.ends; wrote = subst (Appends written written') (sym dumps.wrote) ok }
  dump_done written written' text (Err found) dumps ok err fault =
      subst (λ (f : ToolFault). DumpEnds left left' written written' (Err f)) (sym fault)
      (record { offset = dumps.offset; image = dumps.image; ends = dumps.ends; wrote = subst (AppendsFront written written') (sym dumps.wrote) err })

  -- ---- memory runs out

  all_forgotten : (Is : List ℕ → Type 0) → TookAll Is left left' → IsInputFault left left' faults.NoMemory
  all_forgotten Is all = record { taken = all.taken; took = all.took; few = let short = all.short in omega (arith, short) }

  -- for what is told of a break
  pub input_forgotten : (at : ℕ) → IsInputFault left left' (faults.Malformed at) → IsInputFault left left' faults.NoMemory
  input_forgotten at (inl more) = let m = more.1 in record { taken = m.taken; took = m.took; few = let long = m.long in omega (arith, long) }
  input_forgotten at (inr all) = all_forgotten (λ bytes. BreaksAt bytes at) all
