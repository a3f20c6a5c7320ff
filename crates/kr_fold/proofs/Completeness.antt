-- What a fold and a dump answer where nothing failed.
use Rattle.std.proofs.Common.{◌≡◌, ◌∙◌, ℕ, ℤ, ◌<◌, ◌≤◌, ◌⊎◌, inl, inr, List, ◌++◌, length, length-append, append_assoc, Option, Some, None, Result, Ok, Err, refl, sym, ap, subst, arith}
use Rattle.std.specs.Prelude.{IsErrOf}
use Rattle.std.specs.Io.KnownBytes.{Consumes, IsAtEnd}
use Rattle.std.proofs.lemmas.List.{append-nil}
use Rattle.kr_defs.specs.Image.{Image}
use Rattle.kr_snapshot.specs.Grammar.{IsImage}
use Rattle.kr_snapshot.proofs.WholeImages.{image_complete}
use Rattle.kr_fold.specs.declared.fault.ToolFault.{ToolFault}
use Rattle.kr_fold.specs.declared.fault.ToolFault.TheVariants as faults
use Rattle.kr_fold.specs.SourceBytes.{longest}
use Rattle.kr_fold.specs.Logs.{Folded, IsLog, NoneFollows}
use Rattle.kr_fold.specs.Images.{BreaksAt}
use Rattle.kr_fold.specs.Endings.{FoldEnds, FoldsWhole, FoldsNoMore, DumpEnds, DumpsWhole, RefusesBroken, RefusesLonger, largest}
use Rattle.kr_fold.proofs.Batches.{one_break, whole_not_broken}
use Rattle.kr_fold.proofs.Fronts.{one_place}

abbrev Answer : Type 0
Answer = Result (Unit {0}) ToolFault

-- all that was known was taken
all_taken : (stream taken : List ℕ) (l : Option (List ℕ)) → Consumes (Some stream) l taken → IsAtEnd l → stream ≡ taken
all_taken stream taken None took end = absurd took
all_taken stream taken (Some l) took end = took ∙ (ap (λ (x : List ℕ). taken ++ x) end ∙ append-nil taken)

behind_part : (stream front rest : List ℕ) (l : Option (List ℕ)) → Consumes (Some stream) l (front ++ rest) → (behind : List ℕ) × (stream ≡ front ++ behind)
behind_part stream front rest None took = absurd took
behind_part stream front rest (Some l) took = (rest ++ l, took ∙ append_assoc front rest l)

no_longer : (stream taken : List ℕ) (l : Option (List ℕ)) → Consumes (Some stream) l taken → length taken ≤ length stream
no_longer stream taken None took = absurd took
no_longer stream taken (Some l) took = let e = ap (λ (x : List ℕ). length x) took ∙ length-append taken l in omega (arith, e)

module _ (stream : List ℕ) (left' written written' : Option (List ℕ)) where
  whole_folds : (result : Answer) → FoldEnds (Some stream) left' written written' result → (IsErrOf result faults.ReadFault → ⊥) → (IsErrOf result faults.WriteFault → ⊥)
      → (log : Folded) → IsLog log stream → length stream < longest → (result ≡ Ok tt) ⊎ (result ≡ Err faults.NoMemory)
  whole_folds (Ok tt) ends read write log is short = inl refl
  whole_folds (Err faults.NoMemory) ends read write log is short = inr refl
  whole_folds (Err faults.ReadFault) ends read write log is short = absurd (read refl)
  whole_folds (Err faults.WriteFault) ends read write log is short = absurd (write refl)
  whole_folds (Err (faults.Malformed at)) ends read write log is short =
      let e = ends.0 in
      let b = behind_part stream e.front e.rest left' e.took in
      absurd (whole_not_broken log e.log stream e.front b.0 is b.1 e.is (e.behind.none b.0 b.1))
  whole_folds (Err faults.TooLong) ends read write log is short =
      let e = ends.0 in
      let n = no_longer stream (e.front ++ e.rest) left' e.took in
      let l = length-append e.front e.rest in
      let long = e.behind.1 in
      absurd (omega (arith, n, l, long, short))

  broken_folds : (result : Answer) → FoldEnds (Some stream) left' written written' result → (IsErrOf result faults.ReadFault → ⊥) → (IsErrOf result faults.WriteFault → ⊥)
      → (log : Folded) (front behind : List ℕ) → stream ≡ front ++ behind → IsLog log front → NoneFollows log behind
      → (result ≡ Err (faults.Malformed (length front))) ⊎ (result ≡ Err faults.TooLong) ⊎ (result ≡ Err faults.NoMemory)
  broken_folds (Ok tt) ends read write log front behind parts is none =
      let e = ends.ends in
      let all = all_taken stream e.taken left' e.took e.end in
      absurd (whole_not_broken ends.log log e.taken front behind e.is (sym all ∙ parts) is none)
  broken_folds (Err faults.NoMemory) ends read write log front behind parts is none = inr (inr refl)
  broken_folds (Err faults.TooLong) ends read write log front behind parts is none = inr (inl refl)
  broken_folds (Err faults.ReadFault) ends read write log front behind parts is none = absurd (read refl)
  broken_folds (Err faults.WriteFault) ends read write log front behind parts is none = absurd (write refl)
  broken_folds (Err (faults.Malformed at)) ends read write log front behind parts is none =
      let e = ends.0 in
      let b = behind_part stream e.front e.rest left' e.took in
      let same = one_break e.log log e.front b.0 front behind e.is (e.behind.none b.0 b.1) is none (sym b.1 ∙ parts) in
      inl (ap (λ (n : ℕ). let r : Answer = Err (faults.Malformed n) in r) (e.behind.place ∙ same))

  no_image : (offset : ℤ) (image : Image) (at : ℕ) → IsImage offset image stream → BreaksAt stream at → ⊥
  no_image offset image at is breaks = let clash = sym (image_complete offset image stream is) ∙ breaks.none in cc

  whole_dumps : (result : Answer) → DumpEnds (Some stream) left' written written' result → (IsErrOf result faults.ReadFault → ⊥) → (IsErrOf result faults.WriteFault → ⊥)
      → (offset : ℤ) (image : Image) → IsImage offset image stream → length stream ≤ largest → (result ≡ Ok tt) ⊎ (result ≡ Err faults.NoMemory)
  whole_dumps (Ok tt) ends read write offset image is short = inl refl
  whole_dumps (Err faults.NoMemory) ends read write offset image is short = inr refl
  whole_dumps (Err faults.ReadFault) ends read write offset image is short = absurd (read refl)
  whole_dumps (Err faults.WriteFault) ends read write offset image is short = absurd (write refl)
  whole_dumps (Err faults.TooLong) ends read write offset image is short = absurd ends.0
  whole_dumps (Err (faults.Malformed at)) ends read write offset image is short = elim ends.0 [
    | inl more ↦
        let m = more.1 in
        let n = no_longer stream m.taken left' m.took in
        let long = m.long in
        absurd (omega (arith, n, long, short))
    | inr all ↦
        let same = all_taken stream all.taken left' all.took all.end in
        absurd (no_image offset image at is (subst (λ (bytes : List ℕ). BreaksAt bytes at) (sym same) all.is))
  ]

  broken_dumps : (result : Answer) → DumpEnds (Some stream) left' written written' result → (IsErrOf result faults.ReadFault → ⊥) → (IsErrOf result faults.WriteFault → ⊥)
      → (at : ℕ) → BreaksAt stream at → length stream ≤ largest → (result ≡ Err (faults.Malformed at)) ⊎ (result ≡ Err faults.NoMemory)
  broken_dumps (Ok tt) ends read write at breaks short =
      let e = ends.ends in
      let same = all_taken stream e.taken left' e.took e.end in
      absurd (no_image ends.offset ends.image at (subst (IsImage ends.offset ends.image) (sym same) e.is) breaks)
  broken_dumps (Err faults.NoMemory) ends read write at breaks short = inr refl
  broken_dumps (Err faults.ReadFault) ends read write at breaks short = absurd (read refl)
  broken_dumps (Err faults.WriteFault) ends read write at breaks short = absurd (write refl)
  broken_dumps (Err faults.TooLong) ends read write at breaks short = absurd ends.0
  broken_dumps (Err (faults.Malformed place)) ends read write at breaks short = elim ends.0 [
    | inl more ↦
        let m = more.1 in
        let n = no_longer stream m.taken left' m.took in
        let long = m.long in
        absurd (omega (arith, n, long, short))
    | inr all ↦
        let same = all_taken stream all.taken left' all.took all.end in
        let one = one_place stream place at (subst (λ (bytes : List ℕ). BreaksAt bytes place) (sym same) all.is) breaks in
        inl (ap (λ (n : ℕ). let r : Answer = Err (faults.Malformed n) in r) one)
  ]

  longer_dumps : (result : Answer) → DumpEnds (Some stream) left' written written' result → (IsErrOf result faults.ReadFault → ⊥) → (IsErrOf result faults.WriteFault → ⊥)
      → largest < length stream → (result ≡ Err (faults.Malformed largest)) ⊎ (result ≡ Err faults.NoMemory)
  longer_dumps (Ok tt) ends read write long =
      let e = ends.ends in
      let same = ap (λ (x : List ℕ). length x) (all_taken stream e.taken left' e.took e.end) in
      let short = e.short in
      absurd (omega (arith, same, short, long))
  longer_dumps (Err faults.NoMemory) ends read write long = inr refl
  longer_dumps (Err faults.ReadFault) ends read write long = absurd (read refl)
  longer_dumps (Err faults.WriteFault) ends read write long = absurd (write refl)
  longer_dumps (Err faults.TooLong) ends read write long = absurd ends.0
  longer_dumps (Err (faults.Malformed place)) ends read write long = elim ends.0 [
    | inl more ↦ inl (ap (λ (n : ℕ). let r : Answer = Err (faults.Malformed n) in r) more.0)
    | inr all ↦
        let same = ap (λ (x : List ℕ). length x) (all_taken stream all.taken left' all.took all.end) in
        let short = all.short in
        absurd (omega (arith, same, short, long))
  ]

module _ (left' written written' : Option (List ℕ)) (result : Answer) where
  pub folds_whole : (left : Option (List ℕ)) → FoldEnds left left' written written' result → (IsErrOf result faults.ReadFault → ⊥) → (IsErrOf result faults.WriteFault → ⊥) → FoldsWhole left result
  folds_whole None ends read write = tt
  folds_whole (Some stream) ends read write = whole_folds stream left' written written' result ends read write

  pub folds_no_more : (left : Option (List ℕ)) → FoldEnds left left' written written' result → (IsErrOf result faults.ReadFault → ⊥) → (IsErrOf result faults.WriteFault → ⊥) → FoldsNoMore left result
  folds_no_more None ends read write = tt
  folds_no_more (Some stream) ends read write = broken_folds stream left' written written' result ends read write

  pub dumps_whole : (left : Option (List ℕ)) → DumpEnds left left' written written' result → (IsErrOf result faults.ReadFault → ⊥) → (IsErrOf result faults.WriteFault → ⊥) → DumpsWhole left result
  dumps_whole None ends read write = tt
  dumps_whole (Some stream) ends read write = whole_dumps stream left' written written' result ends read write

  pub refuses_broken : (left : Option (List ℕ)) → DumpEnds left left' written written' result → (IsErrOf result faults.ReadFault → ⊥) → (IsErrOf result faults.WriteFault → ⊥) → RefusesBroken left result
  refuses_broken None ends read write = tt
  refuses_broken (Some stream) ends read write = broken_dumps stream left' written written' result ends read write

  pub refuses_longer : (left : Option (List ℕ)) → DumpEnds left left' written written' result → (IsErrOf result faults.ReadFault → ⊥) → (IsErrOf result faults.WriteFault → ⊥) → RefusesLonger left result
  refuses_longer None ends read write = tt
  refuses_longer (Some stream) ends read write = longer_dumps stream left' written written' result ends read write
