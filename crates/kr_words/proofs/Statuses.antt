-- What is told of a session whose line was written: its own status, or NoMemory in place of a bad frame.
use Rattle.std.proofs.Common.{◌≡◌, ℕ, ◌⊎◌, inl, inr, List, Option, Some, None, Result, Ok, Err, refl, ap, sym, subst, ◌∙◌}
use Rattle.kr_process.specs.declared.status.Status.{Status}
use Rattle.kr_process.specs.declared.status.Status.TheVariants as statuses
use Rattle.kr_session_loop.specs.Endings.{BreaksRightly, EndsWith, RefusesBroken, ServesWhole}
use Rattle.kr_session_loop.specs.Session.{outputs_so_far}
use Rattle.kr_session_loop.proofs.OutputFrames.{all_of}
use Rattle.kr_fold.specs.declared.fault.ToolFault.{ToolFault}
use Rattle.kr_fold.specs.declared.fault.ToolFault.TheVariants as faults
use Rattle.kr_fold.specs.Endings.{DumpEnds, DumpsWhole, FoldEnds, FoldsNoMore, FoldsWhole, RefusesBroken as BrokenImage, RefusesLonger}
use Rattle.kr_fold.proofs.CallEnds.{input_forgotten}
use Rattle.kr_fold.proofs.LogReading.{break_forgotten}
use Rattle.kr_leaders.specs.Endings.{BalancesWhole, RefusesPast}
use Rattle.kr_words.specs.Notes.{IsMalformed, IsOf, status_of}

abbrev pub Same : Status → Status → Type 0
Same told ended = (told ≡ ended) ⊎ ((told ≡ statuses.NoMemory) × IsMalformed ended)

-- the status that is told is the session's, but for NoMemory
pub same_but_memory : (told ended status : Status) → Same told ended → told ≡ status → (status ≡ statuses.NoMemory → ⊥) → ended ≡ status
same_but_memory told ended status (inl e) is other = sym e ∙ is
same_but_memory told ended status (inr p) is other = absurd (other (sym is ∙ p.0))

module _ (left left' written written' : Option (List ℕ)) where
  -- where no line could be written
  no_line : (at : ℕ) → EndsWith left left' written written' (statuses.Malformed at) → EndsWith left left' written written' statuses.NoMemory
  no_line at ends = record {
    progress = ends.progress;
    front = ends.front;
    rest = ends.rest;
    read = ends.read;
    bytes = ends.bytes;
    within = ends.within;
    took = ends.took;
    behind = elim ends.behind.1 [
      | inl refused ↦ inr (inr refused)
      | inr cut ↦ inl cut.0.0
    ];
    wrote = all_of written written' (outputs_so_far ends.progress) ends.wrote;
  }

  pub ends_told : (told ended : Status) → Same told ended → EndsWith left left' written written' ended → EndsWith left left' written written' told
  ends_told told ended (inl e) ends = subst (EndsWith left left' written written') (sym e) ends
  ends_told told ended (inr p) ends =
      subst (EndsWith left left' written written') (sym p.0) (no_line p.1.0 (subst (EndsWith left left' written written') p.1.1 ends))

-- where nothing failed
pub serves_told : (left : Option (List ℕ)) (told ended : Status) → Same told ended → ServesWhole left ended → ServesWhole left told
serves_told left told ended (inl e) whole = subst (ServesWhole left) (sym e) whole
serves_told None told ended (inr p) whole = tt
serves_told (Some stream) told ended (inr p) whole = λ options events session more parts is short. inr p.0

pub refuses_told : (left : Option (List ℕ)) (told ended : Status) → Same told ended → RefusesBroken left ended → RefusesBroken left told
refuses_told left told ended (inl e) broken = subst (RefusesBroken left) (sym e) broken
refuses_told None told ended (inr p) broken = tt
refuses_told (Some stream) told ended (inr p) broken = λ progress front behind parts read none. inr (inr p.0)

pub breaks_told : (left : Option (List ℕ)) (told ended : Status) → Same told ended → BreaksRightly left ended → BreaksRightly left told
breaks_told left told ended (inl e) breaks = subst (BreaksRightly left) (sym e) breaks
breaks_told None told ended (inr p) breaks = tt
breaks_told (Some stream) told ended (inr p) breaks = λ at is. absurd cc

-- ---- fold and dump

abbrev Answer : Type 0
Answer = Result (Unit {0}) ToolFault

malformed_answer : (answer : Answer) (at : ℕ) → statuses.Malformed at ≡ status_of answer → answer ≡ Err (faults.Malformed at)
malformed_answer (Err (faults.Malformed place)) at is = let same : at ≡ place = cc in ap (λ (n : ℕ). let a : Answer = Err (faults.Malformed n) in a) (sym same)
malformed_answer (Ok done) at is = absurd cc
malformed_answer (Err faults.ReadFault) at is = absurd cc
malformed_answer (Err faults.WriteFault) at is = absurd cc
malformed_answer (Err faults.NoMemory) at is = absurd cc
malformed_answer (Err faults.TooLong) at is = absurd cc

-- what an answer tells goes over to the status that is told, where it tells no less of want of memory
pub of_told : (Holds : Answer → Type 0) (told ended : Status) → Same told ended → ((at : ℕ) → Holds (Err (faults.Malformed at)) → Holds (Err faults.NoMemory)) → IsOf Holds ended → IsOf Holds told
of_told Holds told ended (inl e) no_line o = record { answer = o.answer; is = e ∙ o.is; holds = o.holds }
of_told Holds told ended (inr p) no_line o =
    let same : o.answer ≡ Err (faults.Malformed p.1.0) = malformed_answer o.answer p.1.0 (sym p.1.1 ∙ o.is) in
    record { answer = Err faults.NoMemory; is = p.0; holds = no_line p.1.0 (subst Holds same o.holds) }

module _ (at : ℕ) where
  pub no_fold_line : (left left' written written' : Option (List ℕ)) → FoldEnds left left' written written' (Err (faults.Malformed at)) → FoldEnds left left' written written' (Err faults.NoMemory)
  no_fold_line left left' written written' ends = (break_forgotten left left' at ends.0, ends.1)

  pub no_dump_line : (left left' written written' : Option (List ℕ)) → DumpEnds left left' written written' (Err (faults.Malformed at)) → DumpEnds left left' written written' (Err faults.NoMemory)
  no_dump_line left left' written written' ends = (input_forgotten left left' at ends.0, ends.1)

  pub no_folds_whole : (left : Option (List ℕ)) → FoldsWhole left (Err (faults.Malformed at)) → FoldsWhole left (Err faults.NoMemory)
  no_folds_whole None whole = tt
  no_folds_whole (Some stream) whole = λ log is short. inr refl

  pub no_folds_more : (left : Option (List ℕ)) → FoldsNoMore left (Err (faults.Malformed at)) → FoldsNoMore left (Err faults.NoMemory)
  no_folds_more None broken = tt
  no_folds_more (Some stream) broken = λ log front behind parts is none. inr (inr refl)

  pub no_dumps_whole : (left : Option (List ℕ)) → DumpsWhole left (Err (faults.Malformed at)) → DumpsWhole left (Err faults.NoMemory)
  no_dumps_whole None whole = tt
  no_dumps_whole (Some stream) whole = λ offset image is short. inr refl

  pub no_balances_whole : (left : Option (List ℕ)) → BalancesWhole left (Err (faults.Malformed at)) → BalancesWhole left (Err faults.NoMemory)
  no_balances_whole None whole = tt
  no_balances_whole (Some stream) whole = λ offset image is short near. inr refl

  pub no_past : (left : Option (List ℕ)) → RefusesPast left (Err (faults.Malformed at)) → RefusesPast left (Err faults.NoMemory)
  no_past None past = tt
  no_past (Some stream) past = λ offset image is short far. inr refl

  pub no_dumps_broken : (left : Option (List ℕ)) → BrokenImage left (Err (faults.Malformed at)) → BrokenImage left (Err faults.NoMemory)
  no_dumps_broken None broken = tt
  no_dumps_broken (Some stream) broken = λ place breaks short. inr refl

  pub no_dumps_longer : (left : Option (List ℕ)) → RefusesLonger left (Err (faults.Malformed at)) → RefusesLonger left (Err faults.NoMemory)
  no_dumps_longer None broken = tt
  no_dumps_longer (Some stream) broken = λ long. inr refl
