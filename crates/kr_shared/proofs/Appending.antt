-- What the quorum was given so far, and one more.
use Rattle.std.proofs.Common.{◌≡◌, ◌∙◌, sym, ap, subst, refl, ℕ, Bool, true, false, List, [], ◌∷◌, ◌++◌, fold}
use Rattle.std.specs.Prelude.{Option}
use Rattle.std.proofs.lemmas.List.{append_assoc}
use Rattle.std.proofs.lemmas.List.Sums.{fold-append}
use Rattle.kr_base.specs.Causes.{Rose}
use Rattle.kr_model.specs.declared.writes.Told.{Told}
use Rattle.kr_shared.specs.Appends.{Appends, AppendsIf, AppendsOne, FailsAt, with_told_batch}

rose_from : (before now after : ℕ) → now ≡ before → Rose now after → Rose before after
rose_from before now after same rose = subst (λ (n : ℕ). Rose n after) same rose

module _ (told : List Told) (t : Told) (old mid new : Option (List (List ℕ))) (faults then faults' : ℕ) where
  behind_given : (appended : Bool) → Appends old mid faults then told true → AppendsOne mid new then faults' t appended → Appends old new faults faults' (told ++ t ∷ []) appended
  behind_given true h x = (
    x.0 ∙ (ap (λ (p : Option (List (List ℕ))). with_told_batch p t) h.0 ∙ sym (fold-append with_told_batch old told (t ∷ []))),
    x.1 ∙ h.1,
  )
  behind_given false h x = record {
    before = told;
    failed = t;
    behind = [];
    in_order = refl;
    batch = x.0;
    pieces = x.1 ∙ h.0;
    cause = rose_from faults then faults' h.1 x.2;
  }

  behind_failed : FailsAt old mid faults then told → new ≡ mid → faults' ≡ then → FailsAt old new faults faults' (told ++ t ∷ [])
  behind_failed h pieces same = record {
    before = h.before;
    failed = h.failed;
    behind = h.behind ++ t ∷ [];
    in_order = ap (λ (l : List Told). l ++ t ∷ []) h.in_order ∙ append_assoc h.before (h.failed ∷ h.behind) (t ∷ []);
    batch = h.batch;
    pieces = pieces ∙ h.pieces;
    cause = subst (Rose faults) (sym same) h.cause;
  }

  pub appends_more : (before appended : Bool) → Appends old mid faults then told before → AppendsIf before mid new then faults' t appended → Appends old new faults faults' (told ++ t ∷ []) appended
  appends_more true appended h x = behind_given appended h x
  appends_more false appended h x = subst (Appends old new faults faults' (told ++ t ∷ [])) (sym x.2) (behind_failed h x.0 x.1)
