-- The first line that is refused is the first that isn't allowed.
use Rattle.std.proofs.Common.{◌≡◌, ◌∙◌, sym, ℕ, zero, suc, ◌+◌, ◌<◌, List, [], ◌∷◌, refl, ap, subst, arith}
use Rattle.std.specs.Prelude.{Option, None, Some, nat_lt, not}
use Rattle.std.specs.Option.{option_map}
use Rattle.law_quorum.specs.Batches.{StoredImage}
use Rattle.law_link.specs.Links.{ArePossible, Web, no_web}
use Rattle.law_link.proofs.LinkSteps.{IsWeb}
use Rattle.law_link.proofs.StepLaws.{first_web, links_hand_right, step_right}
use Rattle.law_tape.specs.Rules.{TapeState, first_refused, known_fault, line_fault, node_told, refusal_or, state_after, tape_begins}
use Rattle.law_tape.specs.Tapes.{AllowedTapesAreSafe, IsAllowedLine, IsPossibleLine, IsVerdict, VerdictsAreExact, fold_of, step_for, tape_steps, web_after}
use Rattle.law_tape.specs.declared.fault.Fault.{Fault}
use Rattle.law_tape.specs.declared.fault.Fault.TheVariants as faults
use Rattle.law_tape.specs.declared.line.Line.{Line}
use Rattle.law_tape.specs.declared.line.Line.TheVariants as lines
use Rattle.law_tape.proofs.Allowed.{goes_on, passes}
use Rattle.law_tape.proofs.EqualityLemmas.{holds_not, lt_true, not_holds, true_lt}
use Rattle.law_tape.proofs.Acts.{act_allowed, allowed_act}
use Rattle.law_tape.proofs.ActsAfter.{act_shown}
use Rattle.law_tape.proofs.Standing.{Shows, nothing_shown}
use Rattle.law_tape.proofs.Stores.{allowed_change, change_allowed, change_shown}

module _ (folds : List StoredImage) where
  possible_line : (w : Web) (s : TapeState) → Shows w s → IsWeb (fold_of folds) w → (line : Line) → known_fault folds s line ≡ None → IsPossibleLine folds w line
  possible_line w s h web (lines.Store seen change) f = change_allowed folds w s h web seen change f
  possible_line w s h web (lines.Link k act) f = act_allowed folds w s h web k act f

  no_known_fault : (w : Web) (s : TapeState) → Shows w s → IsWeb (fold_of folds) w → (line : Line) → IsPossibleLine folds w line → known_fault folds s line ≡ None
  no_known_fault w s h web (lines.Store seen change) p = allowed_change folds w s h web seen change p
  no_known_fault w s h web (lines.Link k act) p = allowed_act folds w s h web k act p

  line_allowed : (w : Web) (s : TapeState) → Shows w s → IsWeb (fold_of folds) w → (line : Line) → line_fault folds s line ≡ None → IsAllowedLine folds w line
  line_allowed w s h web line f = let a = passes faults.NoNode _ _ f in (lt_true (node_told line) 256 (holds_not _ a.0), possible_line w s h web line a.1)

  allowed_line : (w : Web) (s : TapeState) → Shows w s → IsWeb (fold_of folds) w → (line : Line) → IsAllowedLine folds w line → line_fault folds s line ≡ None
  allowed_line w s h web line p = goes_on faults.NoNode _ _ (not_holds _ (true_lt (node_told line) 256 p.0)) (no_known_fault w s h web line p.1)

  line_shown : (w : Web) (s : TapeState) → Shows w s → IsWeb (fold_of folds) w → (line : Line) → IsAllowedLine folds w line → Shows (web_after w line) (state_after s line)
  line_shown w s h web (lines.Store seen change) p = change_shown folds w s h web seen change p.1
  line_shown w s h web (lines.Link k act) p = act_shown folds w s h web k p.0 act p.1

  -- the number of a refused line, counted from another one on
  abbrev number_of : Option (ℕ × Fault) → Option ℕ
  number_of refusal = option_map (λ (r : ℕ × Fault). r.0) refusal

  abbrev counted : ℕ → Option ℕ → Option ℕ
  counted at answer = option_map (λ (n : ℕ). at + n) answer

  abbrev Answered : ℕ → Web → TapeState → List Line → Type 0
  Answered at w s lines' = (answer : Option ℕ) × IsVerdict folds w lines' answer × (number_of (first_refused folds at s lines') ≡ counted at answer)

  none_some : (fault : Fault) → Some fault ≡ None → ⊥
  none_some fault e = cc

  -- behind a line that is allowed
  go_on : (at : ℕ) (w : Web) (s : TapeState) (line : Line) (lines' : List Line) → IsAllowedLine folds w line → line_fault folds s line ≡ None
      → Answered (at + 1) (web_after w line) (state_after s line) lines' → Answered at w s (line ∷ lines')
  go_on at w s line lines' allowed f (None, verdict, e) =
      (None, (allowed, verdict), ap (λ (x : Option Fault). number_of (refusal_or x at (first_refused folds (at + 1) (state_after s line) lines'))) f ∙ e)
  go_on at w s line lines' allowed f (Some n, verdict, e) =
      let next : (at + 1) + n ≡ at + suc n = omega arith in (
        Some (suc n),
        (allowed, verdict),
        ap (λ (x : Option Fault). number_of (refusal_or x at (first_refused folds (at + 1) (state_after s line) lines'))) f ∙ (e ∙ ap Some next),
      )

  -- a line that isn't, or one that is with what is behind it
  at_line : (at : ℕ) (w : Web) (s : TapeState) (line : Line) (lines' : List Line) → Shows w s → IsWeb (fold_of folds) w
      → (IsAllowedLine folds w line → Answered (at + 1) (web_after w line) (state_after s line) lines')
      → (f : Option Fault) → line_fault folds s line ≡ f → Answered at w s (line ∷ lines')
  at_line at w s line lines' h web rest None is = let allowed = line_allowed w s h web line is in go_on at w s line lines' allowed is (rest allowed)
  at_line at w s line lines' h web rest (Some fault) is =
      let first : at ≡ at + 0 = omega arith in (
        Some zero,
        λ allowed. none_some fault (sym is ∙ allowed_line w s h web line allowed),
        ap (λ (x : Option Fault). number_of (refusal_or x at (first_refused folds (at + 1) (state_after s line) lines'))) is ∙ ap Some first,
      )

  answered : (at : ℕ) (w : Web) (s : TapeState) (lines' : List Line) → Shows w s → IsWeb (fold_of folds) w → Answered at w s lines'
  answered at w s [] h web = (None, tt, refl)
  answered at w s (line ∷ lines') h web =
      at_line at w s line lines' h web
      (λ allowed. answered (at + 1) (web_after w line) (state_after s line) lines' (line_shown w s h web line allowed) (step_right (fold_of folds) w (step_for w line) web allowed.1.0).1)
      (line_fault folds s line) refl

  from_first : (answer : Option ℕ) → counted 0 answer ≡ answer
  from_first None = refl
  from_first (Some n) = let e : 0 + n ≡ n = omega arith in ap Some e

pub verdicts_are_exact : VerdictsAreExact
verdicts_are_exact folds lines' =
    let r = answered folds 0 no_web tape_begins lines' nothing_shown (first_web (fold_of folds)) in
    subst (IsVerdict folds no_web lines') (sym (r.2 ∙ from_first folds r.0)) r.1

possible : (folds : List StoredImage) (w : Web) (lines' : List Line) → IsVerdict folds w lines' None → ArePossible (fold_of folds) w (tape_steps w lines')
possible folds w [] v = tt
possible folds w (line ∷ lines') (allowed, v) = (allowed.1.0, possible folds (web_after w line) lines' v)

pub allowed_tapes_are_safe : AllowedTapesAreSafe
allowed_tapes_are_safe folds lines' v = links_hand_right (fold_of folds) (tape_steps no_web lines') (possible folds no_web lines' v)
