-- What is shown after a publish.
use Rattle.std.proofs.Common.{◌≡◌, ℕ, List, [], ◌∷◌, ◌++◌, fold, refl, sym, ap, ◌∙◌, subst, append_assoc, append-nil, MatchResult, IfOk, Ok, Err, true}
use Rattle.core.specs.declared.result.Result.{Result}
use Rattle.left_right.specs.Register.{TurnsAt}
use Rattle.kr_defs.specs.declared.options.Options.{Options}
use Rattle.kr_calls.specs.declared.events.Entry.{Entry}
use Rattle.kr_view.specs.declared.rule.ThreadView.{ThreadView}
use Rattle.kr_calls.specs.RightAnswers.{AreRightAfter}
use Rattle.kr_calls.specs.SeatList.{IsClosedList}
use Rattle.kr_view.specs.declared.run.Step.{Step}
use Rattle.kr_view.specs.CopiesRule.{CopiesRuleHolds, Saw, seen}
use Rattle.kr_view.specs.Showing.{MayShow, Showing, showing, showing_more}
use Rattle.kr_view.specs.ShownSteps.{with_step}
use Rattle.kr_view.specs.Steps.{entries_of, entries_in, with_entries}
use Rattle.kr_view.proofs.Moves.{turns, right-append}

-- the entries of several steps, behind others
behind : (before : List Entry) (steps : List Step) → fold with_entries before steps ≡ before ++ entries_in steps
behind before [] = sym (append-nil before)
behind before (step ∷ steps) = behind (before ++ entries_of step) steps ∙ append_assoc before (entries_of step) (entries_in steps) ∙ ap (λ l. before ++ l) (sym (behind (entries_of step) steps))

all_steps : (s : Showing) (steps : List Step) → fold with_step s steps ≡ showing s.options (fold with_entries s.list steps)
all_steps s [] = refl
all_steps s (step ∷ steps) = all_steps (with_step s step) steps

abbrev Folded : Showing → Showing → List Step → Type 0
Folded old new steps = new ≡ fold with_step old steps

shows : (old new : Showing) (steps : List Step) → Folded old new steps → new ≡ showing_more old (entries_in steps)
shows old new steps is = is ∙ all_steps old steps ∙ ap (showing old.options) (behind old.list steps)

pub may_publish : (pass : ℕ) (v : ThreadView) (old new : Showing) (steps : List Step) → MayShow old.options old.list (entries_in steps) → Folded old new steps → TurnsAt CopiesRuleHolds pass v old new Saw
may_publish pass v old new steps may is =
    let es = entries_in steps in
    let s = shows old new steps is in
    let o : new.options ≡ old.options = ap (λ (s : Showing). s.options) s in
    let l : new.list ≡ old.list ++ es = ap (λ (s : Showing). s.list) s in
    turns pass v old new o (es, l) (λ before. subst (λ (y : Options × List Entry). AreRightAfter y.0 [] y.1) (λ i. (sym o i, sym l i)) (right-append old.options [] old.list es before may.right))
    (λ _. subst IsClosedList (sym l) may.closed)

module _ {T E : Type 0} (old new : Showing) (steps left : List Step) where
  pub list_after : (r : Result T E) → MatchResult r (λ _. Folded old new steps × (left ≡ [])) (λ _. (new ≡ old) × (left ≡ steps))
      → MatchResult r (λ _. (new.list ≡ old.list ++ entries_in steps) × (left ≡ [])) (λ _. (new.list ≡ old.list) × (left ≡ steps))
  list_after (Ok x) h = (ap (λ (s : Showing). s.list) (shows old new steps h.0), h.1)
  list_after (Err e) h = (ap (λ (s : Showing). s.list) h.0, h.1)

  pub options_after : (r : Result T E) → MatchResult r (λ _. Folded old new steps × (left ≡ [])) (λ _. (new ≡ old) × (left ≡ steps)) → new.options ≡ old.options
  options_after (Ok x) h = ap (λ (s : Showing). s.options) (shows old new steps h.0)
  options_after (Err e) h = ap (λ (s : Showing). s.options) h.0

pub view_after : {T E : Type 0} (v : ThreadView) (x y : Showing) (w : ThreadView) (r : Result T E) → MatchResult r (λ _. Saw v x y w) (λ _. w ≡ v) → IfOk r (λ _. w ≡ seen true y.options y.list)
view_after v x y w (Ok u) h = h.is
view_after v x y w (Err e) h = tt
