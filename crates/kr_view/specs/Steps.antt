-- The entries of what copies take in. This project's own.
use Rattle.std.specs.Prelude.{◌≡◌, ℕ, List, [], ◌∷◌, ◌++◌, drop, fold, Result, MatchResult}
use Rattle.kr_calls.specs.declared.events.Entry.{Entry}
use Rattle.kr_view.specs.declared.run.Step.{Step}
use Rattle.kr_view.specs.declared.run.Step.TheVariants as steps
use Rattle.kr_view.specs.Showing.{Showing}

abbrev pub entries_of : Step → List Entry
entries_of (steps.Run run) = run
entries_of (steps.Single single) = single ∷ []

abbrev pub with_entries : List Entry → Step → List Entry
with_entries list step = list ++ entries_of step

-- of several, one after the other
abbrev pub entries_in : List Step → List Entry
entries_in steps = fold with_entries [] steps

-- the step stands behind those that wait, or comes back
abbrev pub HandsOver : Result (Unit {0}) Step → Step → List Step → List Step → Type 0
HandsOver answer step before after = MatchResult answer (λ _. after ≡ before ++ step ∷ []) (λ refused. (refused ≡ step) × (after ≡ before))

-- the list goes on by all steps that wait, and none waits any more; or all is as it was
abbrev pub ShowsAllOrNone : {F : Type 0} → Result (Unit {0}) F → List Entry → List Entry → List Step → List Step → Type 0
ShowsAllOrNone answer list list' steps steps' =
    MatchResult answer (λ _. (list' ≡ list ++ entries_in steps) × (steps' ≡ [])) (λ _. (list' ≡ list) × (steps' ≡ steps))

-- the same of a writer, by what it shows, and by its log, of which so many steps stand in what it shows
abbrev pub ShowsLogOrNone : {F : Type 0} → Result (Unit {0}) F → Showing → Showing → ℕ → List Step → ℕ → List Step → Type 0
ShowsLogOrNone answer shown shown' behind log behind' log' = ShowsAllOrNone answer shown.list shown'.list (drop behind log) (drop behind' log')
