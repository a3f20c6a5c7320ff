-- The rule that holds of the copies at each step of each thread. This project's own.
use Rattle.std.specs.Prelude.{◌≡◌, ℕ, pos, Bool, true, false, List, [], ◌++◌}
use mathlib.Core.Option.{some}
use lib.ListN.{get_elem?}
use Rattle.kr_defs.specs.declared.options.Options.{Options}
use Rattle.kr_calls.specs.declared.events.Entry.{Entry}
use Rattle.kr_calls.specs.RightAnswers.{AreRight}
use Rattle.kr_calls.specs.SeatList.{IsClosedList}
use Rattle.kr_view.specs.declared.rule.ThreadView.{ThreadView}
use Rattle.kr_view.specs.Showing.{Showing}

-- the list goes on from what was seen
abbrev pub GoesOn : List Entry → List Entry → Type 0
GoesOn list earlier = (rest : List Entry) × (list ≡ earlier ++ rest)

abbrev pub seen : Bool → Options → List Entry → ThreadView
seen seated options list = record { seated = seated; options = options; list = list }

-- before the opening
abbrev pub no_options : Options
no_options = record { node = pos 0; salt = 0; session_ms = 0; partitions = pos 0; factor = pos 0; minimum = pos 0; cluster = [] }

abbrev pub unseen : ThreadView
unseen = seen false no_options []

-- what a thread has seen is a beginning of what is shown, and one that has a seat has the options of the opening
pub record FitsShowing (x : Showing) (v : ThreadView) : Type 0 where
  pub begins : GoesOn x.list v.list
  pub options : v.seated ≡ true → v.options ≡ x.options

-- the rule, of what is shown and of what each thread has seen: besides, each answer that is shown is right in the entries before it,
-- and no transaction is open at the end of what is shown
pub record CopiesRuleHolds (x : Showing) (views : List ThreadView) : Type 0 where
  pub right : AreRight x.options x.list
  pub closed : IsClosedList x.list
  pub fits : (number : ℕ) (v : ThreadView) → get_elem? views number ≡ some v → FitsShowing x v

-- the thread has seen all that y shows, which goes on from what it had seen under the same options
pub record Saw (v : ThreadView) (x y : Showing) (w : ThreadView) : Type 0 where
  pub later : GoesOn w.list v.list
  pub is : w ≡ seen true y.options y.list
  pub right : AreRight y.options y.list
  pub closed : IsClosedList y.list
  pub same : v.seated ≡ true → v.options ≡ y.options
