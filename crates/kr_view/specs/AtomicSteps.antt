-- Each step of the copies keeps their rule. This project's own.
use Rattle.std.specs.Prelude.{◌≡◌, ℕ, true, List, [], ◌∷◌, ◌++◌, slice_set}
use mathlib.Core.Option.{some}
use lib.ListN.{get_elem?}
use Rattle.kr_defs.specs.declared.options.Options.{Options}
use Rattle.kr_calls.specs.declared.events.Entry.{Entry}
use Rattle.kr_view.specs.declared.rule.ThreadView.{ThreadView}
use Rattle.kr_view.specs.CopiesRule.{CopiesRuleHolds, seen}
use Rattle.kr_view.specs.Showing.{MayShow, Showing, showing, showing_more}

-- what a thread sees that has just looked
abbrev pub all_seen : Showing → ThreadView
all_seen x = seen true x.options x.list

-- a seat is made at the opening, with its options and an empty list
abbrev pub SeatIsMade : Type 0
SeatIsMade = (o : Options) (views : List ThreadView) → CopiesRuleHolds (showing o []) views → CopiesRuleHolds (showing o []) (views ++ seen true o [] ∷ [])

-- a publish adds entries that may be shown, and the worker has seen them
abbrev pub Publishes : Type 0
Publishes =
    (x : Showing) (views : List ThreadView) (number : ℕ) (v : ThreadView) (more : List Entry)
    → MayShow x.options x.list more → get_elem? views number ≡ some v → CopiesRuleHolds x views
    → CopiesRuleHolds (showing_more x more) (slice_set views number (all_seen (showing_more x more)))

-- a reader enters, and has seen what is published
abbrev pub Enters : Type 0
Enters = (x : Showing) (views : List ThreadView) (number : ℕ) (v : ThreadView) → get_elem? views number ≡ some v → CopiesRuleHolds x views → CopiesRuleHolds x (slice_set views number (all_seen x))
