-- Batches whose bytes are read as they are.
use Rattle.std.specs.Prelude.{◌≡◌, ℕ, ℤ, ◌≤◌, unsigned_abs, List, FitsSigned, true, Some, Ok}
use Rattle.std.specs.Int.{w32, w64}
use Rattle.std.specs.List.{AllByRecursion}
use Rattle.kr_batch.specs.declared.Batch.{Batch}
use Rattle.kr_batch.specs.BatchBytes.{IsHeldItem, IsRegular}
use Rattle.kr_batch.specs.Reading.{is_base}
use Rattle.kr_calls.specs.declared.events.Entry.{Entry}
use Rattle.kr_calls.specs.declared.events.Entry.TheVariants as entries
use Rattle.kr_calls.specs.declared.events.Event.{Event}
use Rattle.kr_defs.specs.declared.limits.TheConstants.{PLACES_END}
use Rattle.kr_defs.specs.declared.options.Options.{Options}
use Rattle.kr_model.specs.Entries.{entries_added}
use Rattle.kr_model.specs.Events.{at_time_of, outcome}
use Rattle.kr_model.specs.World.{State, tip_of}
use Rattle.law_nodes.specs.declared.moves.Move.{Move}
use Rattle.law_nodes.specs.Moves.{run}
use Rattle.law_nodes.specs.Nodes.{RunNode, batches_of}
use Rattle.std.specs.List.{slice_get}

-- its bytes are read as it, and it begins at a place of a log
pub record ReadsBack (b : Batch) : Type 0 where
  pub regular : IsRegular b
  pub low : is_base b.base ≡ true

-- an item that a program can hold
abbrev pub IsHeldEntry : Entry → Type 0
IsHeldEntry (entries.Item place item) = IsHeldItem item
IsHeldEntry other = Unit {0}

-- the numbers of a node, and the items that an event adds to its log, are those of their types
pub record AreHeld (s : State) (event : Event) (after : State) : Type 0 where
  pub added : AllByRecursion IsHeldEntry (entries_added s event after)
  pub low : tip_of after ≤ unsigned_abs PLACES_END
  pub epoch : (epoch : ℤ) → s.world.leading ≡ Some epoch → FitsSigned w32 epoch
  pub time : FitsSigned w64 (at_time_of s event).basis.time

-- what a node appends is read back by any other
abbrev pub AppendsReadBack : Type 0
AppendsReadBack =
    (options : Options) (nodes : ℕ) (past : List Move) (k : ℕ) (n : RunNode) (event : Event) (after : State) → slice_get (run options nodes past).nodes k ≡ Some n
    → outcome options (at_time_of n.state event) event ≡ Ok after → AreHeld n.state event after
    → AllByRecursion ReadsBack (batches_of options (at_time_of n.state event) event)
