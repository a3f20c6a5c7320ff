-- There is one log: all that daemons say is of it, and they refuse nothing.
use Rattle.std.specs.Prelude.{◌≡◌, ℕ, ℤ, List, take, fold, IsOk}
use Rattle.std.specs.List.{AllByRecursion}
use Rattle.kr_batch.specs.declared.Batch.{Batch}
use Rattle.kr_defs.specs.declared.options.Options.{Options}
use Rattle.kr_defs.specs.Image.{empty}
use Rattle.kr_defs.specs.Log.{apply_all, image_at}
use Rattle.kr_calls.specs.declared.events.Event.{Event}
use Rattle.kr_model.specs.Events.{at_time_of, outcome}
use Rattle.law_link.specs.Frames.{Frame}
use Rattle.law_nodes.specs.Agreement.{IsTold}
use Rattle.law_nodes.specs.Moves.{closed_end_of, committed_end}
use Rattle.law_nodes.specs.Nodes.{RunNode}
use Rattle.law_nodes.specs.OneList.{Follows, list_items}
use Rattle.law_one_log.specs.Daemons.{AllMayTurn, MayTurn, System, SystemTurn, Take, event_of, log_batches, no_system, turned}

-- what a daemon has below its committed end is the one log; its reads and images are of that end, where its image is the log's
pub record ReadsOneLog (list : List Batch) (n : RunNode) : Type 0 where
  pub follows : Follows list n.state.world.log (committed_end n)
  pub image : image_at n.state.world.log (committed_end n) ≡ apply_all empty (take (committed_end n) (list_items list))
  pub closed : closed_end_of n ≡ committed_end n

pub record SaysOneLog (y : System) : Type 0 where
  pub daemons : (k : ℕ) → ReadsOneLog (log_batches y) (y.daemons k)
  -- a success has a place, at which its items stand in the log; and it stands there from then on, since all that was ever told does
  pub told : AllByRecursion (IsTold (log_batches y)) y.told

abbrev pub DaemonsSayOneLog : Type 0
DaemonsSayOneLog = (options : Options) (turns : List SystemTurn) → AllMayTurn options no_system turns → SaysOneLog (fold (turned options) no_system turns)

abbrev pub IsNotRefused : Options → RunNode → Event → Type 0
IsNotRefused options n event = IsOk (outcome options (at_time_of n.state event) event)

-- a daemon takes each frame that comes to it
abbrev pub FramesAreTaken : Type 0
FramesAreTaken = (options : Options) (turns : List SystemTurn) (k : ℕ) (frame : Frame) (rest : List Frame) (now : ℤ) → AllMayTurn options no_system turns
    → MayTurn options (fold (turned options) no_system turns) (Take k frame rest now) → IsNotRefused options ((fold (turned options) no_system turns).daemons k) (event_of frame now)
