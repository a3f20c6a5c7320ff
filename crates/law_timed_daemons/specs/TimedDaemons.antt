-- Daemons that are controllers, behind links by their clocks.
use Rattle.std.specs.Prelude.{◌≡◌, ℕ, ℤ, pos, List, [], ◌∷◌, ◌++◌, map, fold, false}
use Rattle.std.specs.List.{AllByRecursion}
use Rattle.kr_batch.specs.declared.Batch.{Batch}
use Rattle.kr_calls.specs.declared.events.Event.{Event}
use Rattle.kr_calls.specs.declared.events.Event.TheVariants as events
use Rattle.kr_defs.specs.declared.options.Options.{Options}
use Rattle.kr_model.specs.World.{State, is_far}
use Rattle.kr_link.specs.declared.link.LinkSettings.{LinkSettings}
use Rattle.kr_link.specs.LinkMoves as calls
use Rattle.law_quorum.specs.Batches.{behind}
use Rattle.law_link.specs.Frames.{Frame, set_at}
use Rattle.law_nodes.specs.Agreement.{IsTold}
use Rattle.law_nodes.specs.Nodes.{NodeTold, RunNode, after_event, fresh_node, told_of}
use Rattle.law_one_log.specs.Daemons.{IsNoFrame, IsReadBatch, IsReadFrame, batches_given, event_of}
use Rattle.law_one_log.specs.OneLog.{ReadsOneLog}
use Rattle.law_one_log.specs.StoredBatches.{batches_in, image_bytes, stored, stored_image}
use Rattle.law_timed_links.specs.TimedLaws.{AreNames}
use Rattle.law_timed_links.specs.TimedRuns.{Arrives, Calls, Gives, IsOfNoDaemon, MayFollow, Restarts, TimedEvent, TimedRun, Writes, timed_after, timed_start}

pub record TimedSystem : Type 0 where
  -- the store, the links, what is under way, and what law_link says of each daemon
  pub run : TimedRun
  pub daemons : ℕ → RunNode
  -- all that clients were told, by any daemon that ever was
  pub told : List NodeTold

pub data TimedTurn : Type 0 where
  -- a link or the store does something
  Links : TimedEvent → TimedTurn
  -- a daemon takes the frame that is next, at a time, and that is the rest; it takes another event
  Receives : ℕ → Frame → List Frame → ℤ → TimedTurn
  Handles : ℕ → Event → TimedTurn

-- ---- a turn

abbrev pub gives_image : ℕ → State → Event → List TimedEvent
gives_image k s events.Image = Gives k (stored_image s) ∷ []
gives_image k s other = []

-- what a daemon gives its link
abbrev pub given_by : Options → ℕ → RunNode → Event → List TimedEvent
given_by options k n event = map (λ (b : Batch). Writes k (stored b)) (batches_given options n event) ++ gives_image k n.state event

abbrev pub events_in : Options → TimedSystem → TimedTurn → List TimedEvent
events_in options z (Links event) = event ∷ []
events_in options z (Receives k frame rest now) = Arrives k frame rest ∷ given_by options k (z.daemons k) (event_of frame now)
events_in options z (Handles k event) = given_by options k (z.daemons k) event

-- where a new daemon takes the place of the old one it begins from nothing
abbrev pub daemons_with : TimedEvent → (ℕ → RunNode) → ℕ → RunNode
daemons_with (Calls k (calls.Join now)) daemons = set_at k fresh_node daemons
daemons_with (Restarts k settings) daemons = set_at k fresh_node daemons
daemons_with other daemons = daemons

abbrev pub daemons_then : Options → TimedSystem → TimedTurn → ℕ → RunNode
daemons_then options z (Links event) = daemons_with event z.daemons
daemons_then options z (Receives k frame rest now) = set_at k (after_event options (z.daemons k) (event_of frame now)) z.daemons
daemons_then options z (Handles k event) = set_at k (after_event options (z.daemons k) event) z.daemons

abbrev pub told_by_turn : Options → TimedSystem → TimedTurn → List NodeTold
told_by_turn options z (Links event) = []
told_by_turn options z (Receives k frame rest now) = told_of options k (z.daemons k) (event_of frame now)
told_by_turn options z (Handles k event) = told_of options k (z.daemons k) event

abbrev pub timed_turned : Options → TimedSystem → TimedTurn → TimedSystem
timed_turned options z turn = record {
  run = fold timed_after z.run (events_in options z turn);
  daemons = daemons_then options z turn;
  told = z.told ++ told_by_turn options z turn;
}

abbrev pub first_timed : (ℕ → LinkSettings) → TimedSystem
first_timed settings = record { run = timed_start settings; daemons = λ k. fresh_node; told = [] }

-- ---- what may happen

abbrev pub MayTurnTimed : Options → (ℕ → ℕ → ℕ) → TimedSystem → TimedTurn → Type 0
MayTurnTimed options name z (Links event) = IsOfNoDaemon event × MayFollow image_bytes name z.run event
MayTurnTimed options name z (Receives k frame rest now) = ((z.run.nodes k).frames ≡ frame ∷ rest) × IsReadFrame frame × (is_far (pos (behind 0 z.run.cluster.point.log)) ≡ false)
MayTurnTimed options name z (Handles k event) = IsNoFrame event × AllByRecursion IsReadBatch (batches_given options (z.daemons k) event)

abbrev pub AllMayTurnTimed : Options → (ℕ → ℕ → ℕ) → TimedSystem → List TimedTurn → Type 0
AllMayTurnTimed options name z [] = Unit {0}
AllMayTurnTimed options name z (turn ∷ turns) = MayTurnTimed options name z turn × AllMayTurnTimed options name (timed_turned options z turn) turns

-- ---- one log

-- each daemon has it below its committed end, and each success that any told stands in it
pub record SayOneLog (z : TimedSystem) : Type 0 where
  pub daemons : (k : ℕ) → ReadsOneLog (batches_in z.run.cluster.point.log) (z.daemons k)
  pub told : AllByRecursion (IsTold (batches_in z.run.cluster.point.log)) z.told

abbrev pub TimedDaemonsSayOneLog : Type 0
TimedDaemonsSayOneLog = (options : Options) (name : ℕ → ℕ → ℕ) (settings : ℕ → LinkSettings) (turns : List TimedTurn) → AreNames name
    → AllMayTurnTimed options name (first_timed settings) turns → SayOneLog (fold (timed_turned options) (first_timed settings) turns)
