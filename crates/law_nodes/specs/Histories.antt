-- What happens to each node: the events of the moves that are accepted, and that a node stands for its own.
use Rattle.std.specs.Prelude.{◌≡◌, ℕ, pos, ◌==◌, List, [], ◌∷◌, ◌++◌, map, filter, flat_map, option_to_list, Some, Result, Ok, Err}
use Rattle.std.specs.List.{slice_get}
use Rattle.std.specs.Option.{option_map_or}
use Rattle.kr_batch.specs.declared.Batch.{Batch}
use Rattle.kr_batch.specs.BatchBytes.{batch_bytes}
use Rattle.kr_batch.specs.Reading.{batch_of}
use Rattle.kr_calls.specs.declared.calls.Ask.TheVariants as asks
use Rattle.kr_calls.specs.declared.events.Event.{Event}
use Rattle.kr_calls.specs.declared.events.Event.TheVariants as events
use Rattle.kr_calls.specs.declared.events.Output.{Output}
use Rattle.kr_defs.specs.declared.options.Options.{Options}
use Rattle.kr_snapshot.specs.ImageText.{image_text}
use Rattle.kr_snapshot.specs.Reading.{image_of}
use Rattle.kr_model.specs.Events.{state}
use Rattle.kr_model.specs.Outputs.{outputs, waiting_writes}
use Rattle.kr_model.specs.Reasons.{led_epoch}
use Rattle.kr_model.specs.World.{image_of_closed}
use Rattle.law_nodes.specs.declared.moves.Move.{Move}
use Rattle.law_nodes.specs.declared.moves.Move.TheVariants as moves
use Rattle.law_nodes.specs.declared.moves.MoveFault.{MoveFault}
use Rattle.law_nodes.specs.Moves.{after_move, closed_end_of, committed_end, move_outcome, run}
use Rattle.law_nodes.specs.NodeEvents.{as_output, is_reply, writes_in}
use Rattle.law_nodes.specs.Nodes.{NodeTold, Run, RunNode, first_run}
use Rattle.law_nodes.specs.OneList.{batch_from}

-- an event, and the node to which it happens
abbrev pub NodeEvent : Type 0
NodeEvent = ℕ × Event

abbrev pub events_at : Run → ℕ → (RunNode → List NodeEvent) → List NodeEvent
events_at r k next = option_map_or next (slice_get r.nodes k) []

-- a batch and an image come as their bytes
abbrev pub move_events : Run → Move → List NodeEvent
move_events r (moves.Feed k) = events_at r k (λ n. map (λ (b : Batch). (k, events.Batch (batch_bytes b))) (option_to_list (batch_from (committed_end n) r.list)))
move_events r (moves.Elect k epoch now) = events_at r k (λ n. (k, events.Lead epoch (pos (committed_end n)) now) ∷ [])
move_events r (moves.Ask k client now call) = (k, events.Request client now (asks.Call call)) ∷ []
move_events r (moves.Tick k now) = (k, events.Tick now) ∷ []
move_events r (moves.Settle k) = []
move_events r (moves.Tell k) = events_at r k (λ n. (k, events.Commit (led_epoch n.state.world.leading) (pos n.settled)) ∷ [])
move_events r (moves.Depose k) = events_at r k (λ n. (k, events.Lost (led_epoch n.state.world.leading)) ∷ [])
move_events r (moves.Copy from to) =
    events_at r from (λ f. (from, events.Image) ∷ (to, events.Load (image_text (pos (closed_end_of f)) (image_of_closed f.state))) ∷ [])

-- a refused move makes none happen
abbrev pub events_by : Result Run MoveFault → List NodeEvent → List NodeEvent
events_by (Ok next) made = made
events_by (Err fault) made = []

abbrev pub events_after : Options → Run → List Move → List NodeEvent
events_after options r [] = []
events_after options r (m ∷ ms) = events_by (move_outcome options r m) (move_events r m) ++ events_after options (after_move options r m) ms

abbrev pub of_node : ℕ → List NodeEvent → List Event
of_node k made = map (λ (e : NodeEvent). e.1) (filter (λ (e : NodeEvent). e.0 == k) made)

-- those of one node, in order
abbrev pub node_events : Options → ℕ → List Move → ℕ → List Event
node_events options nodes ms k = of_node k (events_after options (first_run nodes) ms)

-- ---- what comes is read back

abbrev pub ReadsMove : Run → Move → Type 0
ReadsMove r (moves.Feed k) =
    (n : RunNode) (b : Batch) → slice_get r.nodes k ≡ Some n → batch_from (committed_end n) r.list ≡ Some b → batch_of (batch_bytes b) ≡ Ok b
ReadsMove r (moves.Copy from to) =
    (f : RunNode) → slice_get r.nodes from ≡ Some f → image_of (image_text (pos (closed_end_of f)) (image_of_closed f.state)) ≡ Ok (pos (closed_end_of f), image_of_closed f.state)
ReadsMove r other = Unit {0}

abbrev pub AllRead : Options → Run → List Move → Type 0
AllRead options r [] = Unit {0}
AllRead options r (m ∷ ms) = ReadsMove r m × AllRead options (after_move options r m) ms

-- ---- the laws

abbrev pub told_of_node : ℕ → List NodeTold → List NodeTold
told_of_node k told = filter (λ (t : NodeTold). t.node == k) told

-- the replies among a controller's outputs, in order
abbrev pub replies_over : Options → List Event → List Output
replies_over options past = filter is_reply (flat_map (λ (given : List Output). given) (outputs options past))

-- a node stands for its events, and what it told are the replies among the outputs of them, in order
pub record StandsForEvents (options : Options) (nodes : ℕ) (ms : List Move) (k : ℕ) (n : RunNode) : Type 0 where
  pub state_is : n.state ≡ state options (node_events options nodes ms k)
  pub writes : writes_in n.waiting ≡ waiting_writes options (node_events options nodes ms k)
  pub told : map as_output (told_of_node k (run options nodes ms).told) ≡ replies_over options (node_events options nodes ms k)

abbrev pub NodesStand : Type 0
NodesStand =
    (options : Options) (nodes : ℕ) (ms : List Move) → AllRead options (first_run nodes) ms → (k : ℕ) (n : RunNode) → slice_get (run options nodes ms).nodes k ≡ Some n
    → StandsForEvents options nodes ms k n
