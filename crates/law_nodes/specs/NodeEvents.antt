-- A node is a controller: an event makes of it what it makes of the state and of the writes of kr_model, and tells what is given
-- out there.
use Rattle.std.specs.Prelude.{◌≡◌, ℕ, List, map, filter, Bool, true, false}
use Rattle.kr_batch.specs.declared.Batch.{Batch}
use Rattle.kr_batch.specs.BatchBytes.{batch_bytes}
use Rattle.kr_calls.specs.declared.events.Event.{Event}
use Rattle.kr_calls.specs.declared.events.Output.{Output}
use Rattle.kr_calls.specs.declared.events.Output.TheVariants as given
use Rattle.kr_defs.specs.declared.options.Options.{Options}
use Rattle.kr_model.specs.declared.writes.Write.{Write}
use Rattle.kr_model.specs.Events.{at_time_of, happens}
use Rattle.kr_model.specs.Outputs.{appends, is_open_in, outputs_of, waiting_after}
use Rattle.law_nodes.specs.Nodes.{RunNode, NodeTold, Waiting, after_event, batches_of, told_of}

abbrev pub writes_in : List Waiting → List Write
writes_in waiting = map (λ (w : Waiting). w.write) waiting

abbrev pub is_reply : Output → Bool
is_reply (given.Reply client correlation reply) = true
is_reply other = false

abbrev pub as_output : NodeTold → Output
as_output t = given.Reply t.client t.correlation t.reply

pub record ActsAsController (options : Options) (k : ℕ) (n : RunNode) (event : Event) : Type 0 where
  pub state : (after_event options n event).state ≡ happens options n.state event
  -- where no write waited that is due
  pub writes : filter (is_open_in n.state.world) (writes_in n.waiting) ≡ writes_in n.waiting
      → writes_in (after_event options n event).waiting ≡ waiting_after options n.state (writes_in n.waiting) event
  -- the batches of an accepted event are those that it appends
  pub batches : appends options (at_time_of n.state event) event ≡ map (λ (b : Batch). given.Append (batch_bytes b)) (batches_of options (at_time_of n.state event) event)
  -- what is told are the replies that it gives out, in order
  pub told : filter is_reply (outputs_of options n.state (writes_in n.waiting) event) ≡ map as_output (told_of options k n event)

abbrev pub NodesTakeEvents : Type 0
NodesTakeEvents = (options : Options) (k : ℕ) (n : RunNode) (event : Event) → ActsAsController options k n event
