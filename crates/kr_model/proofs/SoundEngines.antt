-- An engine that stands for past events stands for more after a step, and after an output is handed out.
use Rattle.std.proofs.Common.{◌≡◌, ◌<◌, List, [], length, ap, sym, subst, arith}
use Rattle.std.specs.Prelude.{Option, Some, IsTrue}
use Rattle.kr_calls.specs.declared.events.Event.{Event}
use Rattle.kr_calls.specs.declared.events.Output.{Output}
use Rattle.kr_model.specs.declared.writes.Write.{Write}
use Rattle.kr_model.specs.Engine.{Core, Hands, IsEngine, IsSound, IsStep, writes_in_order, outputs_left}
use Rattle.kr_model.specs.Events.{happens}
use Rattle.kr_model.specs.Outputs.{waiting_after}
use Rattle.kr_model.specs.World.{State, start}
use Rattle.kr_model.proofs.OutputsLeft.{handing_out_stands}

pub opened_sound : (e : Core) → IsEngine e start [] → IsSound e
opened_sound e stands = record { state = start; writes = []; stands = stands }

pub stepped_sound : (before after : Core) (event : Event) → IsStep before after event → IsSound before → IsSound after
stepped_sound before after event step sound = record {
  state = happens before.options sound.state event;
  writes = waiting_after before.options sound.state sound.writes event;
  stands = step.stands sound.state sound.writes sound.stands;
}

pub handed_sound : (before after : Core) (output : Option Output) → Hands before after output → IsSound before → IsSound after
handed_sound before after output hands sound = record {
  state = sound.state;
  writes = sound.writes;
  stands = hands.stands sound.state sound.writes sound.stands;
}

-- what the last event added to the log is taken out of the engine
pub taken_sound : (e after : Core) → after ≡ record e { fresh = [] } → IsSound e → IsSound after
taken_sound e after is sound = subst (λ (a : Core). IsSound a) (sym is) (record { state = sound.state; writes = sound.writes; stands = handing_out_stands e e.given e.refusal [] sound.state sound.writes sound.stands })

pub sound_order : (e : Core) → IsSound e → IsTrue (writes_in_order e.held)
sound_order e sound = sound.stands.ordered

pub fewer_left : (before after : Core) (output : Output) → Hands before after (Some output) → length (outputs_left after) < length (outputs_left before)
fewer_left before after output hands = let n = ap length hands.in_order in omega (arith, n)
