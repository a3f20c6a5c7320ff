-- An engine takes an event, and all that it gives for it is handed out. This project's own.
use Rattle.std.specs.Prelude.{◌≡◌, [], List, map}
use Rattle.kr_calls.specs.declared.events.Event.{Event}
use Rattle.kr_model.specs.declared.writes.Told.{Told}
use Rattle.kr_model.specs.declared.writes.Write.{Write}
use Rattle.kr_model.specs.Engine.{Core, IsEngine, IsStep, outputs_left, told_left}
use Rattle.kr_model.specs.World.{State}

-- this was handed out, in order, and it was all
pub record IsEmptied (before after : Core) (told : List Told) : Type 0 where
  pub options : after.options ≡ before.options
  pub all : told ≡ told_left before
  pub outputs : map (λ (t : Told). t.output) told ≡ outputs_left before
  pub none : outputs_left after ≡ []
  pub fresh : after.fresh ≡ before.fresh
  pub stands : (s : State) (writes : List Write) → IsEngine before s writes → IsEngine after s writes

-- the core's step on the event, and what it gives
pub record TakesEvent (before after : Core) (event : Event) (told : List Told) : Type 0 where
  pub between : Core
  pub step : IsStep before between event
  pub emptied : IsEmptied between after told
