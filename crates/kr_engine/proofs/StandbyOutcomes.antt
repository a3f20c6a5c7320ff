-- An event that is refused, or accepted.
use Rattle.std.proofs.Common.{◌≡◌, sym, subst, List}
use Rattle.std.specs.Prelude.{Option, None}
use Rattle.kr_calls.specs.declared.events.Event.{Event}
use Rattle.kr_calls.specs.declared.events.Reason.{Reason}
use Rattle.kr_model.specs.declared.writes.Write.{Write}
use Rattle.kr_engine.specs.inner.Changes.{counted_core, timed_core, Settles}
use Rattle.kr_model.specs.Engine.{Core, IsEngine, IsStep}
use Rattle.kr_model.specs.Events.{outcome, at_time_of}
use Rattle.kr_model.specs.World.{State}
use Rattle.kr_model.proofs.Queues.{IsDrained}
use Rattle.kr_engine.proofs.FirstReasons.{IsAccepted, step_by, unless_refused}

module _ (e : Core) (event : Event) (d : IsDrained e) where
  pub settled_step : (after : Core) (reason : Option Reason) (core : Core) (state : State → State) → core.options ≡ e.options
      → Settles (timed_core e event) after reason core
      → ((s : State) (writes : List Write) → IsEngine e s writes → outcome e.options (at_time_of s event) event ≡ unless_refused reason (state s))
      → (reason ≡ None → (s : State) (writes : List Write) → IsEngine e s writes → IsAccepted e e.options s writes event core (state s))
      → IsStep e (counted_core after) event
  settled_step after reason core state same is judged accepted =
      subst (λ (a : Core). IsStep e (counted_core a) event) (sym is) (step_by e event d core same state reason judged accepted)
