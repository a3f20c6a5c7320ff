-- A refused event changes the greatest time and the number of events alone.
use Rattle.std.proofs.Common.{◌≡◌, ◌∙◌, sym, ℕ, List, [], ◌∷◌, ◌++◌, refl, ap}
use Rattle.std.specs.Prelude.{Some, Err}
use Rattle.kr_calls.specs.declared.events.Event.{Event}
use Rattle.kr_calls.specs.declared.events.Output.{Output}
use Rattle.kr_calls.specs.declared.events.Reason.{Reason}
use Rattle.kr_calls.specs.declared.events.Output.TheVariants as given
use Rattle.kr_model.specs.declared.writes.Write.{Write}
use Rattle.kr_engine.specs.inner.Changes.{counted_core, refused_core, timed_core}
use Rattle.kr_model.specs.Engine.{Core, IsEngine, IsStep, outputs_left}
use Rattle.kr_model.specs.Events.{next_number, outcome, at_time_of}
use Rattle.kr_model.specs.Outputs.{answers}
use Rattle.kr_model.specs.World.{State}
use Rattle.kr_model.proofs.EventOutcomes.{entries_refused, outputs_refused, stands_refused, writes_refused}
use Rattle.kr_model.proofs.Queues.{IsDrained}
use Rattle.kr_model.proofs.EventsWithoutWrites.{held_then, passes}

abbrev pub after : Core → Event → Reason → Core
after e event reason = counted_core (refused_core (timed_core e event) reason)

module _ (e : Core) (event : Event) (reason : Reason) (d : IsDrained e) (is : (s : State) (writes : List Write) → IsEngine e s writes → outcome e.options (at_time_of s event) event ≡ Err reason) where
  abbrev refusal : ℕ → Output
  refusal count = given.Refused (next_number count) reason

  -- nothing else is left to hand out
  one_left : outputs_left (after e event reason) ≡ refusal e.count ∷ []
  one_left =
      ap (λ g. (g ++ (refusal e.count ∷ [])) ++ answers e.leading e.closed e.held) d.none_given
      ∙ ap (λ due. refusal e.count ∷ due) d.none_due

  pub refused_step : IsStep e (after e event reason) event
  refused_step = record {
    options = refl;
    stands = λ s writes k. stands_refused (after e event reason) e.options s writes event reason (is s writes k) (passes e event e.given (Some (refusal e.count)) d s writes k);
    held = λ s writes k. held_then e s writes d k ∙ ap (λ ws. writes ++ ws) (sym (writes_refused e e.options s writes event reason (is s writes k)));
    fresh = λ s writes k. sym (entries_refused e e.options s writes event reason (is s writes k));
    outputs = λ s writes k. one_left ∙ (ap (λ count. refusal count ∷ []) k.count ∙ sym (outputs_refused e e.options s writes event reason (is s writes k)));
  }
