-- An event is refused by its first reason, or accepted.
use Rattle.std.proofs.Common.{◌≡◌, ◌∙◌, sym, Bool, true, false, cond, List, ◌++◌, refl, ap}
use Rattle.std.specs.Prelude.{Option, Some, None, Result, Ok, Err, filter}
use Rattle.kr_calls.specs.declared.events.Event.{Event}
use Rattle.kr_calls.specs.declared.events.Reason.{Reason}
use Rattle.kr_defs.specs.declared.options.Options.{Options}
use Rattle.kr_model.specs.declared.writes.Write.{Write}
use Rattle.kr_engine.specs.inner.Changes.{counted_core, timed_core, refused_core_or}
use Rattle.kr_model.specs.Engine.{Core, IsEngine, IsStep, outputs_left}
use Rattle.kr_model.specs.Entries.{entries_added}
use Rattle.kr_model.specs.Events.{with_next_number, outcome, at_time_of}
use Rattle.kr_model.specs.Outputs.{is_open_in, outputs_then, writes_of}
use Rattle.kr_model.specs.World.{State}
use Rattle.kr_model.proofs.EventOutcomes.{entries_accepted, outputs_accepted, stands_accepted, writes_accepted}
use Rattle.kr_model.proofs.Queues.{IsDrained}
use Rattle.kr_engine.proofs.Refusals.{refused_step}

-- ---- rows of reasons

abbrev pub unless_refused : {X : Type 0} → Option Reason → X → Result X Reason
unless_refused None x = Ok x
unless_refused (Some reason) x = Err reason

pub row : {X : Type 0} (b : Bool) (reason : Reason) (o : Option Reason) (r : Result X Reason) (x : X) → r ≡ unless_refused o x → cond b (Err reason) r ≡ unless_refused (cond b (Some reason) o) x
row true reason o r x rest = refl
row false reason o r x rest = rest

pub none_row : {X : Type 0} (b : Bool) (x : X) (o : Option X) → cond b (Some x) o ≡ None → (b ≡ false) × (o ≡ None)
none_row true x o is = absurd cc
none_row false x o is = (refl, is)

-- ---- a step

-- the engine before the event is counted, and the state where the event is accepted
pub record IsAccepted (e : Core) (options : Options) (s : State) (writes : List Write) (event : Event) (core : Core) (after : State) : Type 0 where
  pub stands : IsEngine (counted_core core) (with_next_number after) (filter (is_open_in after.world) (writes ++ writes_of options (at_time_of s event) event))
  pub outputs : outputs_left core ≡ outputs_then options (at_time_of s event) writes event after
  pub held : core.held ≡ writes ++ writes_of options (at_time_of s event) event
  pub fresh : core.fresh ≡ entries_added s event after

module _ (e : Core) (event : Event) (d : IsDrained e) (core : Core) (same : core.options ≡ e.options) (state : State → State) where
  pub accepted_step : ((s : State) (writes : List Write) → IsEngine e s writes → outcome e.options (at_time_of s event) event ≡ Ok (state s))
      → ((s : State) (writes : List Write) → IsEngine e s writes → IsAccepted e e.options s writes event core (state s))
      → IsStep e (counted_core core) event
  accepted_step judged accepted = record {
    options = same;
    stands = λ s writes k. stands_accepted (counted_core core) e.options s writes event (state s) (judged s writes k) (accepted s writes k).stands;
    outputs = λ s writes k. (accepted s writes k).outputs ∙ sym (outputs_accepted e e.options s writes event (state s) (judged s writes k));
    held = λ s writes k. (accepted s writes k).held ∙ ap (λ ws. writes ++ ws) (sym (writes_accepted e e.options s writes event (state s) (judged s writes k)));
    fresh = λ s writes k. (accepted s writes k).fresh ∙ sym (entries_accepted e e.options s writes event (state s) (judged s writes k));
  }

  pub step_by : (reason : Option Reason)
      → ((s : State) (writes : List Write) → IsEngine e s writes → outcome e.options (at_time_of s event) event ≡ unless_refused reason (state s))
      → (reason ≡ None → (s : State) (writes : List Write) → IsEngine e s writes → IsAccepted e e.options s writes event core (state s))
      → IsStep e (counted_core (refused_core_or (timed_core e event) reason core)) event
  step_by None judged accepted = accepted_step judged (accepted refl)
  step_by (Some reason) judged accepted = refused_step e event reason d judged
