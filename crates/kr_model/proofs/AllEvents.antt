-- What an engine hands out over all events.
use Rattle.std.proofs.Common.{◌≡◌, ◌∙◌, sym, subst, List, [], ◌∷◌, ◌++◌, refl, ap}
use Rattle.std.proofs.lemmas.List.{append_assoc, append-nil}
use Rattle.kr_calls.specs.declared.events.Event.{Event}
use Rattle.kr_calls.specs.declared.events.Output.{Output}
use Rattle.kr_defs.specs.declared.options.Options.{Options}
use Rattle.kr_model.specs.declared.writes.Write.{Write}
use Rattle.kr_model.specs.Engine.{Core, IsEngine, IsStep, outputs_left}
use Rattle.kr_model.specs.Events.{happens, state}
use Rattle.kr_model.specs.Outputs.{new_writes, outputs, outputs_after, outputs_of, waiting_writes, waiting_after, writes_from}
use Rattle.kr_model.specs.Runs.{HandsAll, Runs, RunsGiveOutputs}
use Rattle.kr_model.specs.World.{State, start}
use Rattle.kr_model.proofs.DueWrites.{Goes, event_goes}
use Rattle.kr_model.proofs.WaitingWrites.{state_more, waiting_more, writes_more}
use Rattle.kr_model.proofs.WriteEpochs.{AreKnown, IsLed, all_closed, known_both, known_later, led_on, new_known}

-- ---- outputs that are handed out

-- all that is left is handed out, and the engine stands for the same
record IsDrainedOf (before : Core) (given : List Output) (after : Core) : Type 0 where
  all : outputs_left before ≡ given
  none : outputs_left after ≡ []
  options : after.options ≡ before.options
  stands : (s : State) (writes : List Write) → IsEngine before s writes → IsEngine after s writes

handed : (before : Core) (given : List Output) (after : Core) → HandsAll before given after → IsDrainedOf before given after
handed before [] after (none, is) = subst (λ (a : Core). IsDrainedOf before [] a) (sym is) (record { all = none; none = none; options = refl; stands = λ s writes k. k })
handed before (output ∷ given) after (next, first, rest) =
    let r = handed next given after rest in record {
      all = first.in_order ∙ ap (λ outputs. output ∷ outputs) r.all;
      none = r.none;
      options = r.options ∙ first.options;
      stands = λ s writes k. r.stands s writes (first.stands s writes k);
    }

-- ---- all events

module _ (options : Options) where
  -- the engine stands for these events
  record StandsFor (e : Core) (past : List Event) : Type 0 where
    same : e.options ≡ options
    stands : IsEngine e (state options past) (waiting_writes options past)
    led : IsLed (state options past).world
    known : AreKnown (state options past).world (writes_from options start past)

  module _ (past : List Event) (event : Event) (before stepped drained : Core) (given : List Output) (r : StandsFor before past) (step : IsStep before stepped event) (hands : HandsAll stepped given drained) where
    abbrev s : State
    s = state options past

    abbrev writes : List Write
    writes = waiting_writes options past

    goes : Goes s.world (happens options s event).world
    goes = event_goes options s event r.stands.is_state.started r.stands.is_state.ends

    same_state : state options (past ++ event ∷ []) ≡ happens options s event
    same_state = state_more options past event

    same_waiting : waiting_writes options (past ++ event ∷ []) ≡ waiting_after options s writes event
    same_waiting = waiting_more options past event (all_closed s.world (happens options s event).world goes (writes_from options start past) r.known)

    stood : IsEngine stepped (happens options s event) (waiting_after options s writes event)
    stood = subst (λ o. IsEngine stepped (happens o s event) (waiting_after o s writes event)) r.same (step.stands s writes r.stands)

    known_then : AreKnown (happens options s event).world (writes_from options start past ++ new_writes options s event)
    known_then = known_later s.world (happens options s event).world _ goes.succeeds.greatest
        (known_both s.world (writes_from options start past) (new_writes options s event) r.known (new_known options s event r.led))

    next : StandsFor drained (past ++ event ∷ [])
    next =
        let d = handed stepped given drained hands in record {
          same = d.options ∙ (step.options ∙ r.same);
          stands = d.stands _ _ (subst (λ (t : State). IsEngine stepped t (waiting_writes options (past ++ event ∷ []))) (sym same_state) (subst (IsEngine stepped (happens options s event)) (sym same_waiting) stood));
          led = subst (λ (t : State). IsLed t.world) (sym same_state) (led_on s.world (happens options s event).world goes r.led);
          known = subst (λ (t : State). AreKnown t.world (writes_from options start (past ++ event ∷ []))) (sym same_state)
              (subst (AreKnown (happens options s event).world) (sym (writes_more options start past event)) known_then);
        }

    outputs_so : given ≡ outputs_of options s writes event
    outputs_so = sym (handed stepped given drained hands).all ∙ (step.outputs s writes r.stands ∙ ap (λ o. outputs_of o s writes event) r.same)

  runs_on : (events : List Event) (given : List (List Output)) (past : List Event) (before after : Core) → StandsFor before past → Runs before events given after
      → (given ≡ outputs_after options past events) × IsEngine after (state options (past ++ events)) (waiting_writes options (past ++ events))
  runs_on [] [] past before after r is =
      (refl, subst (λ (es : List Event). IsEngine after (state options es) (waiting_writes options es)) (sym (append-nil past)) (subst (λ (a : Core). IsEngine a (state options past) (waiting_writes options past)) (sym is) r.stands))
  runs_on [] (outputs ∷ given) past before after r is = absurd is
  runs_on (event ∷ events) [] past before after r is = absurd is
  runs_on (event ∷ events) (outputs ∷ given) past before after r (stepped, drained, step, hands, rest) =
      let later = runs_on events given (past ++ event ∷ []) drained after (next past event before stepped drained outputs r step hands) rest in
      let same = append_assoc past (event ∷ []) events in (
        ap (λ o. o ∷ given) (outputs_so past event before stepped drained outputs r step hands) ∙ ap (λ others. outputs_of options (state options past) (waiting_writes options past) event ∷ others) later.0,
        subst (λ (es : List Event). IsEngine after (state options es) (waiting_writes options es)) same later.1,
      )

pub runs_give_outputs : RunsGiveOutputs
runs_give_outputs options events given before after same stands runs =
    runs_on options events given [] before after (record { same = same; stands = stands; led = λ epoch is. absurd cc; known = tt }) runs
