-- A controller that was led through a part of the session goes on by one event.
use Rattle.std.proofs.Common.{◌≡◌, ℕ, ◌+◌, List, [], ◌∷◌, ◌++◌, length, length-append, None, refl, sym, ap, subst, ◌∙◌, arith}
use Rattle.std.specs.Prelude.{filter}
use Rattle.std.specs.Result.{result_unwrap_or}
use Rattle.kr_calls.specs.declared.calls.Reply.{Reply}
use Rattle.kr_calls.specs.declared.events.Entry.{Entry}
use Rattle.kr_calls.specs.declared.events.Event.{Event}
use Rattle.kr_calls.specs.declared.events.Output.{Output}
use Rattle.kr_defs.specs.declared.options.Options.{Options}
use Rattle.kr_defs.specs.Image.{empty}
use Rattle.kr_session_loop.specs.inner.Serving.{Drains}
use Rattle.kr_session_loop.proofs.Handed.{run_further, runs_options, sound_behind, step_through}
use Rattle.kr_model.specs.Engine.{Core, Hands, IsEngine, IsStep, outputs_left}
use Rattle.kr_model.specs.Entries.{log_entries}
use Rattle.kr_model.specs.declared.writes.Write.{Write}
use Rattle.kr_model.specs.Events.{state}
use Rattle.kr_model.specs.Outputs.{outputs, outputs_of, waiting_after, waiting_writes}
use Rattle.kr_model.specs.Runs.{HandsAll}
use Rattle.kr_model.specs.World.{State, image_of_tip, start}
use Rattle.kr_model.proofs.AllEvents.{runs_give_outputs}
use Rattle.kr_workload.specs.declared.host.Host.{Host}
use Rattle.kr_workload.specs.declared.tally.Tally.{Tally}
use Rattle.kr_workload.specs.inner.Counting.{no_tally, with_appended, with_outputs}
use Rattle.kr_workload.specs.inner.Standing.{AreFew, Counted, IsMade, IsIdle, Played, HasMade, HostTakes}
use Rattle.kr_workload.specs.Session.{Made, nothing_made, options}
use Rattle.kr_workload.specs.Summary.{is_record, event_records, replies_of}
use Rattle.kr_workload.proofs.Counts.{Has, has_event, has_outputs, has_so, joined, oks, oks_behind, others, others_behind, records_more, replies_behind}
use Rattle.kr_workload.proofs.FewRecords.{few_records}
use Rattle.kr_workload.proofs.FewReplies.{few_replies}

-- ---- nothing has happened

drained : (engine : Core) → IsEngine engine start [] → outputs_left engine ≡ [] → Hands engine engine None
drained engine stands none = record { options = refl; in_order = refl; all = λ is. none; ordered = stands.ordered; fresh = refl; stands = λ s writes k. k }

pub new_stands : (seed : ℕ) (host : Host) → host.engine.options ≡ options seed → IsEngine host.engine start [] → outputs_left host.engine ≡ [] → host.requests ≡ 0 → host.epoch ≡ 0 → host.drawn ≡ seed → host.tally ≡ no_tally
    → HasMade seed (nothing_made seed) host
new_stands seed host opened begins none requests epoch drawn tally = record {
  played = record { first = host.engine; opened = opened; begins = begins; given = []; last = host.engine; runs = refl; none = drained host.engine begins none };
  counted = subst (Counted seed [] []) (sym tally) (record { events_so = refl; records_so = refl; ok_so = refl; refused_so = refl });
  small = record { records = omega arith; replies = omega arith };
  requests = requests;
  epoch = epoch;
  drawn = drawn;
}

-- ---- what was counted

module _ (seed : ℕ) (events : List Event) (given : List (List Output)) (tally : Tally) where
  has_from_counted : Counted seed events given tally → Has tally (length events) (event_records (options seed) start events) (oks (replies_of (joined given))) (others (replies_of (joined given)))
  unfolding oks others
  has_from_counted c = record { events_so = c.events_so; records_so = c.records_so; ok_so = c.ok_so; refused_so = c.refused_so }

  counted_from_has : Has tally (length events) (event_records (options seed) start events) (oks (replies_of (joined given))) (others (replies_of (joined given))) → Counted seed events given tally
  unfolding oks others
  counted_from_has h = record { events_so = h.events_so; records_so = h.records_so; ok_so = h.ok_so; refused_so = h.refused_so }

-- ---- for what it stands

module _ (seed : ℕ) (events : List Event) (engine : Core) (played : Played seed events engine) where
  runs_so : (played.given ≡ outputs (options seed) events) × IsEngine played.last (state (options seed) events) (waiting_writes (options seed) events)
  runs_so = runs_give_outputs (options seed) events played.given played.first played.last played.opened played.begins played.runs

  pub given_so : played.given ≡ outputs (options seed) events
  given_so = runs_so.0

  pub engine_so : IsEngine engine (state (options seed) events) (waiting_writes (options seed) events)
  engine_so = played.none.stands _ _ runs_so.1

  pub options_so : engine.options ≡ options seed
  options_so = played.none.options ∙ (runs_options played.first played.last events played.given played.runs ∙ played.opened)

  pub image_so : image_of_tip (state (options seed) events) ≡ engine.images.tip
  image_so = ap (λ r. result_unwrap_or r empty) engine_so.present

  -- ---- one event more

  module _ (event : Event) (after stepped : Core) (given : List Output) (step : IsStep engine stepped event) (drains : Drains stepped after given) where
    pub played_on : Played seed (events ++ event ∷ []) after
    played_on = record {
      first = played.first;
      opened = played.opened;
      begins = played.begins;
      given = played.given ++ given ∷ [];
      last = drains.last;
      runs = run_further played.first played.last stepped drains.last events played.given event given played.runs (step_through played.last engine stepped event played.none step) drains.all;
      none = drains.none;
    }

    fresh_so : stepped.fresh ≡ log_entries (options seed) (state (options seed) events) event
    fresh_so = step.fresh _ _ engine_so ∙ ap (λ (o : Options). log_entries o (state (options seed) events) event) options_so

    records_so : event_records (options seed) start events + length (filter is_record stepped.fresh) ≡ event_records (options seed) start (events ++ event ∷ [])
    records_so = ap (λ (entries : List Entry). event_records (options seed) start events + length (filter is_record entries)) fresh_so ∙ records_more (options seed) events start event

    counted_on : (tally tally' : Tally) → tally' ≡ with_outputs (with_appended tally stepped.fresh) given → Counted seed events played.given tally → Counted seed (events ++ event ∷ []) (played.given ++ given ∷ []) tally'
    counted_on tally tally' is counted =
        let first = has_event tally stepped.fresh _ _ _ _ (has_from_counted seed events played.given tally counted) in
        let both = has_outputs (length events + 1) _ given (with_appended tally stepped.fresh) _ _ first in
        let long = length-append events (event ∷ []) in
        subst (Counted seed (events ++ event ∷ []) (played.given ++ given ∷ [])) (sym is) (counted_from_has seed _ _ _
        (has_so _ _ _ _ _ _ _ _ _ (sym long) records_so (oks_behind played.given given) (others_behind played.given given) both))

-- ---- outputs that are all handed out

drained_of : (before after : Core) (given : List Output) → HandsAll before given after → outputs_left before ≡ given
drained_of before after [] (none, is) = none
drained_of before after (output ∷ given) (next, first, rest) = first.in_order ∙ ap (λ (l : List Output). output ∷ l) (drained_of next after given rest)

stands_on : (before after : Core) (given : List Output) → HandsAll before given after → (s : State) (writes : List Write) → IsEngine before s writes → IsEngine after s writes
stands_on before after [] (none, is) s writes k = subst (λ (e : Core). IsEngine e s writes) (sym is) k
stands_on before after (output ∷ given) (next, first, rest) s writes k = stands_on next after given rest s writes (first.stands s writes k)

-- ---- a host that took an event

module _ (before after : Host) (event : Event) (ready : IsIdle before.engine) (t : HostTakes before.engine after.engine before.tally after.tally event) where
  pub ready_then : IsIdle after.engine
  ready_then =
      let s = sound_behind before.engine t.stepped after.engine event t.given ready.sound t.step t.drains in
      record { sound = s.0; drained = s.1 }

  module _ (seed : ℕ) (made : Made) (stands : HasMade seed made before) where
    behind : Played seed (made.events ++ event ∷ []) after.engine
    behind = played_on seed made.events before.engine stands.played event after.engine t.stepped t.given t.step t.drains

    counted_behind : Counted seed (made.events ++ event ∷ []) (stands.played.given ++ t.given ∷ []) after.tally
    counted_behind = counted_on seed made.events before.engine stands.played event after.engine t.stepped t.given t.step t.drains before.tally after.tally t.counted stands.counted

    abbrev now : State
    now = state (options seed) made.events

    abbrev writes : List Write
    writes = waiting_writes (options seed) made.events

    given_of : t.given ≡ outputs_of (options seed) now writes event
    given_of =
        sym (drained_of t.stepped t.drains.last t.given t.drains.all)
        ∙ (t.step.outputs _ _ (engine_so seed made.events before.engine stands.played)
        ∙ ap (λ (o : Options). outputs_of o now writes event) (options_so seed made.events before.engine stands.played))

    waiting_of : waiting_writes (options seed) (made.events ++ event ∷ []) ≡ waiting_after (options seed) now writes event
    waiting_of =
        let one = engine_so seed (made.events ++ event ∷ []) after.engine behind in
        let other = t.drains.none.stands _ _ (stands_on t.stepped t.drains.last t.given t.drains.all _ _ (t.step.stands _ _ (engine_so seed made.events before.engine stands.played))) in
        sym one.waits ∙ (other.waits ∙ ap (λ (o : Options). waiting_after o now writes event) (options_so seed made.events before.engine stands.played))

    small_behind : IsMade event → AreFew seed (made.events ++ event ∷ []) (stands.played.given ++ t.given ∷ [])
    small_behind is_made =
        let small = stands.small in
        let long = length-append made.events (event ∷ []) in
        let more = records_more (options seed) made.events start event in
        let few = few_records (options seed) now event is_made in
        let split = ap (λ (replies : List Reply). length replies) (replies_behind stands.played.given t.given) ∙ length-append (replies_of (joined stands.played.given)) (replies_of t.given) in
        let told = ap (λ (outputs : List Output). length (replies_of outputs)) given_of in
        let waits = ap (λ (writes : List Write). length writes) waiting_of in
        let one = few_replies (options seed) now writes event is_made in
        record { records = omega (arith, small.records, long, more, few); replies = omega (arith, small.replies, long, split, told, waits, one) }

    pub stands_then : IsMade event → (requests epoch drawn : ℕ) → after.requests ≡ requests → after.epoch ≡ epoch → after.drawn ≡ drawn
        → HasMade seed (record { events = made.events ++ event ∷ []; requests = requests; epoch = epoch; drawn = drawn }) after
    unfolding behind played_on
    stands_then is_made requests epoch drawn a b c = record { played = behind; counted = counted_behind; small = small_behind is_made; requests = a; epoch = b; drawn = c }
