-- What a tick makes of an engine.
use Rattle.std.proofs.Common.{◌≡◌, ◌∙◌, sym, subst, ℕ, ℤ, pos, Bool, true, false, ◌≤◌, List, [], ◌∷◌, ◌++◌, take, length, refl, ap, arith, not}
use Rattle.std.proofs.lemmas.List.{append-nil, length-map, length-take}
use Rattle.std.proofs.lemmas.List.Sums.{length-filter, count_by-le-length}
use Rattle.std.specs.Prelude.{◌&&◌, ◌-ℤ◌, Option, Some, None, Ok, filter, int_le, take_while, IsSome, is_some, option_to_list}
use Rattle.kr_calls.specs.declared.events.Event.{Event}
use Rattle.kr_calls.specs.declared.events.Reason.{Reason}
use Rattle.kr_calls.specs.declared.events.Event.TheVariants as events
use Rattle.kr_defs.specs.declared.basis.Contact.{Contact}
use Rattle.kr_defs.specs.declared.broker.Broker.{Broker}
use Rattle.kr_defs.specs.Brokers as brokers
use Rattle.kr_defs.specs.Heartbeats as hearing
use Rattle.kr_defs.specs.Heartbeats.{AreHeartbeats, Heartbeats, contact_brokers, expired}
use Rattle.kr_defs.specs.Ids.{has, is_within}
use Rattle.kr_defs.specs.Image.{Image, IsValid}
use Rattle.kr_defs.proofs.IdLists.{all_from}
use Rattle.law_safety.specs.HearingLaws.{HearsOf}
use Rattle.law_safety.proofs.Lengths.{distinct_few}
use Rattle.kr_store.specs.Images.{AreValid}
use Rattle.kr_model.specs.declared.writes.Write.{Write}
use Rattle.kr_engine.specs.inner.Changes.{counted_core, timed_core}
use Rattle.kr_model.specs.Engine.{Core, IsEngine, IsStep, outputs_left}
use Rattle.kr_model.specs.Events.{with_next_number, time_after, next_number, outcome, at_time_of}
use Rattle.kr_model.specs.Outputs.{answers, answers_in, append_fencings, is_open, is_open_in}
use Rattle.kr_model.specs.Reasons.{exhausted}
use Rattle.kr_engine.specs.inner.Tick.{FencesAll, SettlesTick, lapsed_contacts, tick_reason}
use Rattle.kr_model.specs.Tick.{fence_all, lapsed_contacts as lapsed_in, tick}
use Rattle.kr_model.specs.World.{State, closed_of, is_far, tip_of}
use Rattle.kr_model.proofs.LogEntries.{gained, gains_none}
use Rattle.kr_engine.proofs.FencingSteps.{AllFenced, all_fenced, stays_itself}
use Rattle.kr_model.proofs.Queues.{IsDrained, drained}
use Rattle.kr_model.proofs.StandingEngines.{same_image, core_of, is_core}
use Rattle.kr_engine.proofs.Refusals.{refused_step}
use Rattle.kr_model.proofs.EventsWithoutWrites.{counted_state, held_then, timed_state}
use Rattle.kr_engine.proofs.FirstReasons.{IsAccepted, accepted_step, none_row, row, unless_refused}
use Rattle.kr_model.proofs.Places.{near_enough}

-- ---- at most 1,000 sessions end

taken_fewer : (n : ℕ) (cs : List Contact) → length (take n cs) ≤ length cs
taken_fewer n cs = let long = length-take n cs in omega (arith, long)

front_fewer : (p : Contact → Bool) (cs : List Contact) → length (take_while p cs) ≤ length cs
front_fewer p cs = taken_fewer _ cs

pub few_lapsed : (h : Heartbeats) (image : Image) (limit : ℤ) → AreHeartbeats h → HearsOf h image → IsValid image → length (expired h limit) ≤ 5000
few_lapsed h image limit are hears valid =
    let front = front_fewer (λ c. int_le c.time limit) h.contacts in
    let one = length-map (take_while (λ (c : Contact). int_le c.time limit) h.contacts) (λ c. c.broker) in
    let two = length-map h.contacts (λ (c : Contact). c.broker) in
    let within : is_within (contact_brokers h) (brokers.unfenced image) ≡ true = all_from (has (brokers.unfenced image)) (contact_brokers h) (λ id there. sym (hears.contacts id) ∙ there) in
    let three = distinct_few (contact_brokers h) (brokers.unfenced image) are.distinct within in
    let unfenced = filter (λ (e : ℤ × Broker). not e.1.fenced) image.brokers in
    let four = length-map unfenced (λ (e : ℤ × Broker). e.0) in
    let five : length unfenced ≤ length image.brokers = rw length-filter (count_by-le-length (λ (e : ℤ × Broker). not e.1.fenced) image.brokers) in
    let most : length image.brokers ≤ 5000 = valid.brokers.few in
    omega (arith, front, one, two, three, four, five, most)

-- ---- the step

-- time goes on
pub timed_engine : (e : Core) (event : Event) (s : State) (writes : List Write) → IsEngine e s writes → IsEngine (timed_core e event) (at_time_of s event) writes
timed_engine e event s writes k = record {
  tip = k.tip;
  committed = k.committed;
  closed = k.closed;
  leading = k.leading;
  greatest = k.greatest;
  count = k.count;
  time = ap (λ t. time_after t event) k.time;
  led = k.led;
  heard_of = k.heard_of;
  present = k.present;
  kept = k.kept;
  begun = k.begun;
  kept_begun = k.kept_begun;
  weighed = k.weighed;
  waits = k.waits;
  ordered = k.ordered;
  is_state = timed_state s writes event k.is_state;
}

pub counted_engine : (e : Core) (s : State) (writes : List Write) → IsEngine e s writes → IsEngine (counted_core e) (with_next_number s) writes
counted_engine e s writes k = record {
  tip = k.tip;
  committed = k.committed;
  closed = k.closed;
  leading = k.leading;
  greatest = k.greatest;
  count = ap next_number k.count;
  time = k.time;
  led = k.led;
  heard_of = k.heard_of;
  present = k.present;
  kept = k.kept;
  begun = k.begun;
  kept_begun = k.kept_begun;
  weighed = k.weighed;
  waits = k.waits;
  ordered = k.ordered;
  is_state = counted_state s writes k.is_state;
}

pub all_options : (ids : List ℤ) (e after : Core) → FencesAll e after ids → after.options ≡ e.options
all_options [] e after is = ap (λ (a : Core). a.options) is
all_options (broker ∷ ids) e after (between, f, rest) = all_options ids between after rest ∙ ap (λ (a : Core). a.options) f.writes.same

module _ (e : Core) (now : ℤ) (d : IsDrained e) where
  abbrev event : Event
  event = events.Tick now

  abbrev before : Core
  before = timed_core e event

  abbrev after_tick : State → State
  after_tick s = fence_all e.options (at_time_of s event) (lapsed_in e.options (at_time_of s event))

  judged_so : (s : State) → tick e.options (at_time_of s event) ≡ unless_refused (tick_reason (timed_core (core_of e s) event)) (after_tick s)
  judged_so s = row (is_some s.world.leading && is_far (pos (tip_of s))) (exhausted (pos (tip_of s))) None (Ok (after_tick s)) (after_tick s) refl

  judged : (s : State) (writes : List Write) → IsEngine e s writes → outcome e.options (at_time_of s event) event ≡ unless_refused (tick_reason before) (after_tick s)
  judged s writes k = judged_so s ∙ ap (λ (c : Core). unless_refused (tick_reason (timed_core c event)) (after_tick s)) (sym (is_core e s writes k))

  module _ (core : Core) (s : State) (writes : List Write) (k : IsEngine e s writes) (f : AllFenced before core (at_time_of s event) writes (lapsed_in e.options (at_time_of s event))) where
    abbrev ids : List ℤ
    ids = lapsed_in e.options (at_time_of s event)

    abbrev after : State
    after = fence_all e.options (at_time_of s event) ids

    still_wait : filter (is_open_in after.world) (writes ++ []) ≡ writes
    still_wait =
        ap (filter (is_open_in after.world)) (append-nil writes)
        ∙ (sym (ap (λ l. filter (is_open l (pos (closed_of after.world))) writes) f.stands.leading)
        ∙ (sym (ap (λ c. filter (is_open core.leading c) writes) f.stands.closed)
        ∙ (ap (λ hs. filter (is_open core.leading core.closed) hs) (sym k.waits ∙ (d.all_wait ∙ sym f.stays.held)) ∙ f.stands.waits)))

    none_due : answers core.leading core.closed core.held ≡ answers_in after.world (writes ++ [])
    none_due =
        ap (λ l. answers l core.closed core.held) f.stands.leading
        ∙ (ap (λ c. answers after.world.leading c core.held) f.stands.closed
        ∙ ap (answers_in after.world) (f.stays.held ∙ held_then e s writes d k))

    accepted_by : IsAccepted e e.options s writes event core after
    accepted_by = record {
      stands = subst (λ (ws : List Write). IsEngine (counted_core core) (with_next_number after) ws) (sym still_wait) (counted_engine core after writes f.stands);
      outputs =
          ap (λ g. (g ++ option_to_list core.refusal) ++ answers core.leading core.closed core.held) (f.outputs ∙ ap (λ g. g ++ append_fencings e.options (at_time_of s event) ids) d.none_given)
          ∙ (ap (λ o. (append_fencings e.options (at_time_of s event) ids ++ option_to_list o) ++ answers core.leading core.closed core.held) (f.stays.refusal ∙ d.none_refused)
          ∙ ap (λ due. (append_fencings e.options (at_time_of s event) ids ++ []) ++ due) none_due
          ∙ ap (λ g. g ++ answers_in after.world (writes ++ [])) (right_nil (append_fencings e.options (at_time_of s event) ids)));
      held = f.stays.held ∙ held_then e s writes d k;
      fresh = gained core.fresh s.world.log after.world.log f.gains;
    }
      where
        right_nil : {X : Type 0} (xs : List X) → xs ++ [] ≡ (xs ++ []) ++ []
        right_nil xs = sym (append-nil (xs ++ []))

  -- ---- the contacts that are fenced

  same_lapsed : (s : State) (writes : List Write) → IsEngine e s writes → lapsed_contacts before ≡ lapsed_in e.options (at_time_of s event)
  same_lapsed s writes k = ap (λ (c : Core). lapsed_contacts (timed_core c event)) (is_core e s writes k)

  -- on standby nobody is heard of
  none_lapsed : (s : State) (writes : List Write) → IsEngine e s writes → s.world.leading ≡ None → lapsed_contacts before ≡ []
  none_lapsed s writes k none = ap (λ (h : Heartbeats). expired h (before.time -ℤ pos e.options.session_ms)) (k.heard_of ∙ (k.is_state.at_standby none).1)

  fenced_by : (core : Core) (s : State) (writes : List Write) → IsEngine e s writes → (epoch : ℤ) → s.world.leading ≡ Some epoch → is_far e.tip ≡ false → IsValid e.images.tip → AreHeartbeats e.heard
      → FencesAll before core (lapsed_contacts before) → AllFenced before core (at_time_of s event) writes (lapsed_in e.options (at_time_of s event))
  fenced_by core s writes k epoch leads near valid are f =
      let some : IsSome s.world.leading = subst (λ (l : Option ℤ). IsSome l) (sym leads) refl in
      let hears = subst (HearsOf (hearing.heard s.basis)) (same_image e s writes k) (k.is_state.hears some) in
      let few = few_lapsed e.heard e.images.tip (before.time -ℤ pos e.options.session_ms) are (subst (λ h. HearsOf h e.images.tip) (sym k.heard_of) hears) valid in
      subst (AllFenced before core (at_time_of s event) writes) (same_lapsed s writes k)
      (all_fenced (lapsed_contacts before) before core f (at_time_of s event) writes (timed_engine e event s writes k) valid some
      (near_enough (tip_of s) (length (lapsed_contacts before)) (ap is_far (sym k.tip) ∙ near) few))

  fenced_so : (core : Core) (s : State) (writes : List Write) → IsEngine e s writes → (leading : Option ℤ) → s.world.leading ≡ leading → (is_some leading && is_far e.tip) ≡ false → IsValid e.images.tip → AreHeartbeats e.heard
      → FencesAll before core (lapsed_contacts before) → AllFenced before core (at_time_of s event) writes (lapsed_in e.options (at_time_of s event))
  fenced_so core s writes k None none free valid are f =
      let nobody = none_lapsed s writes k none in
      subst (AllFenced before core (at_time_of s event) writes) (same_lapsed s writes k)
      (subst (AllFenced before core (at_time_of s event) writes) (sym nobody)
      (subst (λ (c : Core). AllFenced before c (at_time_of s event) writes []) (sym (subst (FencesAll before core) nobody f))
      (record { stands = timed_engine e event s writes k; outputs = sym (append-nil before.given); gains = gains_none before.fresh s.world.log; stays = stays_itself before })))
  fenced_so core s writes k (Some epoch) leads free valid are f = fenced_by core s writes k epoch leads free valid are f

  same_options : (core : Core) (ids : List ℤ) → FencesAll before core ids → core.options ≡ e.options
  same_options core ids f = all_options ids before core f

  settled : (core : Core) (reason : Option Reason) → tick_reason before ≡ reason → IsValid e.images.tip → AreHeartbeats e.heard → SettlesTick before core reason → IsStep e (counted_core core) event
  settled core None free valid are f =
      let one = none_row (is_some e.leading && is_far e.tip) (exhausted e.tip) None free in
      accepted_step e event d core (same_options core (lapsed_contacts before) f) after_tick
      (λ s writes k. judged s writes k ∙ ap (λ r. unless_refused r (after_tick s)) free)
      (λ s writes k. accepted_by core s writes k
      (fenced_so core s writes k s.world.leading refl (ap (λ l. is_some l && is_far e.tip) (sym k.leading) ∙ one.0) valid are f))
  settled core (Some reason) is valid are refuses =
      subst (λ (c : Core). IsStep e (counted_core c) event) (sym refuses)
      (refused_step e event reason d (λ s writes k. judged s writes k ∙ ap (λ r. unless_refused r (after_tick s)) is))

pub tick_step : (e core after : Core) (now : ℤ) → outputs_left e ≡ [] → AreValid e.images → AreHeartbeats e.heard
    → SettlesTick (timed_core e (events.Tick now)) core (tick_reason (timed_core e (events.Tick now))) → after ≡ counted_core core → IsStep e after (events.Tick now)
tick_step e core stepped now none valid are settles is =
    let d = drained e none in
    subst (λ (a : Core). IsStep e a (events.Tick now)) (sym is) (settled e now d core (tick_reason (timed_core e (events.Tick now))) refl valid.tip are settles)
