-- Brokers may be fenced, one after the other.
use Rattle.std.proofs.Common.{◌≡◌, ◌∙◌, sym, subst, ℤ, pos, true, false, cond, ◌+◌, ◌*◌, ◌≤◌, ◌<◌, ℕ, List, [], ◌∷◌, ◌++◌, length, drop, get_or, refl, ap, arith}
use Rattle.std.proofs.lemmas.List.{drop_more}
use Rattle.std.proofs.lemmas.Int.{ints}
use Rattle.std.specs.Prelude.{◌&&◌, ◌==◌, ◌+ℤ◌, ◌-ℤ◌, ◌≤ℤ◌, Option, Some, None, Result, Ok, Err, IsSome, IsTrue, OnOk, fold, int_lt, is_some, unsigned_abs}
use Rattle.std.specs.List.{list_all}
use Rattle.std.specs.Option.{option_map_or}
use Rattle.std.specs.Ordering.{int_cmp}
use Rattle.kr_calls.specs.declared.events.Event.TheVariants as events
use Rattle.kr_calls.specs.declared.events.Reason.{Reason}
use Rattle.kr_batch.specs.BatchBytes.{batch_bytes}
use Rattle.kr_calls.specs.declared.events.Output.TheVariants as given
use Rattle.kr_calls.specs.Deciding.{apply_records, has_few_targets, is_request, weights}
use Rattle.kr_calls.specs.TakingOut.{fencing}
use Rattle.kr_defs.specs.declared.broker.Broker.{Broker}
use Rattle.kr_defs.specs.declared.limits.TheConstants.{PLACES_END}
use Rattle.kr_defs.specs.declared.options.Options.{Options}
use Rattle.kr_defs.specs.declared.record.Record.{Record}
use Rattle.kr_defs.specs.Heartbeats as hearing
use Rattle.kr_defs.specs.Heartbeats.{AreHeartbeats, leave}
use Rattle.kr_defs.specs.Image.{Image, IsValid}
use Rattle.kr_defs.specs.ImageLaws.{as_items}
use Rattle.kr_defs.specs.Map as entries
use Rattle.kr_defs.proofs.Tests.{both, none_is}
use Rattle.law_batch_limits.specs.Fitting.{FitsBatch}
use Rattle.law_batch_limits.proofs.FittingRecords.{records_fit}
use Rattle.law_safety.proofs.FencingSizes.{fencings_fit}
use Rattle.law_safety.specs.HearingLaws.{HearsOf}
use Rattle.kr_store.specs.Images.{AreValid, IsAbove, IsSettled, marked}
use Rattle.kr_model.specs.declared.writes.Write.{Write}
use Rattle.kr_engine.proofs.FirstReasons.{none_row}
use Rattle.kr_engine.specs.inner.Changes.{BreaksOff, counted_core, refused_core, timed_core}
use Rattle.kr_model.specs.Engine.{Core, IsEngine, IsSound, IsStep, outputs_left}
use Rattle.kr_model.specs.Entries.{item_entries}
use Rattle.kr_model.specs.Events.{at_time_of}
use Rattle.kr_engine.specs.inner.Ready.{IsReady, MayAppend}
use Rattle.kr_model.specs.Reasons.{exhausted}
use Rattle.kr_engine.specs.TickBound.{WithinTick}
use Rattle.kr_engine.specs.inner.Tick.{Advances, CanFence, CanFenceAll, FencesAll, SettlesTick, WithinLapsed, lapsed_contacts, tick_reason}
use Rattle.kr_model.specs.Tick as worlds
use Rattle.kr_model.specs.Tick.{fencing_of}
use Rattle.kr_model.specs.World.{State, is_far, tip_of}
use Rattle.kr_engine.specs.inner.Append.{Fences, Writes, core_after_append, batch_at, place_behind}
use Rattle.kr_engine.proofs.FencingSteps.{fence_stands, fence_stays}
use Rattle.kr_engine.proofs.ReadyEngines as engines_ready
use Rattle.kr_model.proofs.StandingEngines.{same_image}
use Rattle.kr_engine.proofs.TickSteps.{few_lapsed, tick_step, timed_engine}
use Rattle.kr_model.proofs.LogEntries.{not_none}
use Rattle.kr_model.proofs.Places.{near_enough}
use Rattle.kr_model.proofs.Queues.{never}
use Rattle.kr_engine.proofs.AppendSteps.{writes_by}
use Rattle.kr_engine.proofs.Undoing.{giving_breaks, images_break, same_breaks, written_then}

-- ---- one

fits_by : (minimum : ℤ) (image after : Image) (broker : ℤ) (o : Option Broker) → IsValid image
    → apply_records image (option_map_or (λ (state : Broker). fencing minimum image broker state.epoch) o []) ≡ Ok after → FitsBatch (option_map_or (λ (state : Broker). fencing minimum image broker state.epoch) o [])
fits_by minimum image after broker None valid meaning = records_fit image after [] meaning refl
fits_by minimum image after broker (Some state) valid meaning =
    let records = fencing minimum image broker state.epoch in
    records_fit image after records meaning (both (list_all has_few_targets records) (is_request records) (fencings_fit minimum image broker state.epoch valid)).1

pub fencing_fits : (e between : Core) (broker : ℤ) (records : List Record) → AreValid e.images → records ≡ fencing_of e.options e.images.tip broker → apply_records e.images.tip records ≡ Ok between.images.tip → FitsBatch records
fencing_fits e between broker records valid is meaning =
    subst FitsBatch (sym is) (fits_by e.options.minimum e.images.tip between.images.tip broker (entries.get int_cmp e.images.tip.brokers broker) valid.tip
    (subst (λ rs. apply_records e.images.tip rs ≡ Ok between.images.tip) is meaning))

pub fencing_above : (e between : Core) → MayAppend e → between.images.kept ≡ e.images.kept → between ≡ record e { images = between.images } → (place : ℤ) → IsTrue (int_lt between.tip place) → IsAbove between.images.kept place
fencing_above e between r kept same place high =
    subst (λ (kept : List (ℤ × Image)). IsAbove kept place) (sym kept) (r.above place (sym (ap (λ (a : Core). int_lt a.tip place) same) ∙ high))

-- appending leaves the contacts and the writes that wait
record Leaves (before after : Core) : Type 0 where
  heard : after.heard ≡ before.heard
  held : after.held ≡ before.held

append_leaves : (e : Core) (records : List Record) → Leaves e (core_after_append e records)
append_leaves e records =
    elim (length records == 0) as (λ b. Leaves e (cond b e (record e {
      images = marked e.images (place_behind e records);
      tip = place_behind e records;
      given = e.given ++ given.Append (batch_bytes (batch_at e records)) ∷ [];
      fresh = e.fresh ++ item_entries e.tip (as_items records);
    }))) [
      | true ↦ record { heard = refl; held = refl }
      | false ↦ record { heard = refl; held = refl }
    ]

pub fences_by : (e between behind : Core) (broker : ℤ) (records : List Record) → AreValid e.images → records ≡ fencing_of e.options e.images.tip broker → apply_records e.images.tip records ≡ Ok between.images.tip
    → between.images.kept ≡ e.images.kept → between.images.made ≤ e.images.made + weights e.images.tip records → between.images.kept_made ≡ e.images.kept_made → between.images.kept_begun ≡ e.images.kept_begun
    → (IsSettled e.images → IsSettled between.images) → between ≡ record e { images = between.images } → behind ≡ core_after_append between records → Fences e (record behind { heard = leave e.heard broker }) broker
fences_by e between behind broker records valid is meaning kept made calls begins settled same appends =
    let fits = fencing_fits e between broker records valid is meaning in
    let own = append_leaves between records in
    let after : Core = record behind { heard = leave e.heard broker } in
    record {
      writes = subst (λ rs. Writes e after rs) is
          (writes_by e between after records (same ∙ ap (λ h. record e { images = between.images; heard = h }) (sym (ap (λ (b : Core). b.heard) same))) kept made calls begins settled meaning fits.few
          (ap (λ (b : Core). record b { held = behind.held; heard = leave e.heard broker }) appends));
      heard = refl;
      held = ap (λ (a : Core). a.held) appends ∙ (own.held ∙ ap (λ (a : Core). a.held) same);
    }

pub heard_still : (e between behind : Core) (records : List Record) → between ≡ record e { images = between.images } → behind ≡ core_after_append between records → behind.heard ≡ e.heard
heard_still e between behind records same appends = ap (λ (a : Core). a.heard) appends ∙ ((append_leaves between records).heard ∙ ap (λ (a : Core). a.heard) same)

pub fencing_low : (e between : Core) → MayAppend e → between ≡ record e { images = between.images } → between.tip ≤ℤ PLACES_END
fencing_low e between r same = subst (λ t. t ≤ℤ PLACES_END) (sym (ap (λ (a : Core). a.tip) same)) r.low

pub ruleset fence = (fencing_fits, fencing_above, fencing_low, heard_still, images_break, giving_breaks)

-- ---- the records

pub registered_records : (options : Options) (image : Image) (broker : ℤ) (records : List Record) → is_some (entries.get int_cmp image.brokers broker) ≡ true
    → ((state : Broker) → entries.get int_cmp image.brokers broker ≡ Some state → records ≡ fencing options.minimum image broker state.epoch) → records ≡ fencing_of options image broker
registered_records options image broker records there own = by_get (entries.get int_cmp image.brokers broker) refl
  where
    by_get : (o : Option Broker) → entries.get int_cmp image.brokers broker ≡ o → records ≡ option_map_or (λ (state : Broker). fencing options.minimum image broker state.epoch) (entries.get int_cmp image.brokers broker) []
    by_get None absent = let both : false ≡ true = sym (ap (λ (o : Option Broker). is_some o) absent) ∙ there in absurd cc
    by_get (Some state) is = own state is ∙ ap (λ (o : Option Broker). option_map_or (λ (state : Broker). fencing options.minimum image broker state.epoch) o []) (sym is)

pub absent_records : (options : Options) (image : Image) (broker : ℤ) → is_some (entries.get int_cmp image.brokers broker) ≡ false → [] ≡ fencing_of options image broker
absent_records options image broker absent = ap (λ (o : Option Broker). option_map_or (λ (state : Broker). fencing options.minimum image broker state.epoch) o []) (sym (none_is (entries.get int_cmp image.brokers broker) absent))

pub ruleset fencing_records = (registered_records, absent_records)

-- ---- steps

pub advances_by : (e behind : Core) (broker : ℤ) (records : List Record) (first last : ℕ) → records ≡ fencing_of e.options e.images.tip broker → last ≡ first + length records
    → Fences e (record behind { heard = leave e.heard broker }) broker → Advances e behind first last
advances_by e behind broker records first last is counted f =
    let tip : behind.tip ≡ e.tip +ℤ pos (length records) = ap (λ (a : Core). a.tip) f.writes.same ∙ ap (λ (rs : List Record). e.tip +ℤ pos (length rs)) (sym is) in
    omega (arith, ints, tip, counted)

pub none_advances : (e : Core) (steps : ℕ) → Advances e e steps steps
none_advances e steps = refl

pub advances_more : (start at next : Core) (first mid last : ℕ) → Advances start at first mid → Advances at next mid last → Advances start next first last
advances_more start at next first mid last before after = omega (arith, ints, before, after)

-- ---- all

open_of : (e : Core) → IsReady e → IsSome e.leading → MayAppend e
open_of e r leads = record { natural = le_both r.natural r.rising; low = r.low; last = r.last; above = r.above; settled = r.settled leads }
  where
    le_both : pos 0 ≤ℤ e.committed → e.committed ≤ℤ e.tip → pos 0 ≤ℤ e.tip
    le_both low high = omega (arith, ints, low, high)

module _ (e : Core) (brokers : List ℤ) (broker : ℤ) (others : List ℤ) (is : brokers ≡ broker ∷ others) (can : CanFenceAll e brokers) where
  own_can : CanFence e (length (broker ∷ others))
  own_can = subst (CanFenceAll e) is can

  pub one_valid : AreValid e.images
  one_valid = own_can.valid

  pub one_open : MayAppend e
  one_open = open_of e (engines_ready.ready e own_can.sound own_can.valid) own_can.leads

  then_room : (s : State) (writes : List Write) → IsEngine e s writes → tip_of s + 10000 * length (broker ∷ others) ≤ unsigned_abs PLACES_END
  then_room s writes k = subst (λ t. unsigned_abs t + 10000 * length (broker ∷ others) ≤ unsigned_abs PLACES_END) k.tip own_can.room

  can_next : (others' : List ℤ) → others ≡ others' → (between : Core) → Fences e between broker → AreValid between.images → CanFenceAll between others'
  can_next [] same between f valid = tt
  can_next (next ∷ rest) same between f valid =
      let c = own_can in
      let s = c.sound.state in
      let k = c.sound.stands in
      let room = then_room s c.sound.writes k in
      let leads : IsSome s.world.leading = subst (λ (l : Option ℤ). IsSome l) k.leading c.leads in
      let few = f.writes.few in
      let stands = fence_stands e between broker f s c.sound.writes k c.valid.tip leads (omega (arith, room)) in
      let tip_is = ap unsigned_abs (ap (λ (a : Core). a.tip) f.writes.same ∙ ap (λ t. t +ℤ pos (length (fencing_of e.options e.images.tip broker))) k.tip) in
      let count = ap (λ (l : List ℤ). length l) same in
      record {
        sound = record { state = worlds.fence e.options s broker; writes = c.sound.writes; stands = stands };
        valid = valid;
        leads = subst (λ (l : Option ℤ). IsSome l) (sym (fence_stays e between broker f).leading) c.leads;
        room = omega (arith, room, few, tip_is, count);
      }

  pub then_can : (between : Core) → Fences e between broker → AreValid between.images → CanFenceAll between others
  then_can between f valid = can_next others refl between f valid

-- the same where other brokers are contacts
apart : (e between : Core) (broker : ℤ) (h : hearing.Heartbeats) → Fences e (record between { heard = leave e.heard broker }) broker → Fences (record e { heard = h }) (record between { heard = leave h broker }) broker
apart e between broker h f = record {
  writes = record {
    meaning = f.writes.meaning;
    kept = f.writes.kept;
    begins = f.writes.begins;
    settled = f.writes.settled;
    counted = f.writes.counted;
    few = f.writes.few;
    same = ap (λ (c : Core). record c { heard = leave h broker }) f.writes.same;
  };
  heard = refl;
  held = f.held;
}

-- some of the brokers are fenced, and these are left
pub record FencesOn (start at : Core) (brokers rest : List ℤ) : Type 0 where
  -- the contacts without those that were fenced
  pub heard : hearing.Heartbeats
  pub left : fold leave heard rest ≡ fold leave start.heard brokers
  pub can : CanFenceAll (record at { heard = heard }) rest
  pub all : (after : Core) → FencesAll (record at { heard = heard }) after rest → FencesAll start after brokers
  pub breaks : (after : Core) → BreaksOff at after → BreaksOff start after
  pub stays : at.heard ≡ start.heard

pub none_fenced : (e : Core) (brokers : List ℤ) → CanFenceAll e brokers → FencesOn e e brokers brokers
none_fenced e brokers can = record { heard = e.heard; left = refl; can = can; all = λ after f. f; breaks = λ after b. b; stays = refl }

one_fenced : (start at next : Core) (brokers : List ℤ) (broker : ℤ) (others : List ℤ) → FencesOn start at brokers (broker ∷ others) → Fences at (record next { heard = leave at.heard broker }) broker → next.heard ≡ at.heard → AreValid next.images
    → FencesOn start next brokers others
one_fenced start at next brokers broker others on f same valid =
    let here : Core = record at { heard = on.heard } in
    let then : Core = record next { heard = leave on.heard broker } in
    let fenced = apart at next broker on.heard f in
    record {
      heard = leave on.heard broker;
      left = on.left;
      can = then_can here (broker ∷ others) broker others refl on.can then fenced valid;
      all = λ after rest. on.all after (then, fenced, rest);
      breaks = λ after b. on.breaks after (written_then at next after (fencing_of at.options at.images.tip broker) (record {
        meaning = f.writes.meaning;
        kept = f.writes.kept;
        begins = f.writes.begins;
        settled = f.writes.settled;
        counted = f.writes.counted;
        few = f.writes.few;
        same = ap (λ (c : Core). record c { heard = next.heard }) f.writes.same;
      }) f.held same b);
      stays = same ∙ on.stays;
    }

-- at a turn of the walk over the brokers
module _ (start at : Core) (brokers : List ℤ) (i : ℕ) (on : FencesOn start at brokers (drop i brokers)) (some : i < length brokers) where
  abbrev broker : ℤ
  broker = get_or brokers i (pos 0)

  abbrev others : List ℤ
  others = drop (i + 1) brokers

  on_there : FencesOn start at brokers (broker ∷ others)
  on_there = subst (FencesOn start at brokers) (drop_more brokers i (pos 0) some) on

  abbrev here : Core
  here = record at { heard = on_there.heard }

  pub next_valid : AreValid at.images
  next_valid = one_valid here (broker ∷ others) broker others refl on_there.can

  pub next_open : MayAppend at
  next_open = let o = one_open here (broker ∷ others) broker others refl on_there.can in record { natural = o.natural; low = o.low; last = o.last; above = o.above; settled = o.settled }

  module _ (next : Core) (f : Fences at (record next { heard = leave at.heard broker }) broker) where
    pub next_fenced : next.heard ≡ at.heard → AreValid next.images → FencesOn start next brokers others
    next_fenced = one_fenced start at next brokers broker others on_there f

pub all_fenced : (start at : Core) (brokers : List ℤ) → FencesOn start at brokers [] → FencesAll start (record at { heard = fold leave start.heard brokers }) brokers
all_fenced start at brokers on = on.all (record at { heard = fold leave start.heard brokers }) (ap (λ h. record at { heard = h }) (sym on.left))

pub ruleset fence_all = (none_fenced, all_fenced, none_advances)

-- ---- they leave the contacts

pub one_left : (start at next : Core) (brokers : List ℤ) (broker : ℤ) (others : List ℤ) → fold leave at.heard (broker ∷ others) ≡ fold leave start.heard brokers → next ≡ record at { heard = leave at.heard broker }
    → fold leave next.heard others ≡ fold leave start.heard brokers
one_left start at next brokers broker others left is = ap (λ (c : Core). fold leave c.heard others) is ∙ left

pub still_same : (start at next : Core) (broker : ℤ) → at ≡ record start { heard = at.heard } → next ≡ record at { heard = leave at.heard broker } → next ≡ record start { heard = next.heard }
still_same start at next broker same is =
    is ∙ (ap (λ (c : Core). record c { heard = leave at.heard broker }) same ∙ ap (λ h. record start { heard = h }) (sym (ap (λ (c : Core). c.heard) is)))

pub all_left : (start at : Core) (brokers : List ℤ) → at ≡ record start { heard = at.heard } → at.heard ≡ fold leave start.heard brokers → at ≡ record start { heard = fold leave start.heard brokers }
all_left start at brokers same left = same ∙ ap (λ h. record start { heard = h }) left

pub ruleset forget_contacts = (one_left, still_same, all_left)

-- ---- those whose session has ended

can_all : (e : Core) (ids : List ℤ) → CanFence e (length ids) → CanFenceAll e ids
can_all e [] can = tt
can_all e (id ∷ ids) can = can

pub can_lapse : (e : Core) (now : ℤ) → IsSound e → AreValid e.images → AreHeartbeats e.heard → tick_reason (timed_core e (events.Tick now)) ≡ None → CanFenceAll (timed_core e (events.Tick now)) (lapsed_contacts (timed_core e (events.Tick now)))
can_lapse e now sound valid are free = by_leading sound.state.world.leading refl
  where
    before : Core
    before = timed_core e (events.Tick now)

    k : IsEngine e sound.state sound.writes
    k = sound.stands

    by_leading : (leading : Option ℤ) → sound.state.world.leading ≡ leading → CanFenceAll before (lapsed_contacts before)
    by_leading None none = subst (CanFenceAll before) (sym (ap (λ (h : hearing.Heartbeats). hearing.expired h (before.time -ℤ pos e.options.session_ms)) (k.heard_of ∙ (k.is_state.at_standby none).1))) tt
    by_leading (Some epoch) leads =
        let some : IsSome sound.state.world.leading = subst (λ (l : Option ℤ). IsSome l) (sym leads) refl in
        let one = none_row (is_some e.leading && is_far e.tip) (exhausted e.tip) None free in
        let near : is_far e.tip ≡ false = sym (ap (λ (l : Option ℤ). is_some l && is_far e.tip) (k.leading ∙ leads)) ∙ one.0 in
        let hears = subst (HearsOf (hearing.heard sound.state.basis)) (same_image e sound.state sound.writes k) (k.is_state.hears some) in
        let few = few_lapsed e.heard e.images.tip (before.time -ℤ pos e.options.session_ms) are (subst (λ h. HearsOf h e.images.tip) (sym k.heard_of) hears) valid.tip in
        can_all before (lapsed_contacts before) (record {
          sound = record { state = at_time_of sound.state (events.Tick now); writes = sound.writes; stands = timed_engine e (events.Tick now) sound.state sound.writes k };
          valid = valid;
          leads = subst (λ (l : Option ℤ). IsSome l) (sym k.leading) some;
          room = subst (λ t. unsigned_abs t + 10000 * length (lapsed_contacts before) ≤ unsigned_abs PLACES_END) (sym k.tip)
              (near_enough (tip_of sound.state) (length (lapsed_contacts before)) (ap is_far (sym k.tip) ∙ near) few);
        })

pub ready_in_time : (e : Core) (now : ℤ) → IsSound e → AreValid e.images → IsReady (timed_core e (events.Tick now))
ready_in_time e now sound valid = engines_ready.timed_ready e now (engines_ready.ready e sound valid)

pub noted_step : (e noted core after : Core) (now : ℤ) → noted ≡ timed_core e (events.Tick now) → outputs_left e ≡ [] → AreValid e.images → AreHeartbeats e.heard
    → SettlesTick noted core (tick_reason noted) → after ≡ counted_core core → IsStep e after (events.Tick now)
noted_step e noted core after now is drained valid are settles counts =
    tick_step e core after now drained valid are (subst (λ (before : Core). SettlesTick before core (tick_reason before)) is settles) counts

pub lapsed_fenced : (e between after : Core) (brokers : List ℤ) → FencesAll e (record between { heard = fold leave e.heard brokers }) brokers → between.heard ≡ e.heard → after ≡ record between { heard = fold leave between.heard brokers } → FencesAll e after brokers
lapsed_fenced e between after brokers all same left =
    subst (λ (a : Core). FencesAll e a brokers) (sym (left ∙ ap (λ h. record between { heard = fold leave h brokers }) same)) all

nobody_fenced : (e : Core) (brokers : List ℤ) → length brokers == 0 ≡ true → FencesAll e e brokers
nobody_fenced e [] none = refl
nobody_fenced e (broker ∷ brokers) none = absurd (never (sym (not_none (length brokers)) ∙ none))

pub none_lapsed : (e : Core) (lapsed brokers : List ℤ) → lapsed ≡ brokers → true ≡ (length lapsed == 0) → FencesAll e e brokers
none_lapsed e lapsed brokers is none = subst (FencesAll e e) is (nobody_fenced e lapsed (sym none))

pub none_within : (e : Core) (first last : ℕ) → last ≤ first + length (lapsed_contacts e) + 1 → WithinLapsed e e first last
none_within e first last looked = omega (arith, ints, looked)

pub all_within : (e between after : Core) (h : hearing.Heartbeats) (first mid last : ℕ) → mid ≤ first + length (lapsed_contacts e) + 1 → Advances e between mid last → after ≡ record between { heard = h } → WithinLapsed e after first last
all_within e between after h first mid last looked counted left =
    let tip : after.tip ≡ between.tip = ap (λ (a : Core). a.tip) left in
    omega (arith, ints, looked, counted, tip)

pub refused_within : (e after : Core) (reason : Reason) (steps : ℕ) → after ≡ refused_core e reason → WithinLapsed e after steps steps
refused_within e after reason steps is =
    let tip : after.tip ≡ e.tip = ap (λ (a : Core). a.tip) is in
    omega (arith, ints, tip)

pub ruleset fence_lapsed = (lapsed_fenced, same_breaks, none_lapsed, none_within, all_within)

ticked_by : {X E : Type 0} (settled : Result X E) (e core left after : Core) (now : ℤ) (first mid last : ℕ) → OnOk settled (WithinLapsed (timed_core e (events.Tick now)) core first mid) → OnOk settled (left ≡ core) → OnOk settled (last ≡ mid)
    → OnOk settled (after ≡ counted_core left) → OnOk settled (WithinTick e after now first last)
ticked_by (Ok x) e core left after now first mid last within same still counts =
    subst (λ (n : ℕ). WithinTick e after now first n) (sym still)
    (subst (λ (a : Core). WithinTick e a now first mid) (sym counts) (subst (λ (a : Core). WithinTick e (counted_core a) now first mid) (sym same) within))
ticked_by (Err fault) e core left after now first mid last within same still counts = tt

pub ticked : {X E : Type 0} (result settled : Result X E) (e noted core left after : Core) (now : ℤ) (first mid last : ℕ) → result ≡ settled → noted ≡ timed_core e (events.Tick now) → OnOk settled (WithinLapsed noted core first mid)
    → OnOk settled (left ≡ core) → OnOk settled (last ≡ mid) → OnOk settled (after ≡ counted_core left) → OnOk result (WithinTick e after now first last)
ticked {X} {E} result settled e noted core left after now first mid last is begun within same still counts =
    subst (λ (r : Result X E). OnOk r (WithinTick e after now first last)) (sym is)
    (ticked_by settled e core left after now first mid last (subst (λ (n : Core). OnOk settled (WithinLapsed n core first mid)) begun within) same still counts)

pub ruleset tick = (can_lapse, ready_in_time)
