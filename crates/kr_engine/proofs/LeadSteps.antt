-- What the beginning of a leadership makes of an engine.
use Rattle.std.proofs.Common.{◌≡◌, ◌∙◌, sym, subst, ℕ, ℤ, pos, Bool, true, false, cond, ◌+◌, ◌≤◌, ◌<◌, List, [], ◌∷◌, ◌++◌, length, refl, ap, arith}
use Rattle.std.proofs.lemmas.List.{append-nil, append_assoc}
use Rattle.std.proofs.lemmas.List.Elements.{All-nil}
use Rattle.std.specs.Prelude.{◌+ℤ◌, Option, Some, None, Result, Ok, IfSome, not, ◌||◌, filter, int_lt, int_le, is_some, option_to_list, unsigned_abs, All}
use Rattle.std.specs.Int.{int_max}
use Rattle.std.specs.List.{AllByRecursion}
use Rattle.std.specs.Ordering.{int_eq}
use Rattle.std.specs.Result.{result_unwrap_or}
use Rattle.kr_batch.specs.BatchBytes.{batch_bytes}
use Rattle.kr_calls.specs.declared.events.Event.{Event}
use Rattle.kr_calls.specs.declared.events.Event.TheVariants as events
use Rattle.kr_calls.specs.declared.events.Output.{Output}
use Rattle.kr_calls.specs.declared.events.Output.TheVariants as given
use Rattle.kr_calls.specs.declared.events.Reason.{Reason}
use Rattle.kr_defs.specs.declared.ill.Ill.{Ill}
use Rattle.kr_defs.specs.declared.limits.TheConstants.{PLACES_END}
use Rattle.kr_defs.specs.declared.record.Item.{Item}
use Rattle.kr_defs.specs.declared.record.Item.TheVariants as items
use Rattle.kr_defs.specs.declared.record.Record.{Record}
use Rattle.kr_defs.specs.declared.record.Record.TheVariants as kinds
use Rattle.kr_defs.specs.Apply.{apply}
use Rattle.kr_defs.specs.Brokers.{stopping, unfenced}
use Rattle.kr_defs.specs.Heartbeats as hearing
use Rattle.kr_defs.specs.Image.{Image, IsValid, empty}
use Rattle.kr_defs.specs.ImageLaws.{as_items}
use Rattle.kr_defs.specs.Log.{Log, image_at, open_at, tip}
use Rattle.kr_defs.specs.LogStates.{apply_at}
use Rattle.kr_defs.proofs.IdLists.{same_id}
use Rattle.kr_defs.proofs.Tests.{none_is, not_false}
use Rattle.law_safety.proofs.HearingRequests.{leaders_begin_hearing}
use Rattle.kr_store.specs.Images.{AreValid, Images, marked}
use Rattle.kr_model.specs.declared.writes.Write.{Write}
use Rattle.kr_engine.specs.inner.Append.{batch_in, core_after_append_in}
use Rattle.kr_engine.specs.inner.Batch.{TakesItem}
use Rattle.kr_engine.specs.inner.Changes.{counted_core, timed_core}
use Rattle.kr_engine.specs.inner.Lead.{BeginsToLead, GivesUp, GivesUpOpen, SettlesLead, an_abort, core_leading, core_up_to, lead_reason}
use Rattle.kr_model.specs.Engine.{Core, IsEngine, IsState, IsStep, Rise, outputs_left}
use Rattle.kr_model.specs.Entries.{item_entries}
use Rattle.kr_model.specs.Events.{with_next_number, next_number, outcome, at_time_of}
use Rattle.kr_model.specs.Lead.{after_lead, giving_up, in_lead, lead, may_begin_at, taking_over}
use Rattle.kr_model.specs.Outputs.{answers, answers_in, append, is_open, is_open_in}
use Rattle.kr_model.specs.Reasons.{already_leading, bad_next, exhausted, old_epoch}
use Rattle.kr_model.specs.Weights.{weight_settled}
use Rattle.kr_model.specs.World.{State, World, closed_of, is_far, log_with, seen_at, tip_of, with_batch, with_records}
use Rattle.kr_model.proofs.ContactTimes.{begun_now}
use Rattle.kr_model.proofs.EventsWithoutWrites.{answers_then, held_then, timed_state, waits_then}
use Rattle.kr_model.proofs.KeptImages.{none_open, not_higher}
use Rattle.kr_model.proofs.LogEntries.{Gains, gained, gains_none, gains_then}
use Rattle.kr_model.proofs.Logs.{open_written, state_seen, tip_written}
use Rattle.kr_model.proofs.LongerLogs.{rise_more}
use Rattle.kr_model.proofs.Places.{near}
use Rattle.kr_model.proofs.Queues.{IsDrained, drained}
use Rattle.kr_model.proofs.StandingEngines.{core_of, is_core, tip_only}
use Rattle.kr_model.proofs.TransactionWeights.{begun_below}
use Rattle.kr_engine.proofs.FirstReasons.{IsAccepted, accepted_step, none_row, row, unless_refused}
use Rattle.kr_engine.proofs.KeptStates.{Keeps, engine_keeps, item_kept, keeps_weighed, place_of, tip_kept}
use Rattle.kr_engine.proofs.LongerWorlds.{BegunBelow, begun_more, closed_same, none_below, settled_same, settled_so, still_begun, world_with}
use Rattle.kr_engine.proofs.Refusals.{refused_step}

-- on standby no write waits
pub no_writes : (leading : Option ℤ) (end : ℤ) (held writes : List Write) → leading ≡ None → filter (is_open leading end) held ≡ writes → writes ≡ []
no_writes leading end held writes none waits = sym waits ∙ (ap (λ l. filter (is_open l end) held) none ∙ none_open end held)

-- ---- what an engine keeps of a world, whoever leads

record Has (images : Images) (place : ℤ) (v : World) : Type 0 where
  at : place ≡ pos (tip v.log)
  keeps : Keeps images v.log (closed_of v) (weight_settled v.log v.committed) (v.covered ++ v.batch_ends) (tip v.log)
  made : images.made ≡ 0
  valid : IsValid v.log.image
  started : v.log.offset ≤ v.committed
  settled : Rise (closed_of v) v.covered v.committed
  ends : Rise v.committed v.batch_ends (tip v.log)
  begun : AllByRecursion (BegunBelow v.log v.committed) v.batch_ends

-- a batch more, at whose end the image is kept
module _ (images behind : Images) (place : ℤ) (v : World) (h : Has images place v) (own : List Item) (some : 1 ≤ length own)
    (k : Keeps behind (log_with v.log own) (closed_of v) (weight_settled v.log v.committed) (v.covered ++ v.batch_ends) (tip v.log)) (below : BegunBelow (log_with v.log own) v.committed (tip (log_with v.log own))) where
  abbrev longer : Log
  longer = log_with v.log own

  abbrev n : ℕ
  n = tip v.log + length own

  abbrev then : World
  then = world_with v own (n ∷ [])

  n_is : n ≡ tip longer
  n_is = sym (tip_written v.log own)

  committed_low : v.committed ≤ tip v.log
  committed_low = not_higher v.committed v.batch_ends (tip v.log) h.ends

  abbrev kept_images : Images
  kept_images = marked behind (pos (tip longer))

  keeps_then : Keeps kept_images longer (closed_of v) (weight_settled v.log v.committed) ((v.covered ++ v.batch_ends) ++ n ∷ []) (tip longer)
  keeps_then =
      subst (λ m. Keeps kept_images longer (closed_of v) (weight_settled v.log v.committed) ((v.covered ++ v.batch_ends) ++ m ∷ []) (tip longer)) (sym n_is)
      (tip_kept behind kept_images longer (closed_of v) (weight_settled v.log v.committed) (v.covered ++ v.batch_ends) (tip v.log) k (let up = n_is in omega (arith, up, some)) refl)

  has_more : Has kept_images (pos n) then
  has_more = record {
    at = ap pos n_is;
    keeps =
        subst (λ c. Keeps kept_images longer c (weight_settled longer v.committed) (v.covered ++ (v.batch_ends ++ n ∷ [])) (tip longer)) (sym (closed_same v own (n ∷ []) kept_images images.tip (tip longer) h.keeps.present committed_low keeps_then))
        (subst (λ b. Keeps kept_images longer (closed_of v) b (v.covered ++ (v.batch_ends ++ n ∷ [])) (tip longer)) (sym (settled_same v.log own v.committed images.tip h.keeps.present committed_low))
        (subst (λ ns. Keeps kept_images longer (closed_of v) (weight_settled v.log v.committed) ns (tip longer)) (append_assoc v.covered v.batch_ends (n ∷ [])) keeps_then));
    made = refl;
    valid = h.valid;
    started = h.started;
    settled = settled_so v own (n ∷ []) kept_images images.tip (tip longer) h.keeps.present committed_low keeps_then h.settled;
    ends = subst (Rise v.committed (v.batch_ends ++ n ∷ [])) n_is (rise_more v.committed v.batch_ends (tip v.log) n h.ends (omega (arith, some)));
    begun = begun_more (BegunBelow longer v.committed) v.batch_ends n (still_begun v.log own v.committed v.batch_ends v.committed h.ends h.begun) (subst (BegunBelow longer v.committed) (sym n_is) below);
  }

-- an item of the quorum's own has no meaning
control_taken : (images : Images) (place : ℤ) → AreValid images → TakesItem images images place items.Control
unfolding apply_at apply
control_taken images place valid = record {
  applied = refl;
  epochs = record { images = refl; calls = refl; begun = refl };
  made = omega arith;
  valid = valid;
}

-- what is open at the tip began below it
open_below : (log : Log) (image : Image) (o : Option ℕ) → image_at log (tip log) ≡ Ok image → open_at log (tip log) ≡ o → IfSome o (λ begin. begin < tip log)
open_below log image None seen is = tt
open_below log image (Some begin) seen is =
    let h = state_seen log (tip log) image seen in
    let b = begun_below log (tip log) h.state begin h.there is in omega (arith, b)

module _ (e : Core) (epoch next now : ℤ) (d : IsDrained e) where
  abbrev event : Event
  event = events.Lead epoch next now

  abbrev before : Core
  before = timed_core e event

  -- ---- the leadership begins at the end, or one above

  module _ (s : State) (writes : List Write) (k : IsEngine e s writes) (standby : s.world.leading ≡ None) (valid : AreValid e.images) where
    abbrev time : ℤ
    time = int_max s.basis.time now

    -- the engine and the world there
    abbrev up_core : Bool → Core
    up_core b = cond b before (record before { images = marked before.images next; tip = next; fresh = before.fresh ++ item_entries before.tip (items.Control ∷ []) })

    abbrev up_world : Bool → World
    up_world b = record (cond b s.world (with_batch s.world (items.Control ∷ []))) { leading = Some epoch; greatest = epoch }

    ends : s.world.committed ≡ tip_of s
    ends = tip_only s.world.log s.world.committed s.world.batch_ends (tip_of s) k.is_state.ends (k.is_state.at_standby standby).0

    has_first : Has e.images e.tip s.world
    has_first = record {
      at = k.tip;
      keeps = engine_keeps e s writes k;
      made = k.weighed.unmade;
      valid = k.is_state.valid;
      started = k.is_state.started;
      settled = k.is_state.settled;
      ends = k.is_state.ends;
      begun = k.is_state.begun;
    }

    -- who leads makes no difference
    led_by : (images : Images) (place : ℤ) (v : World) → Has images place v → Has images place (record v { leading = Some epoch; greatest = epoch })
    led_by images place v h = record { at = h.at; keeps = h.keeps; made = h.made; valid = h.valid; started = h.started; settled = h.settled; ends = h.ends; begun = h.begun }

    record Up (c : Core) (v : World) : Type 0 where
      has : Has c.images c.tip v
      gains : Gains [] c.fresh s.world.log v.log
      same : c ≡ record before { images = c.images; tip = c.tip; fresh = c.fresh }
      low : tip v.log ≤ unsigned_abs PLACES_END
      committed : v.committed ≡ s.world.committed
      count : v.count ≡ s.world.count
      leading : v.leading ≡ Some epoch
      greatest : v.greatest ≡ epoch
      closed : closed_of v ≡ closed_of s.world

    module _ (is_near : is_far next ≡ false) (begins : may_begin_at s.world next ≡ true) where
      up_true : Up (up_core true) (up_world true)
      up_true = record {
        has = led_by e.images e.tip s.world has_first;
        gains = gains_none [] s.world.log;
        same = refl;
        low = k.is_state.low;
        committed = refl;
        count = refl;
        leading = refl;
        greatest = refl;
        closed = refl;
      }

      module _ (is : next ≡ pos (s.world.committed + 1)) where
        abbrev control : List Item
        control = items.Control ∷ []

        abbrev longer_log : Log
        longer_log = log_with s.world.log control

        next_is : next ≡ pos (tip_of s + 1)
        next_is = is ∙ ap (λ m. pos (m + 1)) ends

        kept_control : Keeps e.images longer_log (closed_of s.world) (weight_settled s.world.log s.world.committed) (s.world.covered ++ s.world.batch_ends) (tip_of s)
        kept_control =
            item_kept e.images e.images s.world.log (closed_of s.world) (weight_settled s.world.log s.world.committed) (s.world.covered ++ s.world.batch_ends) (tip_of s) (engine_keeps e s writes k) items.Control
            (control_taken e.images (pos (tip_of s)) valid) refl

        below_control : BegunBelow longer_log s.world.committed (tip longer_log)
        below_control =
            subst (λ (o : Option ℕ). IfSome o (λ begin. begin < s.world.committed)) (sym (open_written s.world.log control))
            (subst (λ m. IfSome (open_at s.world.log (tip_of s)) (λ begin. begin < m)) (sym ends) (open_below s.world.log e.images.tip (open_at s.world.log (tip_of s)) k.present refl))

        tip_is : pos (tip_of s + 1) ≡ pos (tip longer_log)
        tip_is = ap pos (sym (tip_written s.world.log control))

        has_control : Has (marked e.images next) next (with_batch s.world control)
        has_control =
            subst (λ z. Has (marked e.images z) z (with_batch s.world control)) (sym next_is)
            (subst (λ z. Has (marked e.images z) (pos (tip_of s + 1)) (with_batch s.world control)) (sym tip_is)
            (has_more e.images e.images e.tip s.world has_first control (omega arith) kept_control below_control))

        up_false : Up (up_core false) (up_world false)
        up_false = record {
          has = led_by (marked e.images next) next (with_batch s.world control) has_control;
          gains = record { items = control; writes = refl; told = ap (λ z. item_entries z control) k.tip };
          same = refl;
          low = subst (λ m. m ≤ unsigned_abs PLACES_END) (sym (tip_written s.world.log control)) (near (tip_of s + 1) (ap is_far (sym next_is) ∙ is_near));
          committed = refl;
          count = refl;
          leading = refl;
          greatest = refl;
          closed = closed_same s.world control ((tip_of s + 1) ∷ []) (marked e.images (pos (tip longer_log))) e.images.tip (tip longer_log) k.present (omega (arith, ends))
              (keeps_then e.images e.images e.tip s.world has_first control (omega arith) kept_control below_control);
        }

      up_by : (b : Bool) → int_eq next (pos s.world.committed) ≡ b → Up (up_core b) (up_world b)
      up_by true is = up_true
      up_by false is = up_false (same_id next (pos (s.world.committed + 1)) (sym (ap (λ b. b || int_eq next (pos (s.world.committed + 1))) is) ∙ begins))

    -- ---- what is open is given up

    abbrev gives_out : World → Core → List Output
    gives_out v c = cond (is_some (open_at v.log (tip v.log))) (given.Append (batch_bytes (batch_in c epoch (an_abort ∷ []))) ∷ []) []

    record Settled (up : Core) (c : Core) (u v : World) : Type 0 where
      has : Has c.images c.tip v
      closed : open_at v.log (tip v.log) ≡ None
      gains : Gains [] c.fresh s.world.log v.log
      outputs : c.given ≡ e.given ++ gives_out u up
      same : c ≡ record before { images = c.images; tip = c.tip; given = c.given; fresh = c.fresh }
      low : tip v.log ≤ unsigned_abs PLACES_END
      committed : v.committed ≡ s.world.committed
      count : v.count ≡ s.world.count
      leading : v.leading ≡ Some epoch
      greatest : v.greatest ≡ epoch
      closed_is : closed_of v ≡ closed_of s.world

    module _ (up c : Core) (v : World) (u : Up up v) where
      abbrev unclosed : Option ℕ
      unclosed = open_at v.log (tip v.log)

      -- nothing is open
      settled_none : unclosed ≡ None → c ≡ up → Settled up c v (with_records v (giving_up v))
      settled_none none same =
          let stays : with_records v (giving_up v) ≡ v = ap (λ o. with_records v (cond (is_some o) (kinds.AbortTransaction None ∷ []) [])) none in
          subst (λ (w : World). Settled up c v w) (sym stays) (subst (λ (x : Core). Settled up x v v) (sym same) (record {
            has = u.has;
            closed = none;
            gains = u.gains;
            outputs = ap (λ (x : Core). x.given) u.same ∙ (sym (append-nil e.given) ∙ ap (λ o. e.given ++ cond (is_some o) (given.Append (batch_bytes (batch_in up epoch (an_abort ∷ []))) ∷ []) []) (sym none));
            same = u.same ∙ ap (λ g. record before { images = up.images; tip = up.tip; given = g; fresh = up.fresh }) (sym (ap (λ (x : Core). x.given) u.same));
            low = u.low;
            committed = u.committed;
            count = u.count;
            leading = u.leading;
            greatest = u.greatest;
            closed_is = u.closed;
          }))

      -- the abort is a batch
      module _ (begin : ℕ) (some : unclosed ≡ Some begin) (g : GivesUp up c epoch) (room : tip v.log + 1 ≤ unsigned_abs PLACES_END) where
        abbrev own : List Item
        own = items.Record an_abort ∷ []

        abbrev behind : Log
        behind = log_with v.log own

        taken : TakesItem up.images g.images (pos (tip v.log)) (items.Record an_abort)
        taken = subst (λ z. TakesItem up.images g.images z (items.Record an_abort)) u.has.at g.takes

        kept_abort : Keeps g.images behind (closed_of v) (weight_settled v.log v.committed) (v.covered ++ v.batch_ends) (tip v.log)
        kept_abort =
            item_kept up.images g.images v.log (closed_of v) (weight_settled v.log v.committed) (v.covered ++ v.batch_ends) (tip v.log) u.has.keeps (items.Record an_abort) taken refl

        none_then : open_at behind (tip behind) ≡ None
        none_then = open_written v.log own

        place_is : up.tip +ℤ pos 1 ≡ pos (tip behind)
        place_is = ap (λ z. z +ℤ pos 1) u.has.at ∙ ap pos (sym (tip_written v.log own))

        abbrev then_world : World
        then_world = with_batch v own

        has_abort : Has (marked g.images (up.tip +ℤ pos 1)) (up.tip +ℤ pos 1) then_world
        has_abort =
            subst (λ z. Has (marked g.images z) z then_world) (sym place_is)
            (subst (λ z. Has (marked g.images (pos (tip behind))) z then_world) (ap pos (sym (tip_written v.log own)))
            (has_more up.images g.images up.tip v u.has own (omega arith) kept_abort (none_below behind v.committed (tip behind) none_then)))

        stays : with_records v (giving_up v) ≡ then_world
        stays = ap (λ o. with_records v (cond (is_some o) (kinds.AbortTransaction None ∷ []) [])) some

        abbrev c_then : Core
        c_then = core_after_append_in (record up { images = g.images }) epoch (an_abort ∷ [])

        gains_abort : Gains up.fresh c_then.fresh v.log then_world.log
        gains_abort = record { items = own; writes = refl; told = ap (λ z. up.fresh ++ item_entries z own) u.has.at }

        settled_some : Settled up c v (with_records v (giving_up v))
        settled_some =
            subst (λ (w : World). Settled up c v w) (sym stays) (subst (λ (x : Core). Settled up x v then_world) (sym g.same) (record {
              has = has_abort;
              closed = none_then;
              gains = gains_then [] up.fresh c_then.fresh s.world.log v.log then_world.log u.gains gains_abort;
              outputs =
                  ap (λ xs. xs ++ given.Append (batch_bytes (batch_in up epoch (an_abort ∷ []))) ∷ []) (ap (λ (x : Core). x.given) u.same)
                  ∙ ap (λ o. e.given ++ cond (is_some o) (given.Append (batch_bytes (batch_in up epoch (an_abort ∷ []))) ∷ []) []) (sym some);
              same = ap (λ (x : Core). record x { images = c_then.images; tip = c_then.tip; given = c_then.given; fresh = c_then.fresh }) u.same;
              low = subst (λ m. m ≤ unsigned_abs PLACES_END) (sym (tip_written v.log own)) room;
              committed = u.committed;
              count = u.count;
              leading = u.leading;
              greatest = u.greatest;
              closed_is = closed_same v own ((tip v.log + 1) ∷ []) (marked g.images (pos (tip behind))) up.images.tip (tip behind) u.has.keeps.present
                  (not_higher v.committed v.batch_ends (tip v.log) u.has.ends)
                  (keeps_then up.images g.images up.tip v u.has own (omega arith) kept_abort (none_below behind v.committed (tip behind) none_then))
                  ∙ u.closed;
            }))

      settled_by : (o : Option ℕ) → unclosed ≡ o → GivesUpOpen (place_of o) up c epoch → tip v.log + 1 ≤ unsigned_abs PLACES_END → Settled up c v (with_records v (giving_up v))
      settled_by None none same room = settled_none none same
      settled_by (Some begin) some g room = settled_some begin some g room

      settles : GivesUpOpen up.images.begun up c epoch → tip v.log + 1 ≤ unsigned_abs PLACES_END → Settled up c v (with_records v (giving_up v))
      settles g room = settled_by unclosed refl (subst (λ o. GivesUpOpen o up c epoch) u.has.keeps.begun g) room

    -- ---- the engine that leads

    module _ (settled up : Core) (u : World) (z : Settled up settled u (in_lead (at_time_of s event) epoch next)) (out : gives_out u up ≡ append (taking_over (at_time_of s event) epoch next) (giving_up (taking_over (at_time_of s event) epoch next).world)) where
      abbrev w : World
      w = in_lead (at_time_of s event) epoch next

      abbrev after : State
      after = after_lead (at_time_of s event) epoch next

      abbrev core : Core
      core = core_leading settled epoch next

      seen : seen_at w.log (tip w.log) ≡ settled.images.tip
      seen = ap (λ (r : Result Image Ill). result_unwrap_or r empty) z.has.keeps.present

      time_is : settled.time ≡ time
      time_is = ap (λ (c : Core). c.time) z.same ∙ ap (λ t. int_max t now) k.time

      heard_so : hearing.begin (unfenced settled.images.tip) (stopping settled.images.tip) settled.time next ≡ hearing.begin (unfenced (seen_at w.log (tip w.log))) (stopping (seen_at w.log (tip w.log))) time next
      heard_so =
          ap (λ (i : Image). hearing.begin (unfenced i) (stopping i) settled.time next) (sym seen)
          ∙ ap (λ t. hearing.begin (unfenced (seen_at w.log (tip w.log))) (stopping (seen_at w.log (tip w.log))) t next) time_is

      none_waits : writes ≡ []
      none_waits = no_writes e.leading e.closed e.held writes (k.leading ∙ standby) k.waits

      state_after : IsState (with_next_number after) (filter (is_open_in w) (writes ++ []))
      state_after = record {
        valid = z.has.valid;
        started = z.has.started;
        settled = z.has.settled;
        ends = z.has.ends;
        begun = z.has.begun;
        low = z.low;
        at_standby = λ none. absurd (let some : Some epoch ≡ None = sym z.leading ∙ none in cc);
        decided = λ _. z.closed;
        hears = λ _. leaders_begin_hearing (seen_at w.log (tip w.log)) time next;
        in_time = begun_now time (unfenced (seen_at w.log (tip w.log)));
        natural = (timed_state s writes event k.is_state).natural;
        reached = (let P : Write → Type 0 = λ write. int_le write.need (pos (tip w.log)) ≡ true in
            subst (λ (ws : List Write). All P (filter (is_open_in w) (ws ++ []))) (sym none_waits) (All-nil P));
      }

      closed_then : settled.closed ≡ pos (closed_of w)
      closed_then = ap (λ (c : Core). c.closed) z.same ∙ (k.closed ∙ ap pos (sym z.closed_is))

      held_same : settled.held ≡ e.held
      held_same = ap (λ (c : Core). c.held) z.same

      leads_same : Some epoch ≡ w.leading
      leads_same = sym z.leading

      accepted : IsAccepted e e.options s writes event core after
      accepted = record {
        stands = record {
          tip = z.has.at;
          committed = ap (λ (c : Core). c.committed) z.same ∙ (k.committed ∙ ap pos (sym z.committed));
          closed = closed_then;
          leading = leads_same;
          greatest = sym z.greatest;
          count = ap (λ (c : Core). next_number c.count) z.same ∙ (ap next_number k.count ∙ ap next_number (sym z.count));
          time = time_is;
          led = refl;
          heard_of = heard_so;
          present = z.has.keeps.present;
          kept = z.has.keeps.kept;
          begun = z.has.keeps.begun;
          kept_begun = z.has.keeps.kept_begun;
          weighed = keeps_weighed settled.images w.log (closed_of w) (weight_settled w.log w.committed) (w.covered ++ w.batch_ends) (tip w.log) z.has.keeps z.has.made;
          waits = ap (filter (is_open (Some epoch) settled.closed)) held_same ∙ waits_then e s writes d k (Some epoch) settled.closed w leads_same closed_then;
          ordered = subst (λ (hs : List Write). Rattle.kr_model.specs.Engine.writes_in_order hs ≡ true) (sym held_same) k.ordered;
          is_state = state_after;
        };
        outputs =
            ap (λ g. (g ++ option_to_list settled.refusal) ++ answers (Some epoch) settled.closed settled.held) (z.outputs ∙ ap (λ g. g ++ gives_out u up) d.none_given ∙ out)
            ∙ (ap (λ o. (appended ++ option_to_list o) ++ answers (Some epoch) settled.closed settled.held) (ap (λ (c : Core). c.refusal) z.same ∙ d.none_refused)
            ∙ (ap (λ hs. (appended ++ []) ++ answers (Some epoch) settled.closed hs) held_same
            ∙ (ap (λ due. (appended ++ []) ++ due) (answers_then e s writes d k (Some epoch) settled.closed w leads_same closed_then)
            ∙ ap (λ xs. xs ++ answers_in w (writes ++ [])) (sym (append-nil (appended ++ []))))));
        held = held_same ∙ held_then e s writes d k;
        fresh = gained settled.fresh s.world.log w.log z.gains;
      }
        where
          appended : List Output
          appended = append (taking_over (at_time_of s event) epoch next) (giving_up (taking_over (at_time_of s event) epoch next).world)

    -- what is given out is the batch as the world has it
    gives_by : (b : Bool) (o : Option ℕ) (u : Up (up_core b) (up_world b)) → open_at (up_world b).log (tip (up_world b).log) ≡ o
        → gives_out (up_world b) (up_core b) ≡ append (record { world = up_world b; basis = (at_time_of s event).basis }) (giving_up (up_world b))
    gives_by b None u none =
        ap (λ o. cond (is_some o) (given.Append (batch_bytes (batch_in (up_core b) epoch (an_abort ∷ []))) ∷ []) []) none
        ∙ sym (ap (λ o. append (record { world = up_world b; basis = (at_time_of s event).basis }) (cond (is_some o) (kinds.AbortTransaction None ∷ []) [])) none)
    gives_by b (Some begin) u some =
        ap (λ o. cond (is_some o) (given.Append (batch_bytes (batch_in (up_core b) epoch (an_abort ∷ []))) ∷ []) []) some
        ∙ (ap (λ z. given.Append (batch_bytes (record { base = z; epoch = epoch; time = (up_core b).time; items = as_items (an_abort ∷ []) })) ∷ []) u.has.at
        ∙ (ap (λ t. given.Append (batch_bytes (record { base = pos (tip (up_world b).log); epoch = epoch; time = t; items = as_items (an_abort ∷ []) })) ∷ []) (ap (λ (c : Core). c.time) u.same ∙ ap (λ t. int_max t now) k.time)
        ∙ sym (ap (λ o. append (record { world = up_world b; basis = (at_time_of s event).basis }) (cond (is_some o) (kinds.AbortTransaction None ∷ []) [])) some)))

  -- ---- the reasons

  judged_so : (s : State) → lead (at_time_of s event) epoch next ≡ unless_refused (lead_reason (timed_core (core_of e s) event) epoch next) (after_lead (at_time_of s event) epoch next)
  judged_so s =
      row (is_some s.world.leading) (already_leading s.world.leading) _ _ (after_lead (at_time_of s event) epoch next)
      (row (not (int_lt s.world.greatest epoch)) (old_epoch epoch s.world.greatest) _ _ (after_lead (at_time_of s event) epoch next)
      (row (not (may_begin_at s.world next)) (bad_next next (pos s.world.committed)) _ _ (after_lead (at_time_of s event) epoch next)
      (row (is_far next) (exhausted next) None (Ok (after_lead (at_time_of s event) epoch next)) (after_lead (at_time_of s event) epoch next) refl)))

  judged : (s : State) (writes : List Write) → IsEngine e s writes → outcome e.options (at_time_of s event) event ≡ unless_refused (lead_reason before epoch next) (after_lead (at_time_of s event) epoch next)
  judged s writes k =
      judged_so s ∙ ap (λ (c : Core). unless_refused (lead_reason (timed_core c event) epoch next) (after_lead (at_time_of s event) epoch next)) (sym (is_core e s writes k))

  -- ---- the step

  room_for : (n : ℕ) (next : ℤ) → next ≡ pos n → is_far next ≡ false → n + 1 ≤ unsigned_abs PLACES_END
  room_for n next is is_near = let room = Rattle.kr_model.proofs.Places.near_enough n 1 (ap is_far (sym is) ∙ is_near) (omega arith) in omega (arith, room)

  accepted_lead : (core : Core) → AreValid e.images → lead_reason before epoch next ≡ None → BeginsToLead before core epoch next → (s : State) (writes : List Write) → IsEngine e s writes
      → IsAccepted e e.options s writes event core (after_lead (at_time_of s event) epoch next)
  accepted_lead core valid none b s writes k =
      let one = none_row (is_some e.leading) (already_leading e.leading) _ none in
      let two = none_row (not (int_lt e.greatest epoch)) (old_epoch epoch e.greatest) _ one.1 in
      let three = none_row (not (int_eq next e.committed || int_eq next (e.committed +ℤ pos 1))) (bad_next next e.committed) _ two.1 in
      let four = none_row (is_far next) (exhausted next) None three.1 in
      let standby : s.world.leading ≡ None = sym k.leading ∙ none_is e.leading one.0 in
      let begins : may_begin_at s.world next ≡ true =
      sym (ap (λ c. int_eq next c || int_eq next (c +ℤ pos 1)) k.committed) ∙ not_false (int_eq next e.committed || int_eq next (e.committed +ℤ pos 1)) three.0 in
      let b1 : Bool = int_eq next (pos s.world.committed) in
      let u : Up s writes k standby valid (up_core s writes k standby valid b1) (up_world s writes k standby valid b1) = up_by s writes k standby valid four.0 begins b1 refl in
      let gives : GivesUpOpen (up_core s writes k standby valid b1).images.begun (up_core s writes k standby valid b1) b.settled epoch =
      subst (λ c. GivesUpOpen (cond (int_eq next c) before (up_core s writes k standby valid false)).images.begun (cond (int_eq next c) before (up_core s writes k standby valid false)) b.settled epoch) k.committed b.gives_up in
      let room : tip (up_world s writes k standby valid b1).log + 1 ≤ unsigned_abs PLACES_END = room_for (tip (up_world s writes k standby valid b1).log) next (next_there s writes k standby valid b1 refl u) four.0 in
      subst (λ (c : Core). IsAccepted e e.options s writes event c (after_lead (at_time_of s event) epoch next)) (sym b.leads)
      (accepted s writes k standby valid b.settled (up_core s writes k standby valid b1) (up_world s writes k standby valid b1)
      (settles s writes k standby valid (up_core s writes k standby valid b1) b.settled (up_world s writes k standby valid b1) u gives room)
      (gives_by s writes k standby valid b1 (open_at (up_world s writes k standby valid b1).log (tip (up_world s writes k standby valid b1).log)) u refl))
    where
      -- the place at which it begins is the tip then
      next_there : (s : State) (writes : List Write) (k : IsEngine e s writes) (standby : s.world.leading ≡ None) (valid : AreValid e.images) (b1 : Bool) → int_eq next (pos s.world.committed) ≡ b1
          → Up s writes k standby valid (up_core s writes k standby valid b1) (up_world s writes k standby valid b1) → next ≡ pos (tip (up_world s writes k standby valid b1).log)
      next_there s writes k standby valid true same u = same_id next (pos s.world.committed) same ∙ ap pos (ends s writes k standby valid)
      next_there s writes k standby valid false other u = u.has.at

  settled_lead : (core : Core) (reason : Option Reason) → AreValid e.images → lead_reason before epoch next ≡ reason → SettlesLead before core epoch next reason → IsStep e (counted_core core) event
  settled_lead core None valid is b =
      accepted_step e event d core (same_options core b) (λ s. after_lead (at_time_of s event) epoch next)
      (λ s writes k. judged s writes k ∙ ap (λ r. unless_refused r (after_lead (at_time_of s event) epoch next)) is)
      (λ s writes k. accepted_lead core valid is b s writes k)
    where
      same_options : (core : Core) → BeginsToLead before core epoch next → core.options ≡ e.options
      same_options core b = ap (λ (c : Core). c.options) b.leads ∙ options_by (core_up_to before next).images.begun (core_up_to before next) b.settled b.gives_up ∙ options_up (int_eq next e.committed)
        where
          options_by : (o : Option ℤ) (up c : Core) → GivesUpOpen o up c epoch → c.options ≡ up.options
          options_by None up c is = ap (λ (x : Core). x.options) is
          options_by (Some begin) up c g = ap (λ (x : Core). x.options) g.same

          options_up : (b1 : Bool) → (cond b1 before (record before { images = marked before.images next; tip = next; fresh = before.fresh ++ item_entries before.tip (items.Control ∷ []) })).options ≡ e.options
          options_up true = refl
          options_up false = refl
  settled_lead core (Some reason) valid is refuses =
      subst (λ (c : Core). IsStep e (counted_core c) event) (sym refuses)
      (refused_step e event reason d (λ s writes k. judged s writes k ∙ ap (λ r. unless_refused r (after_lead (at_time_of s event) epoch next)) is))

pub lead_so : (e begun between after : Core) (epoch next now : ℤ) → outputs_left e ≡ [] → AreValid e.images → begun ≡ timed_core e (events.Lead epoch next now)
    → SettlesLead begun between epoch next (lead_reason begun epoch next) → after ≡ counted_core between → IsStep e after (events.Lead epoch next now)
lead_so e begun between stepped epoch next now none valid begins settles counts =
    subst (λ (a : Core). IsStep e a (events.Lead epoch next now)) (sym counts)
    (settled_lead e epoch next now (drained e none) between (lead_reason (timed_core e (events.Lead epoch next now)) epoch next) valid refl
    (subst (λ (c : Core). SettlesLead c between epoch next (lead_reason c epoch next)) begins settles))
