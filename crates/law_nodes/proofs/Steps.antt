-- Each move keeps it.
use Rattle.std.proofs.Common.{◌≡◌, ◌∙◌, sym, subst, ℕ, zero, suc, ℤ, pos, ◌+◌, true, false, cond, Bool, List, [], ◌∷◌, ◌++◌, length, map, set, refl, ap, arith}
use Rattle.std.specs.Prelude.{Option, Some, None, Result, Ok, Err, IsOk, int_lt, nat_lt, ◌==◌, ◌&&◌, not, filter, is_some}
use Rattle.std.specs.List.{AllByRecursion, flat_map, slice_get}
use Rattle.std.specs.Ordering.{int_eq}
use Rattle.std.proofs.lemmas.Bool.Decides.{nat_tests}
use Rattle.std.proofs.lemmas.Int.{ints}
use Rattle.std.proofs.lemmas.List.{append-nil}
use Rattle.kr_batch.specs.declared.Batch.{Batch}
use Rattle.kr_calls.specs.declared.calls.Ask.TheVariants as ask
use Rattle.kr_calls.specs.declared.calls.Call.{Call}
use Rattle.kr_calls.specs.declared.events.Event.{Event}
use Rattle.kr_calls.specs.declared.events.Event.TheVariants as events
use Rattle.kr_calls.specs.declared.events.Reason.{Reason}
use Rattle.kr_defs.specs.declared.ill.Ill.{Ill}
use Rattle.kr_defs.specs.declared.options.Options.{Options}
use Rattle.kr_defs.specs.declared.record.Item.{Item}
use Rattle.kr_defs.specs.declared.record.Item.TheVariants as items
use Rattle.kr_defs.specs.declared.record.Record.{Record}
use Rattle.kr_defs.specs.Image.{Image, empty}
use Rattle.kr_defs.specs.Log.{Log, apply_all, tip}
use Rattle.kr_defs.specs.LogStates.{closed, first_ill_at}
use Rattle.kr_defs.proofs.IdLists.{id_itself}
use Rattle.kr_defs.proofs.Tests.{Gives, gives_done, gives_refuse, some_is}
use Rattle.kr_model.specs.Batch.{after_batch, end_of, take_batch, unless_ill}
use Rattle.kr_model.specs.Commit.{after_commit, is_end}
use Rattle.kr_model.specs.Events.{at_time_of, next_number, outcome, time_after, with_next_number}
use Rattle.kr_model.specs.Lead.{after_lead, giving_up, may_begin_at, taking_over}
use Rattle.kr_model.specs.Load.{after_load, take_image}
use Rattle.kr_model.specs.Lost.{after_lost, cut, lost}
use Rattle.kr_model.specs.Outputs.{answers_now}
use Rattle.kr_model.specs.Reasons as reasons
use Rattle.kr_model.specs.Request.{after_ask, is_decided}
use Rattle.kr_model.specs.Tick.{fence_all, lapsed_contacts}
use Rattle.kr_model.specs.World.{State, World, closed_of, image_of_closed, is_far, leads_in, seen_at, state_of_tip, tip_of, with_batch, with_records}
use Rattle.kr_model.proofs.DueWrites.{lead_leading}
use Rattle.kr_model.proofs.Leaderships.{none_given_up}
use Rattle.kr_model.proofs.OrderlyStates.{none_lapses}
use Rattle.law_nodes.specs.declared.moves.MoveFault.{MoveFault}
use Rattle.law_nodes.specs.Moves as table
use Rattle.law_nodes.specs.Moves.{put_node, deposed, feed_next, if_node, length_of, load_on, on_standby, settle_first, with_event, after_arrival, while_leading, on_node}
use Rattle.law_nodes.specs.Nodes.{RunNode, NodeTold, Run, Waiting, after_by, after_event, at_own_end, batch_for, batches_of, fencing_batches, tells_by, told_due, told_now, told_of, told_write, waits_in, writes_with}
use Rattle.law_nodes.specs.OneList.{Follows, batch_from, list_items}
use Rattle.law_nodes.proofs.Invariant.{IsCore, IsNode, IsRun, Leads, OneLeads, all_put, at_node, core_at, never, one_put}
use Rattle.law_nodes.proofs.LeaderLogs.{asked, core_fenced, core_more, leading_fenced, waits_fenced}
use Rattle.law_nodes.proofs.Lists.{HasItems, some_both}
use Rattle.law_nodes.proofs.Logs
use Rattle.law_nodes.proofs.Replies.{AllTold, AllWait, all_told, none_waits, now_told, told_both, told_longer, waits_both, waits_longer, waits_some}

abbrev pub Keeps : Result Run MoveFault → Type 0
Keeps (Ok r) = IsRun r
Keeps (Err fault) = Unit {0}

-- ---- cases

when : (b : Bool) (x y : Result Run MoveFault) → (b ≡ true → Keeps x) → (b ≡ false → Keeps y) → Keeps (cond b x y)
when true x y f g = f refl
when false x y f g = g refl

module _ (r : Run) (k : ℕ) (then : RunNode → Result Run MoveFault) (h : (n : RunNode) → slice_get r.nodes k ≡ Some n → Keeps (then n)) where
  there_by : (o : Option RunNode) → slice_get r.nodes k ≡ o → Keeps (if_node r k o then)
  there_by None is = tt
  there_by (Some n) is = h n is

  pub there : Keeps (on_node r k then)
  there = there_by (slice_get r.nodes k) refl

module _ (k : ℕ) (leading : Option ℤ) where
  standby_by : (o : Option ℤ) (x : Result Run MoveFault) → leading ≡ o → (leading ≡ None → Keeps x) → Keeps (on_standby k o x)
  standby_by None x is h = h is
  standby_by (Some epoch) x is h = tt

  pub standby : (x : Result Run MoveFault) → (leading ≡ None → Keeps x) → Keeps (on_standby k leading x)
  standby x h = standby_by leading x refl h

  leading_by : (o : Option ℤ) (then : ℤ → Result Run MoveFault) → leading ≡ o → ((epoch : ℤ) → leading ≡ Some epoch → Keeps (then epoch)) → Keeps (while_leading k o then)
  leading_by None then is h = tt
  leading_by (Some epoch) then is h = h epoch is

  pub leads : (then : ℤ → Result Run MoveFault) → ((epoch : ℤ) → leading ≡ Some epoch → Keeps (then epoch)) → Keeps (while_leading k leading then)
  leads then h = leading_by leading then refl h

-- ---- what an event makes of a node, and tells

module _ (options : Options) (list : List Batch) (elected : ℤ) (k : ℕ) (n : RunNode) (event : Event) where
  abbrev s : State
  s = at_time_of n.state event

  abbrev ws : List Waiting
  ws = writes_with options s n.waiting event

  -- where it is accepted
  pub record Fine (after : State) : Type 0 where
    pub core : IsCore list elected after n.settled (n.unsettled ++ batches_of options s event)
    pub waits : AllWait after.world.log (filter (waits_in after.world) ws)
    pub told : AllTold list (told_due k after.world ws)
    pub leading : after.world.leading ≡ n.state.world.leading

  module _ (i : IsNode list elected n) where
    timed : IsCore list elected s n.settled n.unsettled
    timed = core_at list elected n.state n.settled n.unsettled n.state.world.count (time_after n.state.basis.time event) i.core

    after_is_by : (q : Result State Reason) → Gives Fine q
        → IsNode list elected (after_by options n s event q) × AllTold list (tells_by options k n s event q) × ((after_by options n s event q).state.world.leading ≡ n.state.world.leading)
    after_is_by (Ok after) gives =
        let f = gives after refl in (
          record {
            core = core_at list elected after n.settled (n.unsettled ++ batches_of options s event) (next_number after.world.count) after.basis.time f.core;
            waits = f.waits;
            idle = λ none. none_waits after.world none ws;
          },
          told_both list (flat_map (told_now k) (answers_now options s event)) (told_due k after.world ws) (now_told list k (answers_now options s event)) f.told,
          f.leading,
        )
    after_is_by (Err reason) gives =
        (record { core = core_at list elected n.state n.settled n.unsettled (next_number n.state.world.count) (time_after n.state.basis.time event) i.core; waits = i.waits; idle = i.idle }, tt, refl)

    pub after_is : Gives Fine (outcome options s event)
        → IsNode list elected (after_event options n event) × AllTold list (told_of options k n event) × ((after_event options n event).state.world.leading ≡ n.state.world.leading)
    after_is gives = after_is_by (outcome options s event) gives

  -- where the log that the writes stand in is the one after it
  pub fine : (after : State) → IsCore list elected after n.settled (n.unsettled ++ batches_of options s event) → AllWait after.world.log ws → after.world.leading ≡ n.state.world.leading → Fine after
  fine after core waits leading = record {
    core = core;
    waits = waits_some after.world.log (waits_in after.world) ws waits;
    told =
        subst (λ (end : ℕ). AllTold list (map (told_write k end) (filter (λ x. not (waits_in after.world x)) ws))) (sym (Logs.all_closed after.world.log core.means after.world.committed))
        (all_told list after.world.log after.world.committed k core.committed _ (waits_some after.world.log (λ x. not (waits_in after.world x)) ws waits));
    leading = leading;
  }

-- ---- the events

module _ (options : Options) (list : List Batch) (elected : ℤ) (k : ℕ) (n : RunNode) (i : IsNode list elected n) where
  abbrev Fine_ : Event → State → Type 0
  Fine_ event after = Fine options list elected k n event after

  abbrev at : Event → State
  at event = at_time_of n.state event

  core : (event : Event) → IsCore list elected (at event) n.settled n.unsettled
  core event = timed options list elected k n event i

  -- those that no event adds to
  same_waits : (log : Log) → AllWait log n.waiting → AllWait log (n.waiting ++ [])
  same_waits log h = waits_both log n.waiting [] h tt

  pub request_fine : (client : ℕ) (now : ℤ) (call : Call) → let event = events.Request client now (ask.Call call) in Gives (Fine_ event) (outcome options (at event) event)
  request_fine client now call =
      let event = events.Request client now (ask.Call call) in
      let s = at event in
      let a = asked list elected n.settled n.unsettled options s client now call (core event) n.waiting i.waits in
      gives_refuse (Fine_ event) (reasons.exhausted (pos (tip_of s))) (is_decided s.world (ask.Call call) && is_far (pos (tip_of s))) _ (λ _.
      gives_done (Fine_ event) (after_ask options s (ask.Call call)) (fine options list elected k n event (after_ask options s (ask.Call call)) a.0 a.1 a.2))

  ticked : (now : ℤ) (o : Option ℤ) → n.state.world.leading ≡ o → let s = at (events.Tick now) in
      IsCore list elected (fence_all options s (lapsed_contacts options s)) n.settled (n.unsettled ++ fencing_batches options s (lapsed_contacts options s))
  ticked now None none =
      let s = at (events.Tick now) in
      subst (λ brokers. IsCore list elected (fence_all options s brokers) n.settled (n.unsettled ++ fencing_batches options s brokers))
      (sym (none_lapses options s ((core (events.Tick now)).standby none).2)) (core_more list elected n.settled s n.unsettled (core (events.Tick now)))
  ticked now (Some epoch) led =
      let s = at (events.Tick now) in
      core_fenced list elected n.settled options (lapsed_contacts options s) s n.unsettled (core (events.Tick now)) epoch led

  pub tick_fine : (now : ℤ) → let event = events.Tick now in Gives (Fine_ event) (outcome options (at event) event)
  tick_fine now =
      let event = events.Tick now in
      let s = at event in
      let after = fence_all options s (lapsed_contacts options s) in
      gives_refuse (Fine_ event) (reasons.exhausted (pos (tip_of s))) (is_some s.world.leading && is_far (pos (tip_of s))) _ (λ _.
      gives_done (Fine_ event) after
      (fine options list elected k n event after (ticked now n.state.world.leading refl)
      (same_waits after.world.log (waits_fenced options (lapsed_contacts options s) s n.waiting i.waits)) (leading_fenced options (lapsed_contacts options s) s)))

  pub image_fine : Gives (Fine_ events.Image) (outcome options (at events.Image) events.Image)
  image_fine =
      let s = at events.Image in
      gives_done (Fine_ events.Image) s
      (fine options list elected k n events.Image s (core_more list elected n.settled s n.unsettled (core events.Image)) (same_waits s.world.log i.waits) refl)

  committed_is : (s : State) → IsCore list elected s n.settled n.unsettled → (epoch : ℤ) → s.world.leading ≡ Some epoch → IsCore list elected (after_commit s (pos n.settled)) n.settled n.unsettled
  committed_is s c epoch led = record {
    committed = c.settles;
    settles = c.settles;
    order = omega arith;
    tail = c.tail;
    some = c.some;
    means = c.means;
    standby = λ none. absurd (never s.world.leading none led);
    low = c.low;
    latest = c.latest;
  }

  pub commit_fine : (epoch : ℤ) → n.state.world.leading ≡ Some epoch → let event = events.Commit epoch (pos n.settled) in Gives (Fine_ event) (outcome options (at event) event)
  commit_fine epoch led =
      let event = events.Commit epoch (pos n.settled) in
      let s = at event in
      let after = after_commit s (pos n.settled) in
      gives_refuse (Fine_ event) (reasons.not_leading epoch s.world.leading) (not (leads_in s.world.leading epoch)) _ (λ _.
      gives_refuse (Fine_ event) (reasons.bad_commit (pos n.settled) (pos s.world.committed) (pos (tip_of s))) (not (is_end s.world (pos n.settled))) _ (λ _.
      gives_done (Fine_ event) after
      (fine options list elected k n event after
      (core_more list elected n.settled after n.unsettled (committed_is s (core event) epoch led)) (same_waits after.world.log i.waits) refl)))

  -- ---- Lost

  pub lost_is : (epoch : ℤ) → n.state.world.leading ≡ Some epoch → let event = events.Lost epoch in
      IsNode list elected (at_own_end (after_event options n event)) × AllTold list (told_of options k n event) × ((after_event options n event).state.world.leading ≡ None)
  lost_is epoch led =
      let event = events.Lost epoch in
      let s = at event in
      let c = core event in
      let done : lost s epoch ≡ Ok (after_lost s) =
      ap (λ (o : Option ℤ). cond (not (leads_in o epoch)) (Err (reasons.not_leading epoch o)) (Ok (after_lost s))) led
      ∙ ap (λ b. cond (not b) (Err (reasons.not_leading epoch (Some epoch))) (Ok (after_lost s))) (id_itself epoch) in
      let follows = Logs.cut_log list s.world.log s.world.committed c.committed in
      let after : IsNode list elected (at_own_end (after_by options n s event (Ok (after_lost s)))) = record {
        core = record {
          committed = follows;
          settles = follows;
          order = omega arith;
          tail = refl;
          some = tt;
          means = subst (λ (l : List Item). IsOk (apply_all s.world.log.image l)) (sym (Logs.shared_is list s.world.log s.world.committed c.committed)) (Logs.shared_means list s.world.log s.world.committed c.committed c.means);
          standby = λ _. (refl, refl, refl);
          low = λ e is. absurd cc;
          latest = λ is. absurd cc;
        };
        waits = subst (AllWait (cut s.world.log s.world.committed)) (sym (none_waits (after_lost s).world refl (writes_with options s n.waiting event))) tt;
        idle = λ _. none_waits (after_lost s).world refl (writes_with options s n.waiting event);
      } in
      let untold : List Waiting = filter (λ x. not (waits_in (after_lost s).world x)) (writes_with options s n.waiting event) in
      let all = Logs.all_closed (cut s.world.log s.world.committed) after.core.means s.world.committed in
      let told : AllTold list (tells_by options k n s event (Ok (after_lost s))) =
      subst (λ (end : ℕ). AllTold list (map (told_write k end) untold)) (sym all)
      (all_told list s.world.log s.world.committed k c.committed untold
      (waits_some s.world.log (λ x. not (waits_in (after_lost s).world x)) (writes_with options s n.waiting event) (same_waits s.world.log i.waits))) in (
        subst (λ q. IsNode list elected (at_own_end (after_by options n s event q))) (sym done) after,
        subst (λ q. AllTold list (tells_by options k n s event q)) (sym done) told,
        ap (λ q. (after_by options n s event q).state.world.leading) done,
      )

  -- ---- what comes on standby

  module _ (none : n.state.world.leading ≡ None) where
    same : n.settled ≡ n.state.world.committed
    same = (i.core.standby none).0

    alone : i.core.settles.rest ≡ []
    alone = i.core.tail ∙ ap (λ (l : List Batch). list_items l) (i.core.standby none).1

    tip_is_end : tip_of n.state ≡ n.state.world.committed
    tip_is_end =
        let f = i.core.settles in
        let items = ap (λ (l : List Item). length l) (f.items_are ∙ (ap (λ (l : List Item). f.shared ++ l) alone ∙ append-nil f.shared)) in
        let e = f.end_is in
        let is = same in
        omega (arith, items, e, is)

    pub own_end_is : IsNode list elected (at_own_end n)
    own_end_is = record {
      core = record {
        committed = i.core.committed;
        settles = Logs.same_end list n.state.world.log n.settled n.state.world.committed (sym same) i.core.settles;
        order = omega arith;
        tail = alone;
        some = tt;
        means = i.core.means;
        standby = λ _. (refl, refl, (i.core.standby none).2);
        low = i.core.low;
        latest = λ is. absurd (never n.state.world.leading none is);
      };
      waits = i.waits;
      idle = i.idle;
    }

    -- what comes, or is refused
    abbrev Taken : State → Type 0
    Taken after = IsNode list elected (at_own_end (record n { state = with_next_number after })) × (after.world.leading ≡ None)

    taken_is : (q : Result State Reason) → Gives Taken q → IsNode list elected (after_arrival n q) × ((after_arrival n q).state.world.leading ≡ None)
    taken_is (Ok after) gives = gives after refl
    taken_is (Err reason) gives =
        let o = own_end_is in
        (record { core = core_at list elected n.state n.state.world.committed [] (next_number n.state.world.count) n.state.basis.time o.core; waits = o.waits; idle = o.idle }, none)

    fed_fine : (b : Batch) (bs : List Batch) → i.core.settles.ahead ≡ b ∷ bs → IsOk (apply_all empty (list_items list)) → Taken (after_batch n.state b)
    fed_fine b bs ahead whole =
        let s = n.state in
        let is = same in
        let tip = tip_is_end in
        let follows = Logs.feed_batch list s.world.log n.settled (tip_of s + length b.items) i.core.settles b bs alone ahead (omega (arith, is, tip)) in (
          record {
            core = record {
              committed = follows;
              settles = follows;
              order = omega arith;
              tail = refl;
              some = tt;
              means = Logs.low_means list s.world.log n.settled i.core.settles b bs alone ahead whole;
              standby = λ _. (refl, refl, (i.core.standby none).2);
              low = i.core.low;
              latest = λ is. absurd (never s.world.leading none is);
            };
            waits = waits_longer s.world.log b.items n.waiting i.waits;
            idle = i.idle;
          },
          none,
        )

    ill_fine : (b : Batch) (o : Option (ℤ × Ill)) → Taken (after_batch n.state b) → Gives Taken (unless_ill o (after_batch n.state b))
    ill_fine b None fine = gives_done Taken (after_batch n.state b) fine
    ill_fine b (Some (place, cause)) fine = λ after is. absurd cc

    pub fed_is : (b : Batch) (bs : List Batch) → i.core.settles.ahead ≡ b ∷ bs → IsOk (apply_all empty (list_items list)) → IsNode list elected (after_arrival n (take_batch n.state b)) × ((after_arrival n (take_batch n.state b)).state.world.leading ≡ None)
    fed_is b bs ahead whole =
        let s = n.state in
        taken_is (take_batch s b)
        (gives_refuse Taken (reasons.gap (pos s.world.committed) b.base) (not (int_eq b.base (pos s.world.committed))) _ (λ _. gives_refuse Taken (reasons.exhausted (end_of b)) (is_far (end_of b)) _ (λ _.
        ill_fine b (first_ill_at (state_of_tip s) (tip_of s) b.items) (fed_fine b bs ahead whole))))

    loaded_fine : (log : Log) (end : ℕ) → Follows list log end → IsOk (apply_all log.image log.items) → Taken (after_load n.state end (seen_at log end))
    loaded_fine log end f means =
        let follows = Logs.load_image list log end (seen_at log end) f means (Logs.seen list log end f means) in (
          record {
            core = record {
              committed = follows;
              settles = follows;
              order = omega arith;
              tail = refl;
              some = tt;
              means = refl;
              standby = λ _. (refl, refl, (i.core.standby none).2);
              low = i.core.low;
              latest = λ is. absurd (never n.state.world.leading none is);
            };
            waits = subst (AllWait (record { offset = end; image = seen_at log end; items = [] })) (sym (i.idle none)) tt;
            idle = i.idle;
          },
          none,
        )

    pub loaded_is : (log : Log) (end : ℕ) → Follows list log end → IsOk (apply_all log.image log.items)
        → let q = take_image n.state (pos end, seen_at log end) in IsNode list elected (after_arrival n q) × ((after_arrival n q).state.world.leading ≡ None)
    loaded_is log end f means =
        let s = n.state in
        taken_is (take_image s (pos end, seen_at log end))
        (gives_refuse Taken (reasons.older_image (pos end) (pos s.world.committed)) (int_lt (pos end) (pos s.world.committed)) _ (λ _. gives_refuse Taken (reasons.exhausted (pos end)) (is_far (pos end)) _ (λ _.
        gives_done Taken (after_load s end (seen_at log end)) (loaded_fine log end f means))))

    -- ---- Lead

    abbrev Led : ℤ → Event → State → Type 0
    Led epoch event after =
        IsNode list epoch (after_by options (at_own_end n) (at event) event (Ok after))
        × AllTold list (tells_by options k (at_own_end n) (at event) event (Ok after)) × (is_some after.world.leading ≡ true)

    module _ (epoch : ℤ) (now : ℤ) (all : i.core.settles.ahead ≡ []) where
      abbrev leads_now : Event
      leads_now = events.Lead epoch (pos n.state.world.committed) now

      abbrev after : State
      after = after_lead (at leads_now) epoch (pos n.state.world.committed)

      -- nothing is open, and so nothing is given up
      none_given : giving_up (taking_over (at leads_now) epoch (pos n.state.world.committed)).world ≡ []
      none_given =
          let there = Logs.has_plain_state n.state.world.log i.core.means (tip n.state.world.log) in
          none_given_up (at leads_now) epoch (pos n.state.world.committed) (closed there.0) there.1 refl

      abbrev begun : Bool → World
      begun b = record (cond b n.state.world (with_batch n.state.world (items.Control ∷ []))) { leading = Some epoch; greatest = epoch }

      begun_core : (b : Bool) → b ≡ true → IsCore list epoch (record { world = begun b; basis = after.basis }) n.state.world.committed []
      begun_core true is = record {
        committed = i.core.committed;
        settles = Logs.same_end list n.state.world.log n.settled n.state.world.committed (sym same) i.core.settles;
        order = omega arith;
        tail = alone;
        some = tt;
        means = i.core.means;
        standby = λ none. absurd cc;
        low = λ e is. let eq : epoch ≡ e = cc in grind (arith, ints);
        latest = λ _. all;
      }
      begun_core false is = absurd cc

      led_core : IsCore list epoch after n.state.world.committed (batches_of options (at leads_now) leads_now)
      led_core =
          let w : World = begun (int_eq (pos n.state.world.committed) (pos n.state.world.committed)) in
          subst (λ (records : List Record). IsCore list epoch (record { world = with_records w records; basis = after.basis }) n.state.world.committed (batch_for (taking_over (at leads_now) epoch (pos n.state.world.committed)) records)) (sym none_given)
          (begun_core (int_eq (pos n.state.world.committed) (pos n.state.world.committed)) (id_itself (pos n.state.world.committed)))

      leads_then : after.world.leading ≡ Some epoch
      leads_then = lead_leading (at leads_now) epoch (pos n.state.world.committed) (let whole = tip_is_end in omega (arith, whole))

      led : Led epoch leads_now after
      led = (
        record {
          core = core_at list epoch after n.state.world.committed (batches_of options (at leads_now) leads_now) (next_number after.world.count) after.basis.time led_core;
          waits = subst (λ ws. AllWait after.world.log (filter (waits_in after.world) (ws ++ []))) (sym (i.idle none)) tt;
          idle = λ idle. absurd (never after.world.leading idle leads_then);
        },
        subst (λ ws. AllTold list (told_due k after.world (ws ++ []))) (sym (i.idle none)) tt,
        ap (λ (o : Option ℤ). is_some o) leads_then,
      )

      pub lead_fine : Gives (Led epoch leads_now) (outcome options (at leads_now) leads_now)
      lead_fine =
          let P = Led epoch leads_now in
          let w = n.state.world in
          gives_refuse P (reasons.already_leading w.leading) (is_some w.leading) _ (λ _. gives_refuse P (reasons.old_epoch epoch w.greatest) (not (int_lt w.greatest epoch)) _ (λ _.
          gives_refuse P (reasons.bad_next (pos w.committed) (pos w.committed)) (not (may_begin_at w (pos w.committed))) _ (λ _. gives_refuse P (reasons.exhausted (pos w.committed)) (is_far (pos w.committed)) _ (λ _.
          gives_done P after led))))

-- ---- the moves

module _ (r : Run) (g : IsRun r) where
  node_is : (k : ℕ) (n : RunNode) → slice_get r.nodes k ≡ Some n → IsNode r.list r.elected n
  node_is k n is = at_node (IsNode r.list r.elected) r.nodes k n g.nodes is

  -- a node is in another state, more is told, and all else is as before
  kept_with : (k : ℕ) (n m : RunNode) (more : List NodeTold) → slice_get r.nodes k ≡ Some n → IsNode r.list r.elected m → (Leads r.elected m → Leads r.elected n) → AllTold r.list more
      → IsRun (record r { nodes = set r.nodes k m; told = r.told ++ more })
  kept_with k n m more is own same told = record {
    nodes = all_put (IsNode r.list r.elected) (IsNode r.list r.elected) r.nodes k m g.nodes (λ x h. h) own;
    one = one_put r.elected r.nodes k n m is same g.one;
    some = g.some;
    told = told_both r.list r.told more g.told told;
    whole = g.whole;
  }

  kept_changed : (k : ℕ) (n m : RunNode) → slice_get r.nodes k ≡ Some n → IsNode r.list r.elected m → (Leads r.elected m → Leads r.elected n) → IsRun (put_node r k m)
  kept_changed k n m is own same = record {
    nodes = all_put (IsNode r.list r.elected) (IsNode r.list r.elected) r.nodes k m g.nodes (λ x h. h) own;
    one = one_put r.elected r.nodes k n m is same g.one;
    some = g.some;
    told = g.told;
    whole = g.whole;
  }

  -- ---- Feed

  feed_by : (k : ℕ) (n : RunNode) (is : slice_get r.nodes k ≡ Some n) (none : n.state.world.leading ≡ None) (bs : List Batch) → (node_is k n is).core.settles.ahead ≡ bs
      → (n.state.world.committed == length_of r) ≡ false → (options : Options) → Keeps (feed_next r k n (batch_from n.state.world.committed r.list))
  feed_by k n is none [] ahead new options =
      let i = node_is k n is in
      let same : n.settled ≡ n.state.world.committed = (i.core.standby none).0 in
      let end : n.settled ≡ length_of r = Logs.no_more r.list n.state.world.log n.settled i.core.settles ahead in
      absurd (grind (arith, nat_tests))
  feed_by k n is none (b ∷ bs) ahead new options =
      let i = node_is k n is in
      let same : n.settled ≡ n.state.world.committed = (i.core.standby none).0 in
      let next : batch_from n.state.world.committed r.list ≡ Some b =
      ap (λ at. batch_from at r.list) (sym same) ∙ Logs.next_batch_is r.list n.state.world.log n.settled i.core.settles b bs g.some ahead in
      let after = fed_is options r.list r.elected k n i none b bs ahead g.whole in
      subst (λ o. Keeps (feed_next r k n o)) (sym next)
      (kept_changed k n (after_arrival n (take_batch n.state b)) is after.0 (λ l. absurd (never _ after.1 l)))

  pub feeds : (options : Options) (k : ℕ) (n : RunNode) → slice_get r.nodes k ≡ Some n → Keeps (table.feed r k n)
  feeds options k n is = standby k n.state.world.leading _ (λ none.
      when (n.state.world.committed == length_of r) _ _ (λ _. tt) (λ new. feed_by k n is none (node_is k n is).core.settles.ahead refl new options))

  -- ---- Elect

  others_low : (epoch : ℤ) → int_lt r.elected epoch ≡ true → (x : RunNode) → IsNode r.list r.elected x → IsNode r.list epoch x
  others_low epoch up x i =
      let c = i.core in record {
        core = record {
          committed = c.committed;
          settles = c.settles;
          order = c.order;
          tail = c.tail;
          some = c.some;
          means = c.means;
          standby = c.standby;
          low = λ e is. let h = c.low e is in grind (arith, ints);
          latest = λ is. absurd (let h = c.low epoch is in grind (arith, ints));
        };
        waits = i.waits;
        idle = i.idle;
      }

  none_lead : (epoch : ℤ) → int_lt r.elected epoch ≡ true → (ns : List RunNode) → AllByRecursion (IsNode r.list r.elected) ns → AllByRecursion (λ x. Leads epoch x → ⊥) ns
  none_lead epoch up [] h = tt
  none_lead epoch up (n ∷ ns) h = ((λ is. let l = h.0.core.low epoch is in grind (arith, ints)), none_lead epoch up ns h.1)

  one_new : (epoch : ℤ) → int_lt r.elected epoch ≡ true → (ns : List RunNode) (k : ℕ) (m : RunNode) → AllByRecursion (IsNode r.list r.elected) ns → OneLeads epoch (set ns k m)
  one_new epoch up [] k m h = tt
  one_new epoch up (n ∷ ns) zero m h = ((λ _. none_lead epoch up ns h.1), old_ones ns h.1)
    where
      old_ones : (xs : List RunNode) → AllByRecursion (IsNode r.list r.elected) xs → OneLeads epoch xs
      old_ones [] h = tt
      old_ones (x ∷ xs) h = ((λ _. none_lead epoch up xs h.1), old_ones xs h.1)
  one_new epoch up (n ∷ ns) (suc k) m h = ((λ is. absurd (let l = h.0.core.low epoch is in grind (arith, ints))), one_new epoch up ns k m h.1)

  module _ (options : Options) (k : ℕ) (n : RunNode) (is : slice_get r.nodes k ≡ Some n) (none : n.state.world.leading ≡ None) (epoch now : ℤ) (high : int_lt r.elected epoch ≡ true)
      (whole : n.state.world.committed ≡ length_of r) where
    abbrev event : Event
    event = events.Lead epoch (pos n.state.world.committed) now

    own : IsNode r.list r.elected n
    own = node_is k n is

    all : own.core.settles.ahead ≡ []
    all =
        let same : n.settled ≡ n.state.world.committed = (own.core.standby none).0 in
        Logs.all_had r.list n.state.world.log n.settled own.core.settles g.some (same ∙ whole)

    abbrev m : RunNode
    m = at_own_end n

    abbrev By : Result State Reason → Bool → Run
    By q leads = record r {
      nodes = set r.nodes k (after_by options m (at_time_of n.state event) event q);
      told = r.told ++ tells_by options k m (at_time_of n.state event) event q;
      elected = cond leads epoch r.elected;
    }

    leads_new : (after : State) (b : Bool) → b ≡ true → Led options r.list r.elected k n own none epoch event after → IsRun (By (Ok after) b)
    leads_new after false is l = absurd cc
    leads_new after true is l = record {
      nodes = all_put (IsNode r.list r.elected) (IsNode r.list epoch) r.nodes k (after_by options m (at_time_of n.state event) event (Ok after)) g.nodes (others_low epoch high) l.0;
      one = one_new epoch high r.nodes k (after_by options m (at_time_of n.state event) event (Ok after)) g.nodes;
      some = g.some;
      told = told_both r.list r.told (tells_by options k m (at_time_of n.state event) event (Ok after)) g.told l.1;
      whole = g.whole;
    }

    none_new : (reason : Reason) (b : Bool) → b ≡ false → IsRun (By (Err reason) b)
    none_new reason true idle = absurd cc
    none_new reason false idle =
        let o = own_end_is options r.list r.elected k n own none in
        kept_with k n (after_by options m (at_time_of n.state event) event (Err reason)) [] is
        (record {
          core = core_at r.list r.elected n.state n.state.world.committed [] (next_number n.state.world.count) (time_after n.state.basis.time event) o.core;
          waits = o.waits;
          idle = o.idle;
        })
        (λ l. l) tt

    elect_by : (q : Result State Reason) → Gives (Led options r.list r.elected k n own none epoch event) q → IsRun (By q (is_some (after_by options m (at_time_of n.state event) event q).state.world.leading))
    elect_by (Ok after) gives = let l = gives after refl in leads_new after (is_some after.world.leading) l.2 l
    elect_by (Err reason) gives = none_new reason (is_some n.state.world.leading) (ap (λ (o : Option ℤ). is_some o) none)

    pub elected_is : IsRun (table.after_election options r k m epoch event)
    elected_is = elect_by (outcome options (at_time_of n.state event) event) (lead_fine options r.list r.elected k n own none epoch now all)

  pub elects : (options : Options) (k : ℕ) (epoch now : ℤ) (n : RunNode) → slice_get r.nodes k ≡ Some n → Keeps (table.elect options r k n epoch now)
  elects options k epoch now n is = standby k n.state.world.leading _ (λ none.
      when (not (int_lt r.elected epoch)) _ _ (λ _. tt) (λ up.
      when (not (n.state.world.committed == length_of r)) _ _ (λ _. tt) (λ whole.
      elected_is options k n is none epoch now (grind (arith, ints)) (let e : n.state.world.committed ≡ length_of r = grind (arith, nat_tests) in e))))

  -- ---- Settle

  settled_is : (n : RunNode) (b : Batch) (bs : List Batch) (i : IsNode r.list r.elected n) → n.unsettled ≡ b ∷ bs → n.state.world.leading ≡ Some r.elected
      → IsNode (r.list ++ b ∷ []) r.elected (record n { settled = n.settled + length b.items; unsettled = bs })
  settled_is n b bs i has leads =
      let c = i.core in
      let up = c.order in
      let some : AllByRecursion HasItems (b ∷ bs) = subst (AllByRecursion HasItems) has c.some in
      record {
        core = record {
          committed = Logs.longer_list r.list (b ∷ []) n.state.world.log n.state.world.committed c.committed;
          settles = Logs.settle_batch r.list n.state.world.log n.settled (n.settled + length b.items) c.settles b (list_items bs) (c.latest leads) (c.tail ∙ ap (λ (l : List Batch). list_items l) has) refl;
          order = omega (arith, up);
          tail = refl;
          some = some.1;
          means = c.means;
          standby = λ is. absurd (never n.state.world.leading is leads);
          low = c.low;
          latest = λ _. refl;
        };
        waits = i.waits;
        idle = i.idle;
      }

  -- one that doesn't lead in the latest epoch doesn't see that the list grows
  other_settled : (b : Batch) (x : RunNode) → IsNode r.list r.elected x → (Leads r.elected x → ⊥) → IsNode (r.list ++ b ∷ []) r.elected x
  other_settled b x i not_latest =
      let c = i.core in record {
        core = record {
          committed = Logs.longer_list r.list (b ∷ []) x.state.world.log x.state.world.committed c.committed;
          settles = Logs.longer_list r.list (b ∷ []) x.state.world.log x.settled c.settles;
          order = c.order;
          tail = c.tail;
          some = c.some;
          means = c.means;
          standby = c.standby;
          low = c.low;
          latest = λ is. absurd (not_latest is);
        };
        waits = i.waits;
        idle = i.idle;
      }

  all_settled : (b : Batch) (m : RunNode) → IsNode (r.list ++ b ∷ []) r.elected m → (ns : List RunNode) (k : ℕ) (n : RunNode) → slice_get ns k ≡ Some n → Leads r.elected n
      → AllByRecursion (IsNode r.list r.elected) ns → OneLeads r.elected ns → AllByRecursion (IsNode (r.list ++ b ∷ []) r.elected) (set ns k m)
  all_settled b m own [] k n is leads h one = tt
  all_settled b m own (x ∷ xs) zero n is leads h one = (own, others xs h.1 (one.0 (subst (Leads r.elected) (sym (some_is x n is)) leads)))
    where
      others : (ys : List RunNode) → AllByRecursion (IsNode r.list r.elected) ys → AllByRecursion (λ y. Leads r.elected y → ⊥) ys → AllByRecursion (IsNode (r.list ++ b ∷ []) r.elected) ys
      others [] h o = tt
      others (y ∷ ys) h o = (other_settled b y h.0 o.0, others ys h.1 o.1)
  all_settled b m own (x ∷ xs) (suc k) n is leads h one = (
    other_settled b x h.0 (λ latest. at_node (λ y. Leads r.elected y → ⊥) xs k n (one.0 latest) is leads),
    all_settled b m own xs k n is leads h.1 one.1,
  )

  -- the leader's log is the list's, with what isn't settled behind it
  settle_means : (n : RunNode) (b : Batch) (bs : List Batch) (i : IsNode r.list r.elected n) → n.unsettled ≡ b ∷ bs → n.state.world.leading ≡ Some r.elected → IsOk (apply_all empty (list_items (r.list ++ b ∷ [])))
  settle_means n b bs i has leads =
      let c = i.core in
      let log = n.state.world.log in
      let to = n.settled + length b.items in
      let f = Logs.settle_batch r.list log n.settled to c.settles b (list_items bs) (c.latest leads) (c.tail ∙ ap (λ (l : List Batch). list_items l) has) refl in
      subst (λ (l : List Item). IsOk (apply_all empty l))
      (sym (Logs.front_is (r.list ++ b ∷ []) log to f ∙ append-nil (c.settles.before ++ (c.settles.shared ++ b.items))))
      (subst (λ (q : Result Image Ill). IsOk q) (sym (Logs.from_start (r.list ++ b ∷ []) log to f (c.settles.shared ++ b.items)))
      (Logs.shared_means (r.list ++ b ∷ []) log to f c.means))

  settle_by : (k : ℕ) (n : RunNode) → slice_get r.nodes k ≡ Some n → n.state.world.leading ≡ Some r.elected → (bs : List Batch) → n.unsettled ≡ bs → Keeps (settle_first r k n bs)
  settle_by k n is leads [] has = tt
  settle_by k n is leads (b ∷ bs) has =
      let i = node_is k n is in
      let some : AllByRecursion HasItems (b ∷ bs) = subst (AllByRecursion HasItems) has i.core.some in
      let m = record n { settled = n.settled + length b.items; unsettled = bs } in
      record {
        nodes = all_settled b m (settled_is n b bs i has leads) r.nodes k n is leads g.nodes g.one;
        one = one_put r.elected r.nodes k n m is (λ h. h) g.one;
        some = some_both r.list (b ∷ []) g.some (some.0, tt);
        told = told_longer r.list b r.told g.told;
        whole = settle_means n b bs i has leads;
      }

  pub settles : (k : ℕ) (n : RunNode) → slice_get r.nodes k ≡ Some n → Keeps (table.settle r k n)
  settles k n is = leads k n.state.world.leading _ (λ epoch led.
      when (not (int_eq epoch r.elected)) _ _ (λ _. tt) (λ latest.
      let same : epoch ≡ r.elected = grind (arith, ints) in
      settle_by k n is (led ∙ ap (λ e. Some e) same) n.unsettled refl))

  -- ---- one event

  kept_steps : (options : Options) (k : ℕ) (n : RunNode) (event : Event) → slice_get r.nodes k ≡ Some n → Gives (Fine options r.list r.elected k n event) (outcome options (at_time_of n.state event) event)
      → IsRun (with_event options r k n event)
  kept_steps options k n event is gives =
      let after = after_is options r.list r.elected k n event (node_is k n is) gives in
      kept_with k n (after_event options n event) (told_of options k n event) is after.0 (λ l. sym after.2 ∙ l) after.1

  pub asks : (options : Options) (k client : ℕ) (now : ℤ) (call : Call) (n : RunNode) → slice_get r.nodes k ≡ Some n → IsRun (with_event options r k n (events.Request client now (ask.Call call)))
  asks options k client now call n is = kept_steps options k n (events.Request client now (ask.Call call)) is (request_fine options r.list r.elected k n (node_is k n is) client now call)

  pub ticks : (options : Options) (k : ℕ) (now : ℤ) (n : RunNode) → slice_get r.nodes k ≡ Some n → IsRun (with_event options r k n (events.Tick now))
  ticks options k now n is = kept_steps options k n (events.Tick now) is (tick_fine options r.list r.elected k n (node_is k n is) now)

  pub tells : (options : Options) (k : ℕ) (n : RunNode) → slice_get r.nodes k ≡ Some n → Keeps (table.tell options r k n)
  tells options k n is = leads k n.state.world.leading _ (λ epoch led.
      when (not (nat_lt n.state.world.committed n.settled)) _ _ (λ _. tt) (λ _.
      kept_steps options k n (events.Commit epoch (pos n.settled)) is (commit_fine options r.list r.elected k n (node_is k n is) epoch led)))

  pub deposes : (options : Options) (k : ℕ) (n : RunNode) → slice_get r.nodes k ≡ Some n → Keeps (table.depose options r k n)
  deposes options k n is = leads k n.state.world.leading _ (λ epoch led.
      let after = lost_is options r.list r.elected k n (node_is k n is) epoch led in
      kept_with k n (at_own_end (after_event options n (events.Lost epoch))) (told_of options k n (events.Lost epoch)) is after.0 (λ l. absurd (never _ after.2 l)) after.1)

-- ---- Copy

-- a node that has given its image leads, or doesn't, as before
pub set_leading : (ns : List RunNode) (from to : ℕ) (f after n t : RunNode) → slice_get ns from ≡ Some f → slice_get ns to ≡ Some t → slice_get (set ns from after) to ≡ Some n
    → after.state.world.leading ≡ f.state.world.leading → n.state.world.leading ≡ t.state.world.leading
set_leading [] from to f after n t is_f is_t is_n same = absurd cc
set_leading (x ∷ xs) zero zero f after n t is_f is_t is_n same =
    ap (λ (m : RunNode). m.state.world.leading) (sym (some_is after n is_n)) ∙ (same ∙ ap (λ (m : RunNode). m.state.world.leading) (sym (some_is x f is_f) ∙ some_is x t is_t))
set_leading (x ∷ xs) zero (suc to) f after n t is_f is_t is_n same = ap (λ (m : RunNode). m.state.world.leading) (some_is n t (sym is_n ∙ is_t))
set_leading (x ∷ xs) (suc from) zero f after n t is_f is_t is_n same = ap (λ (m : RunNode). m.state.world.leading) (some_is n t (sym is_n ∙ is_t))
set_leading (x ∷ xs) (suc from) (suc to) f after n t is_f is_t is_n same = set_leading xs from to f after n t is_f is_t is_n same

module _ (options : Options) (r : Run) (g : IsRun r) where
  pub copies : (from to : ℕ) (f t : RunNode) → slice_get r.nodes from ≡ Some f → slice_get r.nodes to ≡ Some t → Keeps (table.copy options r from to f t)
  copies from to f t is_f is_t = standby to t.state.world.leading _ (λ none.
      when (nat_lt (closed_of f.state.world) t.state.world.committed) _ _ (λ _. tt) (λ _.
      let i = node_is r g from f is_f in
      copied (kept_steps r g options from f events.Image is_f (image_fine options r.list r.elected from f i)) i none))
    where
      loaded : IsRun (with_event options r from f events.Image) → IsNode r.list r.elected f → t.state.world.leading ≡ None
          → Keeps (load_on (with_event options r from f events.Image) to (pos f.state.world.committed, seen_at f.state.world.log f.state.world.committed))
      loaded after i none = there (with_event options r from f events.Image) to _ (λ n is.
          let next = with_event options r from f events.Image in
          let idle : n.state.world.leading ≡ None = set_leading r.nodes from to f (after_event options f events.Image) n t is_f is_t is refl ∙ none in
          let load = loaded_is options r.list r.elected to n (node_is next after to n is) idle f.state.world.log f.state.world.committed i.core.committed i.core.means in
          kept_changed next after to n (after_arrival n (take_image n.state (pos f.state.world.committed, seen_at f.state.world.log f.state.world.committed))) is load.0 (λ l. absurd (never _ load.1 l)))

      copied : IsRun (with_event options r from f events.Image) → IsNode r.list r.elected f → t.state.world.leading ≡ None
          → Keeps (load_on (with_event options r from f events.Image) to (pos (closed_of f.state.world), image_of_closed f.state))
      copied after i none =
          subst (λ (end : ℕ). Keeps (load_on (with_event options r from f events.Image) to (pos end, seen_at f.state.world.log end))) (sym (Logs.all_closed f.state.world.log i.core.means f.state.world.committed))
          (loaded after i none)
