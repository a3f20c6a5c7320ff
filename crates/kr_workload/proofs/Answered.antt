-- Each request of a session is answered once, and behind its last commit no write waits.
use Rattle.std.proofs.Common.{◌≡◌, ◌≤◌, ◌<◌, ◌+◌, ◌*◌, ℕ, zero, suc, ℤ, pos, negsuc, Bool, true, false, cond, List, [], ◌∷◌, ◌++◌, length, length-append, refl, sym, ap, subst, ◌∙◌, inl, inr, arith}
use Rattle.std.proofs.lemmas.Bool.Decides.{nat_tests}
use Rattle.std.proofs.lemmas.Grind.{flat_map-append}
use Rattle.std.proofs.lemmas.List.Elements.{recursion_from_All}
use Rattle.std.proofs.lemmas.List.Filters.{length-filter_both}
use Rattle.std.specs.List.{AllByRecursion, list_all, list_any}
use Rattle.std.specs.Option.{option_map_or}
use Rattle.std.specs.Ordering.{int_eq}
use Rattle.std.specs.Prelude.{◌⊎◌, ◌==◌, ◌||◌, filter, int_le, int_lt, is_some, not, unwrap_or, IsSome, Option, Some, None, Result, Ok, Err}
use Rattle.std.specs.Result.{result_unwrap_or}
use Rattle.kr_calls.specs.declared.calls.Ask.TheVariants as asks
use Rattle.kr_calls.specs.declared.calls.Call.{Call}
use Rattle.kr_calls.specs.declared.calls.Reply.{Reply}
use Rattle.kr_calls.specs.declared.calls.Request.{Request}
use Rattle.kr_calls.specs.declared.events.Event.{Event}
use Rattle.kr_calls.specs.declared.events.Event.TheVariants as events
use Rattle.kr_calls.specs.declared.events.Reason.{Reason}
use Rattle.kr_defs.specs.declared.limits.TheConstants.{MOST_RECORDS}
use Rattle.kr_defs.specs.declared.options.Options.{Options}
use Rattle.kr_defs.specs.ImageLaws.{as_items}
use Rattle.kr_defs.specs.Log.{open_at, tip}
use Rattle.kr_defs.proofs.IdLists.{id_itself}
use Rattle.kr_defs.proofs.Tests.{both, not_true, or_right, some_is}
use Rattle.kr_session_loop.proofs.PastEvents.{all_behind}
use Rattle.kr_model.specs.declared.writes.Write.{Write}
use Rattle.kr_model.specs.Commit.{after_commit, is_end}
use Rattle.kr_model.specs.Engine.{IsEngine, IsState, Rise}
use Rattle.kr_model.specs.Events.{at_time_of, happens, state}
use Rattle.kr_model.specs.Lead.{after_lead, may_begin_at}
use Rattle.kr_model.specs.Lost.{after_lost}
use Rattle.kr_model.specs.Outputs.{is_open, is_open_in, outputs, outputs_of, waiting_writes, writes_from}
use Rattle.kr_model.specs.Reasons as reasons
use Rattle.kr_model.specs.Request.{after_ask, after_write, decision, is_decided}
use Rattle.kr_model.specs.World.{State, World, closed_of, image_of_tip, is_far, leads_in, start, tip_of}
use Rattle.kr_model.proofs.DueWrites.{batch_leaves, lead_leading}
use Rattle.kr_model.proofs.KeptImages.{not_higher}
use Rattle.kr_model.proofs.OrderlyStates.{Holds, holds, waiting_then}
use Rattle.kr_model.proofs.Places.{isnt_below}
use Rattle.kr_model.proofs.WaitingWrites.{state_more}
use Rattle.kr_model.proofs.WriteOrders.{all_open}
use Rattle.kr_workload.specs.declared.chances.Chances.{Chances}
use Rattle.kr_workload.specs.declared.host.Host.{Host}
use Rattle.kr_workload.specs.declared.summary.Summary.{Summary}
use Rattle.kr_workload.specs.Replies.{is_ok}
use Rattle.kr_workload.specs.Requests.{election, note, reassignment, report}
use Rattle.kr_workload.specs.Session.{Made, act, after_draw, ask, ask_and_commit, chances, commit_all, create, fail_over, first_heartbeat, lead_next, lose, made_session, nothing_made, open_session, options, play_round, register, request_event, send_heartbeat, send_report, state_behind, steps}
use Rattle.kr_workload.specs.Summary.{replies, replies_of, summary}
use Rattle.kr_workload.specs.inner.Standing.{HasMade, IsMade}
use Rattle.kr_workload.proofs.Counts.{joined}
use Rattle.kr_workload.proofs.FewRecords.{few_places}
use Rattle.kr_workload.proofs.FewReplies.{all_replies, asked}
use Rattle.kr_workload.proofs.Lengths.{session_few}
use Rattle.kr_workload.proofs.Playing.{engine_so}

-- ---- one event more

filter_twice : (p : Write → Bool) (writes : List Write) → filter p (filter p writes) ≡ filter p writes
filter_twice p [] = refl
filter_twice p (write ∷ writes) =
    elim (p write) as (λ b. p write ≡ b → filter p (cond b (write ∷ filter p writes) (filter p writes)) ≡ cond b (write ∷ filter p writes) (filter p writes)) [
      | true ↦ λ is. ap (λ b. cond b (write ∷ filter p (filter p writes)) (filter p (filter p writes))) is ∙ ap (λ (l : List Write). write ∷ l) (filter_twice p writes)
      | false ↦ λ is. filter_twice p writes
    ] refl

-- the replies of events, and the writes that wait behind them
abbrev replied : Options → List Event → ℕ
replied options events = length (replies options events) + length (waiting_writes options events)

module _ (options : Options) (past : List Event) (event : Event) (made : IsMade event) where
  abbrev s : State
  s = state options past

  abbrev waiting : List Write
  waiting = waiting_writes options past

  told_more : is_far (pos (tip_of s)) ≡ false → replied options (past ++ event ∷ []) ≡ replied options past + asked event
  told_more near =
      let given = ap replies_of (all_behind options past event) ∙ flat_map-append _ (joined (outputs options past)) (outputs_of options s waiting event) in
      let long = ap (λ (l : List Reply). length l) given ∙ length-append (replies options past) (replies_of (outputs_of options s waiting event)) in
      let waits = ap (λ (l : List Write). length l) (waiting_then options past event (holds options past)) in
      let all = all_replies options s waiting event made (filter_twice (is_open_in s.world) (writes_from options start past)) near in
      omega (arith, long, waits, all)

  low_more : tip_of (state options (past ++ event ∷ [])) ≤ tip_of s + MOST_RECORDS
  low_more = subst (λ (t : State). tip_of t ≤ tip_of s + MOST_RECORDS) (sym (state_more options past event)) (few_places options s event made)

-- ---- who leads, and how far is committed

-- no leadership, or all is committed
abbrev IsSettled : World → Type 0
IsSettled w = (w.leading ≡ None) ⊎ (w.committed ≡ tip w.log)

-- a leadership is of this epoch
abbrev LeadsOnly : World → ℤ → Type 0
LeadsOnly w epoch = (e : ℤ) → w.leading ≡ Some e → e ≡ epoch

refused_or : (P : State → Type 0) (at : State) (cause : Reason) (test : Bool) (rest : Result State Reason) → (test ≡ true → P at) → (test ≡ false → P (result_unwrap_or rest at)) → P (result_unwrap_or (cond test (Err cause) rest) at)
refused_or P at cause true rest refused done = refused refl
refused_or P at cause false rest refused done = done refl

nobody : (leading : Option ℤ) (epoch : ℤ) → ((e : ℤ) → leading ≡ Some e → e ≡ epoch) → leads_in leading epoch ≡ false → leading ≡ None
nobody None epoch only isnt = refl
nobody (Some led) epoch only isnt =
    let leads : int_eq led epoch ≡ true = ap (λ (z : ℤ). int_eq led z) (sym (only led refl)) ∙ id_itself led in
    absurd (let none = sym leads ∙ isnt in cc)

-- the last of rising places is the end
last_is : (from : ℕ) (ns : List ℕ) (to : ℕ) → Rise from ns to → (int_eq (pos to) (pos from) || list_any (λ n. int_eq (pos to) (pos n)) ns) ≡ true
last_is from [] to is = ap (λ (n : ℕ). int_eq (pos n) (pos from) || false) (sym is) ∙ ap (λ b. b || false) (id_itself (pos from))
last_is from (n ∷ ns) to rise =
    or_right (int_eq (pos to) (pos from)) (int_eq (pos to) (pos n) || list_any (λ n. int_eq (pos to) (pos n)) ns) (last_is n ns to rise.1)

module _ (options : Options) (s : State) where
  begins : (epoch next now : ℤ) → s.world.committed ≤ tip_of s → s.world.leading ≡ None → LeadsOnly (happens options s (events.Lead epoch next now)).world epoch
  begins epoch next now low none =
      let at = at_time_of s (events.Lead epoch next now) in
      let P : State → Type 0 = λ t. LeadsOnly t.world epoch in
      let nobody_leads : P at = λ e is. absurd (let both = sym none ∙ is in cc) in
      refused_or P at (reasons.already_leading at.world.leading) (is_some at.world.leading) _ (λ _. nobody_leads) (λ _.
      refused_or P at (reasons.old_epoch epoch at.world.greatest) (not (int_lt at.world.greatest epoch)) _ (λ _. nobody_leads) (λ _.
      refused_or P at (reasons.bad_next next (pos at.world.committed)) (not (may_begin_at at.world next)) _ (λ _. nobody_leads) (λ _.
      refused_or P at (reasons.exhausted next) (is_far next) (Ok (after_lead at epoch next)) (λ _. nobody_leads) (λ _.
      λ e is. sym (some_is epoch e (sym (lead_leading at epoch next low) ∙ is))))))

  ends : (epoch : ℤ) → LeadsOnly s.world epoch → (happens options s (events.Lost epoch)).world.leading ≡ None
  ends epoch only =
      let at = at_time_of s (events.Lost epoch) in
      let P : State → Type 0 = λ t. t.world.leading ≡ None in
      refused_or P at (reasons.not_leading epoch at.world.leading) (not (leads_in at.world.leading epoch)) (Ok (after_lost at)) (λ isnt. nobody at.world.leading epoch only (not_true _ isnt)) (λ _. refl)

  commits : (epoch end : ℤ) → (happens options s (events.Commit epoch end)).world.leading ≡ s.world.leading
  commits epoch end =
      let at = at_time_of s (events.Commit epoch end) in
      let P : State → Type 0 = λ t. t.world.leading ≡ s.world.leading in
      refused_or P at (reasons.not_leading epoch at.world.leading) (not (leads_in at.world.leading epoch)) _ (λ _. refl) (λ _.
      refused_or P at (reasons.bad_commit end (pos at.world.committed) (pos (tip_of at))) (not (is_end at.world end)) (Ok (after_commit at end)) (λ _. refl) (λ _. refl))

  settles : (epoch : ℤ) → LeadsOnly s.world epoch → Rise s.world.committed s.world.batch_ends (tip_of s) → IsSettled (happens options s (events.Commit epoch (pos (tip_of s)))).world
  settles epoch only rise =
      let end = pos (tip_of s) in
      let at = at_time_of s (events.Commit epoch end) in
      let P : State → Type 0 = λ t. IsSettled t.world in
      refused_or P at (reasons.not_leading epoch at.world.leading) (not (leads_in at.world.leading epoch)) _ (λ isnt. inl (nobody at.world.leading epoch only (not_true _ isnt))) (λ _.
      refused_or P at (reasons.bad_commit end (pos at.world.committed) (pos (tip_of at))) (not (is_end at.world end)) (Ok (after_commit at end))
      (λ isnt. absurd (let is = last_is s.world.committed s.world.batch_ends (tip_of s) rise in let never = not_true (is_end at.world end) isnt in let both = sym is ∙ never in cc))
      (λ _. inr refl))

  written_if : (b : Bool) (at : State) (request : Request) → (cond b (after_write options at request) at).world.leading ≡ at.world.leading
  written_if true at request = (batch_leaves at.world (as_items (decision options at request).records)).leading
  written_if false at request = refl

  asks_on : (client : ℕ) (now : ℤ) (call : Call) → (happens options s (events.Request client now (asks.Call call))).world.leading ≡ s.world.leading
  asks_on client now call =
      let at = at_time_of s (events.Request client now (asks.Call call)) in
      let P : State → Type 0 = λ t. t.world.leading ≡ s.world.leading in
      refused_or P at (reasons.exhausted (pos (tip_of at))) _ (Ok (after_ask options at (asks.Call call))) (λ _. refl) (λ _. written_if (is_decided at.world (asks.Call call)) at call.request)

-- ---- a session so far

pub record IsAnswered (seed : ℕ) (made : Made) : Type 0 where
  pub told : length made.events ≤ 10000000000 → replied (options seed) made.events ≡ made.requests
  pub low : tip_of (state_behind seed made) ≤ length made.events * MOST_RECORDS
  pub led : LeadsOnly (state_behind seed made).world (pos made.epoch)

-- and its last commit came last
pub record Rests (seed : ℕ) (made : Made) : Type 0 where
  pub answered : IsAnswered seed made
  pub settled : IsSettled (state_behind seed made).world

near_still : (n : ℕ) → n ≤ 100000000000000 → is_far (pos n) ≡ false
near_still n low = isnt_below 2305843009213693952 n (omega (arith, low))

module _ (seed : ℕ) where
  module _ (made : Made) (k : IsAnswered seed made) where
    abbrev now : State
    now = state_behind seed made

    abbrev behind : Event → State
    behind event = state (options seed) (made.events ++ event ∷ [])

    same_state : (event : Event) → happens (options seed) now event ≡ behind event
    same_state event = sym (state_more (options seed) made.events event)

    orderly : Rise now.world.committed now.world.batch_ends (tip_of now)
    orderly = (holds (options seed) made.events).orderly.rises.ends

    below : now.world.committed ≤ tip_of now
    below = not_higher now.world.committed now.world.batch_ends (tip_of now) orderly

    told_then : (event : Event) → IsMade event → length (made.events ++ event ∷ []) ≤ 10000000000 → replied (options seed) (made.events ++ event ∷ []) ≡ made.requests + asked event
    told_then event is_made few =
        let long = length-append made.events (event ∷ []) in
        let before = k.told (omega (arith, few, long)) in
        let low = k.low in
        let more = told_more (options seed) made.events event is_made (near_still (tip_of now) (omega (arith, low, few, long))) in
        omega (arith, before, more)

    low_then : (event : Event) → IsMade event → tip_of (behind event) ≤ length (made.events ++ event ∷ []) * MOST_RECORDS
    low_then event is_made =
        let long = length-append made.events (event ∷ []) in
        let low = k.low in
        let more = low_more (options seed) made.events event is_made in
        omega (arith, low, more, long)

    led_still : (event : Event) → (happens (options seed) now event).world.leading ≡ now.world.leading → LeadsOnly (behind event).world (pos made.epoch)
    led_still event same e is = k.led e (sym same ∙ (ap (λ (t : State). t.world.leading) (same_state event) ∙ is))

    asked_on : (request : Request) → IsAnswered seed (ask made request)
    unfolding ask
    asked_on request =
        let call : Call = record { correlation = pos (made.requests + 1); request = request } in
        let event = request_event (made.requests + 1) request in record {
          told = λ few. told_then event tt few;
          low = low_then event tt;
          led = led_still event (asks_on (options seed) now 1 (pos 0) call);
        }

    abbrev committing : Event
    committing = events.Commit (pos made.epoch) (pos (tip_of now))

    committed_on : Rests seed (commit_all seed made)
    unfolding commit_all
    committed_on = record {
      answered = record {
        told = λ few. let all = told_then committing tt few in omega (arith, all);
        low = low_then committing tt;
        led = led_still committing (commits (options seed) now (pos made.epoch) (pos (tip_of now)));
      };
      settled = subst (λ (t : State). IsSettled t.world) (same_state committing) (settles (options seed) now (pos made.epoch) k.led orderly);
    }

    abbrev losing : Event
    losing = events.Lost (pos made.epoch)

    none_left : (behind losing).world.leading ≡ None
    none_left = subst (λ (t : State). t.world.leading ≡ None) (same_state losing) (ends (options seed) now (pos made.epoch) k.led)

    lost_on : IsAnswered seed (lose made)
    unfolding lose
    lost_on = record {
      told = λ few. let all = told_then losing tt few in omega (arith, all);
      low = low_then losing tt;
      led = λ e is. absurd (let both = sym none_left ∙ is in cc);
    }

    nobody_then : (state_behind seed (lose made)).world.leading ≡ None
    unfolding lose
    nobody_then = none_left

    abbrev leading : Event
    leading = events.Lead (pos (made.epoch + 1)) (pos now.world.committed) (pos 0)

    led_on : now.world.leading ≡ None → IsAnswered seed (lead_next seed made)
    unfolding lead_next
    led_on none = record {
      told = λ few. let all = told_then leading tt few in omega (arith, all);
      low = low_then leading tt;
      led = subst (λ (t : State). LeadsOnly t.world (pos (made.epoch + 1))) (same_state leading) (begins (options seed) now (pos (made.epoch + 1)) (pos now.world.committed) (pos 0) below none);
    }

  -- ---- its parts

  both_on : (made : Made) (request : Request) → IsAnswered seed made → Rests seed (ask_and_commit seed made request)
  unfolding ask_and_commit
  both_on made request k = committed_on (ask made request) (asked_on made k request)

  register_on : (n : ℕ) (made : Made) → IsAnswered seed made → Rests seed (register seed n made)
  unfolding register
  register_on n made k = both_on made _ k

  beat_on : (broker : ℕ) (want_fence : Bool) (made : Made) → IsAnswered seed made → Rests seed (send_heartbeat seed broker want_fence made)
  unfolding send_heartbeat
  beat_on broker want_fence made k = both_on made _ k

  create_on : (n : ℕ) (made : Made) → IsAnswered seed made → Rests seed (create seed n made)
  unfolding create
  create_on n made k = both_on made _ k

  steps_on : (step : ℕ → Made → Made) → ((n : ℕ) (made : Made) → IsAnswered seed made → Rests seed (step n made)) → (n : ℕ) (made : Made) → IsAnswered seed made → IsAnswered seed (steps n step made)
  unfolding steps
  steps_on step each zero made k = k
  steps_on step each (suc n) made k = (each n (steps n step made) (steps_on step each n made k)).answered

  steps_rest : (step : ℕ → Made → Made) → ((n : ℕ) (made : Made) → IsAnswered seed made → Rests seed (step n made)) → (n : ℕ) (made : Made) → IsAnswered seed made → Rests seed (steps (suc n) step made)
  unfolding steps
  steps_rest step each n made k = each n (steps n step made) (steps_on step each n made k)

  rounds_rest : (step : ℕ → Made → Made) → ((n : ℕ) (made : Made) → Rests seed made → Rests seed (step n made)) → (n : ℕ) (made : Made) → Rests seed made → Rests seed (steps n step made)
  unfolding steps
  rounds_rest step each zero made k = k
  rounds_rest step each (suc n) made k = each n (steps n step made) (rounds_rest step each n made k)

  none_asked : IsAnswered seed (nothing_made seed)
  none_asked = record { told = λ few. refl; low = omega arith; led = λ e is. absurd cc }

  opened : Rests seed (open_session seed (nothing_made seed))
  unfolding open_session
  opened =
      let led = led_on (nothing_made seed) none_asked refl in
      let registered = steps_on (register seed) register_on 6 (lead_next seed (nothing_made seed)) led in
      let alive = steps_on (first_heartbeat seed) (λ n. beat_on (n + 1) false) 6 (steps 6 (register seed) (lead_next seed (nothing_made seed))) registered in
      steps_rest (create seed) create_on 299 (steps 6 (first_heartbeat seed) (steps 6 (register seed) (lead_next seed (nothing_made seed)))) alive

  sent_on : (made : Made) (request : Option Request) → Rests seed made → Rests seed (option_map_or (ask_and_commit seed made) request made)
  sent_on made (Some request) k = both_on made request k.answered
  sent_on made None k = k

  report_on : (topic partition : ℕ) (made : Made) → Rests seed made → Rests seed (send_report seed topic partition made)
  unfolding send_report
  report_on topic partition made k = sent_on made (report (image_of_tip (state_behind seed made)) topic (pos partition)) k

  fail_over_on : (round : ℕ) (made : Made) → Rests seed made → Rests seed (fail_over seed round made)
  unfolding fail_over
  fail_over_on round made k =
      let asked = asked_on made k.answered (note round) in
      let lost = lost_on (ask made (note round)) asked in
      let led = led_on (lose (ask made (note round))) lost (nobody_then (ask made (note round)) asked) in
      committed_on (lead_next seed (lose (ask made (note round)))) led

  rests_if : (b : Bool) (x y : Made) → Rests seed x → Rests seed y → Rests seed (cond b x y)
  rests_if true x y first second = first
  rests_if false x y first second = second

  act_on : (round : ℕ) (c : Chances) (made : Made) → Rests seed made → Rests seed (act seed round c made)
  unfolding act
  act_on round c made k =
      rests_if (c.kind == 0) (send_heartbeat seed c.broker true made) _ (beat_on c.broker true made k.answered)
      (rests_if (c.kind == 1) (send_heartbeat seed c.broker false made) _ (beat_on c.broker false made k.answered)
      (rests_if (c.kind == 2) (ask_and_commit seed made (reassignment c.topic (pos c.partition) c.broker)) _ (both_on made _ k.answered)
      (rests_if (c.kind == 3) (send_report seed c.topic c.partition made) _ (report_on c.topic c.partition made k)
      (rests_if (c.kind == 4) (ask_and_commit seed made (election c.topic (pos c.partition))) (fail_over seed round made) (both_on made _ k.answered) (fail_over_on round made k)))))

  round_on : (round : ℕ) (made : Made) → Rests seed made → Rests seed (play_round seed round made)
  unfolding play_round after_draw
  round_on round made k =
      act_on round (chances made.drawn) (after_draw made) (record { answered = record { told = k.answered.told; low = k.answered.low; led = k.answered.led }; settled = k.settled })

  session_rests : (rounds : ℕ) → Rests seed (made_session seed rounds)
  unfolding made_session
  session_rests rounds = rounds_rest (play_round seed) round_on rounds (open_session seed (nothing_made seed)) opened

-- ---- nothing waits

none_led : (end : ℤ) (writes : List Write) → filter (is_open None end) writes ≡ []
none_led end [] = refl
none_led end (write ∷ writes) = none_led end writes

apart : (need : ℤ) (n : ℕ) → int_lt (pos n) need ≡ true → int_le need (pos n) ≡ true → ⊥
apart (pos m) n more less = grind (arith, nat_tests)
apart (negsuc m) n more less = absurd cc

none_above : (leading : Option ℤ) (end : ℕ) (writes : List Write) → list_all (is_open leading (pos end)) writes ≡ true → AllByRecursion (λ (write : Write). int_le write.need (pos end) ≡ true) writes → writes ≡ []
none_above leading end [] waits_all low = refl
none_above leading end (write ∷ writes) waits_all low =
    let first = (both (is_open leading (pos end) write) (list_all (is_open leading (pos end)) writes) waits_all).0 in
    absurd (apart write.need end (both (leads_in leading write.epoch) (int_lt (pos end) write.need) first).1 low.0)

module _ (s : State) (writes : List Write) (k : IsState s (filter (is_open_in s.world) writes)) where
  abbrev waits : List Write
  waits = filter (is_open_in s.world) writes

  all_closed : (leading : Option ℤ) → s.world.leading ≡ leading → s.world.committed ≡ tip_of s → waits ≡ []
  all_closed None none all = ap (λ (l : Option ℤ). filter (is_open l (pos (closed_of s.world))) writes) none ∙ none_led (pos (closed_of s.world)) writes
  all_closed (Some epoch) led all =
      let decided = k.decided (subst (λ (l : Option ℤ). IsSome l) (sym led) refl) in
      let closed : closed_of s.world ≡ tip_of s = ap (λ (n : ℕ). unwrap_or (open_at s.world.log n) n) all ∙ ap (λ (o : Option ℕ). unwrap_or o (tip_of s)) decided in
      let waits_all : list_all (is_open s.world.leading (pos (tip_of s))) waits ≡ true =
      ap (λ (n : ℕ). list_all (is_open s.world.leading (pos n)) waits) (sym closed) ∙ all_open (is_open_in s.world) writes in
      none_above s.world.leading (tip_of s) waits waits_all (recursion_from_All (λ write. int_le write.need (pos (tip_of s)) ≡ true) waits k.reached)

  none_waits : IsSettled s.world → waits ≡ []
  none_waits settled = elim settled [
    | inl none ↦ ap (λ (l : Option ℤ). filter (is_open l (pos (closed_of s.world))) writes) none ∙ none_led (pos (closed_of s.world)) writes
    | inr all ↦ all_closed s.world.leading refl all
  ]

-- ---- the summary

pub all_answered : (seed rounds : ℕ) (made : Made) (host : Host) → HasMade seed made host → made ≡ made_session seed rounds → length made.events ≤ 10000000000
    → (found : Summary) → found ≡ summary (options seed) (made_session seed rounds).events → found.ok + found.refused ≡ (made_session seed rounds).requests
unfolding summary
all_answered seed rounds made host stands is few found same =
    let rests = subst (λ (m : Made). Rests seed m) (sym is) (session_rests seed rounds) in
    let s = state_behind seed made in
    let k = (engine_so seed made.events host.engine stands.played).is_state in
    let none : waiting_writes (options seed) made.events ≡ [] = none_waits s (writes_from (options seed) start made.events) k rests.settled in
    let waits = ap (λ (l : List Write). length l) none in
    let all = rests.answered.told few in
    let asked = ap (λ (m : Made). m.requests) is in
    let same_replies = ap (λ (m : Made). length (replies (options seed) m.events)) is in
    let ok = ap (λ (x : Summary). x.ok) same in
    let refused = ap (λ (x : Summary). x.refused) same in
    let parts = length-filter_both is_ok (λ (reply : Reply). not (is_ok reply)) (λ reply. refl) (replies (options seed) (made_session seed rounds).events) in
    omega (arith, waits, all, asked, same_replies, ok, refused, parts)
