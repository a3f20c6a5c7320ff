-- How many events a session has.
use Rattle.std.proofs.Common.{◌≤◌, ℕ, ◌+◌, ◌*◌, zero, suc, Bool, true, false, cond, List, [], ◌∷◌, ◌++◌, length, length-append, arith}
use Rattle.std.specs.Option.{option_map_or}
use Rattle.std.specs.Prelude.{◌==◌, pos, Option, Some, None}
use Rattle.kr_calls.specs.declared.calls.Request.{Request}
use Rattle.kr_calls.specs.declared.events.Event.{Event}
use Rattle.kr_model.specs.World.{image_of_tip}
use Rattle.kr_workload.specs.declared.chances.Chances.{Chances}
use Rattle.kr_workload.specs.Requests.{election, note, reassignment, report}
use Rattle.kr_workload.specs.Session.{Made, act, after_draw, ask, ask_and_commit, send_heartbeat, chances, commit_all, create, fail_over, first_heartbeat, lead_next, lose, made_session, nothing_made, open_session, play_round, register, send_report, state_behind, steps}

-- at most so many events more
record Adds (k : ℕ) (before after : Made) : Type 0 where
  few : length after.events ≤ length before.events + k

one_more : (events : List Event) (event : Event) → length (events ++ event ∷ []) ≤ length events + 1
one_more events event = let long = length-append events (event ∷ []) in omega (arith, long)

both : (k l : ℕ) (a b c : Made) → Adds k a b → Adds l b c → Adds (k + l) a c
both k l a b c first second = record { few = omega (arith, first.few, second.few) }

less : (k l : ℕ) (a b : Made) → k ≤ l → Adds k a b → Adds l a b
less k l a b fewer adds = record { few = omega (arith, fewer, adds.few) }

module _ (seed : ℕ) where
  ask_adds : (made : Made) (request : Request) → Adds 1 made (ask made request)
  unfolding ask
  ask_adds made request = record { few = one_more made.events _ }

  commit_adds : (made : Made) → Adds 1 made (commit_all seed made)
  unfolding commit_all
  commit_adds made = record { few = one_more made.events _ }

  lose_adds : (made : Made) → Adds 1 made (lose made)
  unfolding lose
  lose_adds made = record { few = one_more made.events _ }

  lead_adds : (made : Made) → Adds 1 made (lead_next seed made)
  unfolding lead_next
  lead_adds made = record { few = one_more made.events _ }

  asked_adds : (made : Made) (request : Request) → Adds 2 made (ask_and_commit seed made request)
  unfolding ask_and_commit
  asked_adds made request = both 1 1 made (ask made request) (commit_all seed (ask made request)) (ask_adds made request) (commit_adds (ask made request))

  register_adds : (n : ℕ) (made : Made) → Adds 2 made (register seed n made)
  unfolding register
  register_adds n made = asked_adds made _

  beat_adds : (broker : ℕ) (want_fence : Bool) (made : Made) → Adds 2 made (send_heartbeat seed broker want_fence made)
  unfolding send_heartbeat
  beat_adds broker want_fence made = asked_adds made _

  create_adds : (n : ℕ) (made : Made) → Adds 2 made (create seed n made)
  unfolding create
  create_adds n made = asked_adds made _

  -- ---- steps

  steps_add : (step : ℕ → Made → Made) (k : ℕ) → ((n : ℕ) (made : Made) → Adds k made (step n made)) → (n : ℕ) (made : Made) → Adds (n * k) made (steps n step made)
  unfolding steps
  steps_add step k each zero made = record { few = omega arith }
  steps_add step k each (suc n) made =
      let so_far = steps_add step k each n made in
      let last = each n (steps n step made) in
      record { few = omega (arith, so_far.few, last.few) }

  open_adds : (made : Made) → Adds 625 made (open_session seed made)
  unfolding open_session
  open_adds made =
      let first = lead_adds made in
      let second = steps_add (register seed) 2 register_adds 6 (lead_next seed made) in
      let third = steps_add (first_heartbeat seed) 2 (λ n. beat_adds (n + 1) false) 6 (steps 6 (register seed) (lead_next seed made)) in
      let fourth = steps_add (create seed) 2 create_adds 300 (steps 6 (first_heartbeat seed) (steps 6 (register seed) (lead_next seed made))) in
      record { few = omega (arith, first.few, second.few, third.few, fourth.few) }

  -- ---- rounds

  sent_adds : (made : Made) (request : Option Request) → Adds 2 made (option_map_or (ask_and_commit seed made) request made)
  sent_adds made (Some request) = asked_adds made request
  sent_adds made None = record { few = omega arith }

  report_adds : (topic partition : ℕ) (made : Made) → Adds 2 made (send_report seed topic partition made)
  unfolding send_report
  report_adds topic partition made = sent_adds made (report (image_of_tip (state_behind seed made)) topic (pos partition))

  fail_over_adds : (round : ℕ) (made : Made) → Adds 4 made (fail_over seed round made)
  unfolding fail_over
  fail_over_adds round made =
      let asked : Made = ask made (note round) in
      let first = ask_adds made (note round) in
      let second = lose_adds asked in
      let third = lead_adds (lose asked) in
      let fourth = commit_adds (lead_next seed (lose asked)) in
      record { few = omega (arith, first.few, second.few, third.few, fourth.few) }

  adds_if : (k : ℕ) (b : Bool) (made x y : Made) → Adds k made x → Adds k made y → Adds k made (cond b x y)
  adds_if k true made x y first second = first
  adds_if k false made x y first second = second

  act_adds : (round : ℕ) (c : Chances) (made : Made) → Adds 4 made (act seed round c made)
  unfolding act
  act_adds round c made =
      let two : (next : Made) → Adds 2 made next → Adds 4 made next = λ next. less 2 4 made next (omega arith) in
      adds_if 4 (c.kind == 0) made (send_heartbeat seed c.broker true made) _ (two _ (beat_adds c.broker true made))
      (adds_if 4 (c.kind == 1) made (send_heartbeat seed c.broker false made) _ (two _ (beat_adds c.broker false made))
      (adds_if 4 (c.kind == 2) made (ask_and_commit seed made (reassignment c.topic (pos c.partition) c.broker)) _ (two _ (asked_adds made (reassignment c.topic (pos c.partition) c.broker)))
      (adds_if 4 (c.kind == 3) made (send_report seed c.topic c.partition made) _ (two _ (report_adds c.topic c.partition made))
      (adds_if 4 (c.kind == 4) made (ask_and_commit seed made (election c.topic (pos c.partition))) (fail_over seed round made) (two _ (asked_adds made (election c.topic (pos c.partition)))) (fail_over_adds round made)))))

  round_adds : (round : ℕ) (made : Made) → Adds 4 made (play_round seed round made)
  unfolding play_round after_draw
  round_adds round made = record { few = (act_adds round (chances made.drawn) (after_draw made)).few }

  pub session_few : (rounds : ℕ) → length (made_session seed rounds).events ≤ 625 + rounds * 4
  unfolding made_session
  session_few rounds =
      let first = open_adds (nothing_made seed) in
      let second = steps_add (play_round seed) 4 round_adds rounds (open_session seed (nothing_made seed)) in
      omega (arith, first.few, second.few)
