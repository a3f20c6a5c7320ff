-- The parts of the session, as their definitions have them.
use Rattle.std.proofs.Common.{◌≡◌, ℕ, ◌+◌, Bool, true, false, refl, ap, rules, tests}
use Rattle.std.specs.Prelude.{pos, ◌==◌, Option, Some, None}
use Rattle.std.specs.Option.{option_map_or}
use Rattle.kr_calls.specs.declared.calls.Request.{Request}
use Rattle.kr_workload.specs.declared.chances.Chances.{Chances}
use Rattle.kr_model.specs.World.{image_of_tip, tip_of}
use Rattle.kr_workload.specs.Requests.{creation, election, heartbeat, note, reassignment, first_registration, report}
use Rattle.kr_workload.specs.Session.{Made, act, after_draw, ask, ask_and_commit, send_heartbeat, chances, commit_all, create, fail_over, first_heartbeat, lead_next, lose, made_session, nothing_made, open_session, play_round, register, send_report, state_behind, steps}

module _ (seed : ℕ) (made : Made) where
  pub ask_and_commit_is : (request : Request) → commit_all seed (ask made request) ≡ ask_and_commit seed made request
  unfolding ask_and_commit
  ask_and_commit_is request = refl

  pub register_is : (n : ℕ) → ask_and_commit seed made (first_registration (n + 1)) ≡ register seed n made
  unfolding register
  register_is n = refl

  pub beat_is : (broker : ℕ) (want_fence : Bool) → ask_and_commit seed made (heartbeat (image_of_tip (state_behind seed made)) (pos (tip_of (state_behind seed made))) broker want_fence) ≡ send_heartbeat seed broker want_fence made
  unfolding send_heartbeat
  beat_is broker want_fence = refl

  pub create_is : (topic : ℕ) → ask_and_commit seed made (creation topic) ≡ create seed topic made
  unfolding create
  create_is topic = refl

  pub open_is : steps 300 (create seed) (steps 6 (first_heartbeat seed) (steps 6 (register seed) (lead_next seed made))) ≡ open_session seed made
  unfolding open_session
  open_is = refl

  pub sent : (topic partition : ℕ) (request : Request) → Some request ≡ report (image_of_tip (state_behind seed made)) topic (pos partition) → ask_and_commit seed made request ≡ send_report seed topic partition made
  unfolding send_report
  sent topic partition request is = ap (λ (r : Option Request). option_map_or (ask_and_commit seed made) r made) is

  pub not_sent : (topic partition : ℕ) → None ≡ report (image_of_tip (state_behind seed made)) topic (pos partition) → made ≡ send_report seed topic partition made
  unfolding send_report
  not_sent topic partition is = ap (λ (r : Option Request). option_map_or (ask_and_commit seed made) r made) is

  pub fail_over_is : (round : ℕ) → commit_all seed (lead_next seed (lose (ask made (note round)))) ≡ fail_over seed round made
  unfolding fail_over
  fail_over_is round = refl

  pub play_round_is : (round : ℕ) → act seed round (chances made.drawn) (after_draw made) ≡ play_round seed round made
  unfolding play_round
  play_round_is round = refl

pub made_session_is : (seed rounds : ℕ) → steps rounds (play_round seed) (open_session seed (nothing_made seed)) ≡ made_session seed rounds
unfolding made_session
made_session_is seed rounds = refl

-- ---- what was drawn is done

differ : (a b : ℕ) → (a ≡ b → ⊥) → (a == b) ≡ false
differ a b apart = search (rules, tests)

module _ (seed round : ℕ) (c : Chances) (made : Made) where
  pub act_fence : c.kind ≡ 0 → send_heartbeat seed c.broker true made ≡ act seed round c made
  unfolding act
  act_fence is = rw is refl

  pub act_beat : c.kind ≡ 1 → send_heartbeat seed c.broker false made ≡ act seed round c made
  unfolding act
  act_beat is = rw is refl

  pub act_reassign : c.kind ≡ 2 → ask_and_commit seed made (reassignment c.topic (pos c.partition) c.broker) ≡ act seed round c made
  unfolding act
  act_reassign is = rw is refl

  pub act_report : c.kind ≡ 3 → send_report seed c.topic c.partition made ≡ act seed round c made
  unfolding act
  act_report is = rw is refl

  pub act_elect : c.kind ≡ 4 → ask_and_commit seed made (election c.topic (pos c.partition)) ≡ act seed round c made
  unfolding act
  act_elect is = rw is refl

  pub act_fail_over : (c.kind ≡ 0 → ⊥) → (c.kind ≡ 1 → ⊥) → (c.kind ≡ 2 → ⊥) → (c.kind ≡ 3 → ⊥) → (c.kind ≡ 4 → ⊥) → fail_over seed round made ≡ act seed round c made
  unfolding act
  act_fail_over n0 n1 n2 n3 n4 = rw (differ c.kind 0 n0, differ c.kind 1 n1, differ c.kind 2 n2, differ c.kind 3 n3, differ c.kind 4 n4) refl
