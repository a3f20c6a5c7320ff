-- The session of a number (this project's own): what a leading controller is told, each event by the controller's image at the
-- tip. All times are 0, and all requests are of client 1.
use Rattle.std.specs.Prelude.{ℕ, ◌+◌, ◌==◌, zero, suc, pos, List, [], ◌∷◌, ◌++◌, codes, Bool, true, false, if◌then◌else◌}
use Rattle.std.specs.Option.{option_map_or}
use Rattle.kr_calls.specs.declared.calls.Ask.TheVariants as asks
use Rattle.kr_calls.specs.declared.calls.Request.{Request}
use Rattle.kr_calls.specs.declared.events.Event.{Event}
use Rattle.kr_calls.specs.declared.events.Event.TheVariants as events
use Rattle.kr_defs.specs.declared.options.Options.{Options}
use Rattle.kr_model.specs.Events.{state}
use Rattle.kr_model.specs.World.{State, image_of_tip, tip_of}
use Rattle.kr_workload.specs.declared.chances.Chances.{Chances}
pub use Rattle.kr_workload.specs.Chances.{chances}
use Rattle.kr_workload.specs.Requests.{creation, election, heartbeat, note, reassignment, first_registration, report}

abbrev pub options : ℕ → Options
options seed = record {
  node = pos 1;
  salt = seed;
  session_ms = 9000;
  partitions = pos 1;
  factor = pos 3;
  minimum = pos 2;
  cluster = codes "make";
}

-- a session so far
pub record Made : Type 0 where
  pub events : List Event
  -- how many of them are requests
  pub requests : ℕ
  -- the last leadership's epoch
  pub epoch : ℕ
  -- the number that the next one is made of
  pub drawn : ℕ

abbrev pub nothing_made : ℕ → Made
nothing_made seed = record { events = []; requests = 0; epoch = 0; drawn = seed }

-- the abstract controller behind the events
abbrev pub state_behind : ℕ → Made → State
state_behind seed made = state (options seed) made.events

-- ---- events

abbrev pub with_next_event : Made → Event → Made
with_next_event made event = record made { events = made.events ++ event ∷ [] }

-- a request, under its own number
abbrev pub request_event : ℕ → Request → Event
request_event number request = events.Request 1 (pos 0) (asks.Call (record { correlation = pos number; request = request }))

unfoldable pub ask : Made → Request → Made
ask made request = record (with_next_event made (request_event (made.requests + 1) request)) { requests = made.requests + 1 }

-- all is committed
unfoldable pub commit_all : ℕ → Made → Made
commit_all seed made = with_next_event made (events.Commit (pos made.epoch) (pos (tip_of (state_behind seed made))))

unfoldable pub lose : Made → Made
lose made = with_next_event made (events.Lost (pos made.epoch))

-- in the next epoch, at the end
unfoldable pub lead_next : ℕ → Made → Made
lead_next seed made = record (with_next_event made (events.Lead (pos (made.epoch + 1)) (pos (state_behind seed made).world.committed) (pos 0))) { epoch = made.epoch + 1 }

unfoldable pub ask_and_commit : ℕ → Made → Request → Made
ask_and_commit seed made request = commit_all seed (ask made request)

-- ---- the opening

-- what the steps 0 to n - 1 make, in order
unfoldable pub steps : ℕ → (ℕ → Made → Made) → Made → Made
steps zero step made = made
steps (suc n) step made = step n (steps n step made)

unfoldable pub register : ℕ → ℕ → Made → Made
register seed n made = ask_and_commit seed made (first_registration (n + 1))

-- a heartbeat of a broker that has read the whole log
unfoldable pub send_heartbeat : ℕ → ℕ → Bool → Made → Made
send_heartbeat seed broker want_fence made =
    ask_and_commit seed made (heartbeat (image_of_tip (state_behind seed made)) (pos (tip_of (state_behind seed made))) broker want_fence)

unfoldable pub create : ℕ → ℕ → Made → Made
create seed topic made = ask_and_commit seed made (creation topic)

abbrev pub first_heartbeat : ℕ → ℕ → Made → Made
first_heartbeat seed n made = send_heartbeat seed (n + 1) false made

-- the node leads, six brokers register and are alive, and three hundred topics are made
unfoldable pub open_session : ℕ → Made → Made
open_session seed made = steps 300 (create seed) (steps 6 (first_heartbeat seed) (steps 6 (register seed) (lead_next seed made)))

-- ---- rounds

-- a partition's leader reports; nothing is sent where there is none
unfoldable pub send_report : ℕ → ℕ → ℕ → Made → Made
send_report seed topic partition made =
    option_map_or (ask_and_commit seed made) (report (image_of_tip (state_behind seed made)) topic (pos partition)) made

abbrev pub reassign_partition : ℕ → Chances → Made → Made
reassign_partition seed c made = ask_and_commit seed made (reassignment c.topic (pos c.partition) c.broker)

abbrev pub elect_preferred : ℕ → ℕ → ℕ → Made → Made
elect_preferred seed topic partition made = ask_and_commit seed made (election topic (pos partition))

-- a setting is changed, and the leadership is lost before that is committed
unfoldable pub fail_over : ℕ → ℕ → Made → Made
fail_over seed round made = commit_all seed (lead_next seed (lose (ask made (note round))))

unfoldable pub act : ℕ → ℕ → Chances → Made → Made
act seed round c made =
    if c.kind == 0 then send_heartbeat seed c.broker true made else
    if c.kind == 1 then send_heartbeat seed c.broker false made else
    if c.kind == 2 then reassign_partition seed c made else
    if c.kind == 3 then send_report seed c.topic c.partition made else
    if c.kind == 4 then elect_preferred seed c.topic c.partition made else
    fail_over seed round made

unfoldable pub after_draw : Made → Made
after_draw made = record made { drawn = (chances made.drawn).last }

unfoldable pub play_round : ℕ → ℕ → Made → Made
play_round seed round made = act seed round (chances made.drawn) (after_draw made)

-- the opening, and so many rounds
unfoldable pub made_session : ℕ → ℕ → Made
made_session seed rounds = steps rounds (play_round seed) (open_session seed (nothing_made seed))
