-- What enters the room of a link's events, and leaves it. This project's own.
use Rattle.std.specs.Prelude.{ℕ, ◌+◌, ◌==◌, ◌||◌, Bool, true, false, cond, nat_le, List, [], ◌∷◌, length, Option, Some, None}
use Rattle.kr_base.specs.Causes.{raised}
use Rattle.kr_flow.specs.declared.room.Waiting.{Waiting}
use Rattle.kr_flow.specs.declared.room.Origin.{Origin}
use Rattle.kr_flow.specs.declared.room.Origin.TheVariants.{Quorum, Clock}
use Rattle.kr_flow.specs.Flows.{Flow, bytes_of, most_waiting}

-- nothing waits, or all that waits stays within the most with so many bytes more
abbrev pub has_room_for : List Waiting → ℕ → Bool
has_room_for waiting bytes = (length waiting == 0) || nat_le (bytes_of waiting + bytes) most_waiting

abbrev pub is_from_quorum : Origin → Bool
is_from_quorum Quorum = true
is_from_quorum Clock = false

abbrev pub is_of_quorum : Waiting → Bool
is_of_quorum event = is_from_quorum event.origin

-- the one that waited longest
abbrev pub first_in : List Waiting → Option Waiting
first_in [] = None
first_in (event ∷ others) = Some event

abbrev pub first_waiting : Flow → Option Waiting
first_waiting flow = first_in flow.waiting

-- an event was taken, behind which these wait
abbrev pub room_behind : Flow → Waiting → List Waiting → Flow
room_behind flow event others = record {
  waiting = others;
  taken = raised flow.taken;
  of_quorum = cond (is_of_quorum event) (raised flow.of_quorum) flow.of_quorum;
}

abbrev pub rest_in : Flow → List Waiting → Flow
rest_in flow [] = flow
rest_in flow (event ∷ others) = room_behind flow event others

-- without the one that waited longest, which was taken
abbrev pub rest_of : Flow → Flow
rest_of flow = rest_in flow flow.waiting

-- the worker took so many: where it is one more than before, the one that waited longest
abbrev pub room_noted : Flow → ℕ → Flow
room_noted flow events = cond (nat_le events flow.taken) flow (rest_of flow)

abbrev pub noted_first : Flow → ℕ → Option Waiting
noted_first flow events = cond (nat_le events flow.taken) None (first_waiting flow)
