-- How long a connection may be waited for: Kafka's connections.max.idle.ms; the other limits are this project's own.
use Rattle.std.specs.Prelude.{ℕ, ◌-◌, Bool, true, false, cond, nat_le, Option, Some, None}
use Rattle.kr_flow.specs.declared.phase.Phase.{Phase}
use Rattle.kr_flow.specs.declared.phase.Phase.TheVariants.{Idle, Message, Answer, Reply}
use Rattle.kr_flow.specs.declared.phase.Watched.{Watched}

-- in seconds; none for an answer, which comes once the quorum has committed what it tells
abbrev pub seconds_of : Phase → Option ℕ
seconds_of Idle = Some 600
seconds_of Message = Some 30
seconds_of Answer = None
seconds_of Reply = Some 30

abbrev pub is_same : Phase → Phase → Bool
is_same Idle Idle = true
is_same Message Message = true
is_same Answer Answer = true
is_same Reply Reply = true
is_same phase other = false

-- another phase begins, which nobody has looked at yet
abbrev pub entered : Watched → Phase → Watched
entered watched phase = cond (is_same watched.phase phase) watched (record { phase = phase; since = None })

-- the second at which it was first looked at, by one who looks now
abbrev pub first_seen : Option ℕ → ℕ → ℕ
first_seen (Some since) now = since
first_seen None now = now

abbrev pub watched_at : Watched → ℕ → Watched
watched_at watched now = record watched { since = Some (first_seen watched.since now) }

-- as many seconds went by as the limit allows
abbrev pub has_passed : Option ℕ → ℕ → Bool
has_passed (Some limit) seconds = nat_le limit seconds
has_passed None seconds = false

abbrev pub has_lasted : Watched → ℕ → Bool
has_lasted watched now = has_passed (seconds_of watched.phase) (now - first_seen watched.since now)
