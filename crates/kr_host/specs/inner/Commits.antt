-- When a quorum of this process alone commits. This project's own.
use Rattle.std.specs.Prelude.{ℕ, ◌+◌, ◌&&◌, Bool, cond, nat_lt, not}
use Rattle.kr_host.specs.declared.commits.TheConstants.{MOST_TURNS}

-- behind so many turns with a job there may be one more before a commit
abbrev pub may_wait_on : ℕ → Bool → Bool
may_wait_on turns did = did && nat_lt turns MOST_TURNS

abbrev pub commits_are_due : ℕ → Bool → Bool
commits_are_due turns did = not (may_wait_on turns did)

-- how many there are behind that turn since it was last time to commit
abbrev pub turns_behind : ℕ → Bool → ℕ
turns_behind turns did = cond (may_wait_on turns did) (turns + 1) 0
