-- The events of a link that wait for the worker. This project's own.
use Rattle.std.specs.Prelude.{ℕ, ◌≤◌, ◌<◌, List, length, sum_by}
use Rattle.kr_flow.specs.declared.room.Waiting.{Waiting}

-- those that wait, in the order in which they were pushed; how many were taken, and how many of those were the quorum's
pub record Flow : Type 0 where
  pub waiting : List Waiting
  pub taken : ℕ
  pub of_quorum : ℕ

-- the bytes that they take
abbrev pub bytes_of : List Waiting → ℕ
bytes_of waiting = sum_by (λ w. w.bytes) waiting

-- 64 MiB
abbrev pub most_waiting : ℕ
most_waiting = 67108864

-- they have at most so many, or there is one alone
abbrev pub AreBounded : List Waiting → Type 0
AreBounded waiting = 1 < length waiting → bytes_of waiting ≤ most_waiting
