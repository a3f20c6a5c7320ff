-- What a clock in memory shows. This project's own.
use Rattle.std.specs.Prelude.{ℕ, ℤ, pos, List, slice_index_or}
use Rattle.std.specs.Int.{int_max}

-- the times that it is to answer, its last answer, and how often it was asked
pub record Listed : Type 0 where
  pub times : List ℤ
  pub last : ℤ
  pub asks : ℕ

-- the time of the list that comes next, or the last answer behind its end; a negative one counts as 0
abbrev pub next_time : Listed → ℤ
next_time clock = int_max (pos 0) (slice_index_or clock.times clock.asks clock.last)
