-- Where a connection's bytes end: in messages, each behind its size in four bytes (Kafka's protocol guide, "Network").
use Rattle.std.specs.Prelude.{ℕ, ◌+◌, ◌-◌, ◌*◌, ◌%◌, ◌==◌, ◌^◌, Bool, false, cond, nat_le}
use Rattle.kr_flow.specs.declared.progress.Progress.{Progress}
use Rattle.kr_flow.specs.declared.progress.Progress.TheVariants.{Size, Body}

-- before a message, or the rest of one, of so many bytes
abbrev pub before : ℕ → Progress
before lack = cond (lack == 0) (Size 0 0) (Body lack)

-- one byte more
abbrev pub behind_byte : Progress → ℕ → Progress
behind_byte (Size count size) byte =
    let size' = (size * 256 + byte) % 2 ^ 32 in cond (nat_le 3 count) (before size') (Size (count + 1) size')
behind_byte (Body lack) byte = before (lack - 1)

-- no message is unfinished
abbrev pub is_between : Progress → Bool
is_between (Size count size) = count == 0
is_between (Body lack) = false
