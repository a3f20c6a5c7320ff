-- The kinds of frames that are read, each with its number and the most bytes of its body. This project's own.
use Rattle.std.specs.Prelude.{ℕ, ◌+◌, ◌-◌, Bool, not}
use Rattle.kr_defs.specs.declared.limits.TheConstants.{LONGEST_CLUSTER, MOST_FRAME_BYTES, MOST_LOAD_BYTES, MOST_MESSAGE_BYTES}
use Rattle.kr_stream.specs.declared.kind.FrameKind.{FrameKind}
use Rattle.kr_stream.specs.declared.kind.FrameKind.TheVariants as kinds

abbrev pub number_of : FrameKind → ℕ
number_of kinds.Open = 1
number_of kinds.Lead = 2
number_of kinds.Commit = 3
number_of kinds.Lost = 4
number_of kinds.Batch = 5
number_of kinds.Load = 6
number_of kinds.Tick = 7
number_of kinds.Request = 8
number_of kinds.Image = 9
number_of kinds.End = 10

-- Open has 26 bytes before the cluster id, a request its client and its time before the message. The limits of frames count
-- the kind too.
abbrev pub longest_body : FrameKind → ℕ
longest_body kinds.Open = 26 + LONGEST_CLUSTER
longest_body kinds.Lead = 20
longest_body kinds.Commit = 12
longest_body kinds.Lost = 4
longest_body kinds.Batch = MOST_FRAME_BYTES - 1
longest_body kinds.Load = MOST_LOAD_BYTES - 1
longest_body kinds.Tick = 8
longest_body kinds.Request = 12 + MOST_MESSAGE_BYTES
longest_body kinds.Image = 0
longest_body kinds.End = 0

-- Open stands first, and every other kind behind it
abbrev pub may_stand : Bool → FrameKind → Bool
may_stand opened kinds.Open = not opened
may_stand opened other = opened
