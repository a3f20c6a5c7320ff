use Rattle.std.proofs.Common.{arith}
use Rattle.kr_wire.proofs.Groups.{first_two}
use Rattle.kr_wire.proofs.reading.read_long.Goals as goal

pub returns-then-bytes-at-lt128-clause-bound : goal.returns-then-bytes-at-lt128-clause-bound
returns-then-bytes-at-lt128-clause-bound c =
    rw c.from.ensures (rw c.from-then-bytes-at-lt128.ensures
    (first_two _ _ c.args.top c.args.room (omega (arith, c.ranges.first)) c.if-bytes-at-lt128.true c.if-room-gt0.true))
