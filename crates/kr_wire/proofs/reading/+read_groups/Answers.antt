use Rattle.std.proofs.Common.{arith}
use Rattle.kr_wire.proofs.Groups.{one_more, one_last, bounded_high}
use Rattle.kr_wire.proofs.reading.+read_groups.Goals as goal

pub returns-then-byte-lt128-clause-bound : goal.returns-then-byte-lt128-clause-bound
returns-then-byte-lt128-clause-bound t c =
    one_last _ _ c.args.top c.args.room c.last_group-then-byte-lt128.ensures.value c.if-byte-lt128.true c.if-room-eq0.false

pub overflow_mul-result : goal.overflow_mul-result
overflow_mul-result t c =
    omega (arith, bounded_high c.in_ok-high.high c.args.top c.args.room c.requires.low c.requires.small c.if-room-eq0.false c.in_ok-high.ensures.bound)

pub overflow_add-result : goal.overflow_add-result
overflow_add-result t c =
    omega (arith, c.type_inv.bytes c.args.at, bounded_high c.in_ok-high.high c.args.top c.args.room c.requires.low c.requires.small c.if-room-eq0.false c.in_ok-high.ensures.bound)

pub returns-clause-bound : goal.returns-clause-bound
returns-clause-bound t c =
    rw c.from.ensures (one_more _ c.in_ok-high.high c.args.top c.args.room (omega (arith, c.type_inv.bytes c.args.at)) c.if-room-eq0.false c.in_ok-high.ensures.bound)
