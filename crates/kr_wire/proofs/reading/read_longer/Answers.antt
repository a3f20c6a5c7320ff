use Rattle.std.proofs.Common.{arith}
use Rattle.kr_wire.proofs.Groups.{first_more, fits_all}
use Rattle.kr_wire.proofs.reading.read_longer.Goals as goal

pub overflow_mul-result : goal.overflow_mul-result
overflow_mul-result c =
    omega (arith, fits_all c.in_ok-high.high c.args.top c.args.room c.in_ok-high.ensures.bound c.requires.fits)

pub overflow_add-result : goal.overflow_add-result
overflow_add-result c =
    omega (arith, c.ranges.first, fits_all c.in_ok-high.high c.args.top c.args.room c.in_ok-high.ensures.bound c.requires.fits)

pub returns-clause-bound : goal.returns-clause-bound
returns-clause-bound c =
    rw c.from.ensures (first_more _ c.in_ok-high.high c.args.top c.args.room (omega (arith, c.ranges.first)) c.in_ok-high.ensures.bound)
