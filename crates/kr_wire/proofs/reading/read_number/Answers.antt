use Rattle.kr_wire.proofs.Groups.{first_alone}
use Rattle.kr_wire.proofs.reading.read_number.Goals as goal

pub returns-then-byte-lt128-clause-bound : goal.returns-then-byte-lt128-clause-bound
returns-then-byte-lt128-clause-bound c =
    rw c.from.ensures (first_alone _ c.args.top c.args.room c.if-byte-lt128.true)
