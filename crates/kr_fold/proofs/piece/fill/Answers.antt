use Rattle.std.proofs.Common.{◌+◌, ◌-◌, ◌<◌, ◌≤◌, length, arith}
use Rattle.kr_fold.specs.SourceBytes.{longest}
use Rattle.kr_fold.proofs.Pieces.{shortage}
use Rattle.kr_fold.proofs.piece.fill.Goals as goal

pub returns-in-Err-clause-fault : goal.returns-in-Err-clause-fault
returns-in-Err-clause-fault g c =
    let inv = c.loop-bytes.invariant in
    let short : length c.loop-bytes.bytes.items < c.args.len = grind arith in
    let few : c.room-most.result ≤ c.args.len - length c.loop-bytes.bytes.items = grind arith in
    let fits : c.args.at + length c.loop-bytes.bytes.items + c.room-most.result ≤ longest = grind arith in
    let some : 0 < c.room-most.result = grind arith in
    shortage _ _ _ _ _ _ c.args.bytes.now.items c.loop-bytes.bytes.items _ c.args.at c.args.len c.room-most.result inv.grew short few fits some inv.faults c.in-Err.fault c.in-Err.ensures.fault
