use Rattle.std.proofs.Common.{◌≤◌, length, arith}
use Rattle.kr_snapshot.proofs.BatchPieces.{start_waits}
use Rattle.kr_snapshot.proofs.ReaderSteps.{size_waits, unfinished_size, unfinished_sized}
use Rattle.kr_snapshot.proofs.pieces.batch_goal.Goals as goal

pub returns-then-held-lt-START-clause-waits : goal.returns-then-held-lt-START-clause-waits
returns-then-held-lt-START-clause-waits c = λ b. start_waits b c.args.held.now

pub unreachable-requires : goal.unreachable-requires
unreachable-requires c =
    let there : 12 ≤ length c.args.held.now = omega arith in
    unfinished_sized c.args.held.now _ c.requires there c.in-Err.ensures

pub returns-clause-more : goal.returns-clause-more
returns-clause-more c =
    let there : 12 ≤ length c.args.held.now = omega arith in
    unfinished_size c.args.held.now c.in-Ok.size c.requires there c.in-Ok.ensures

pub returns-clause-waits : goal.returns-clause-waits
returns-clause-waits c =
    let there : 12 ≤ length c.args.held.now = omega arith in
    λ b. size_waits b c.args.held.now c.in-Ok.size there c.in-Ok.ensures
