use Rattle.std.proofs.Common.{take}
use Rattle.kr_lines.proofs.BatchByBatch.{broken}
use Rattle.kr_lines.proofs.showing.show_bytes.Goals as goal

pub returns-in-Err : goal.returns-in-Err
returns-in-Err c =
    broken (take c.args.start c.args.bytes.now) c.args.bytes.now c.loop-at.text.items c.loop-at.at c.loop-at.invariant _ c.in-Err.fault c.in-Err.ensures.why
