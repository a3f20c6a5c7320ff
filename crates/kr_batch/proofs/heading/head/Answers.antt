use Rattle.std.proofs.Common.{◌≡◌, ap, ◌∙◌}
use Rattle.std.specs.Result.{result_ok}
use Rattle.kr_batch.proofs.Batches.{head_there}
use Rattle.kr_batch.proofs.heading.head.Goals as goal

pub returns-clause-batch : goal.returns-clause-batch
returns-clause-batch c = λ b is.
    let told = c.ok.ensures in let exact = c.read_head.ensures.exact in let there = head_there c.args.bytes.now b is in cc
