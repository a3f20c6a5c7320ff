use Rattle.std.proofs.lemmas.Result.{IfOk-weaker}
use Rattle.kr_partitions.proofs.OngoingRows.{moving}
use Rattle.kr_partitions.proofs.list_partition_reassignments.ongoing_of.Goals as goal

pub returns : goal.returns
returns g c =
    IfOk-weaker c.gather_partitions.result _ _ (λ rows is. moving c.args.seen.now c.args.asked.now c.args.id.now rows is) c.gather_partitions.ensures
