use Rattle.kr_snapshot.proofs.Fronts.{batch_few}
use Rattle.kr_snapshot.proofs.records.decode_batch.Goals as goal

pub returns-in-Ok-clause-few : goal.returns-in-Ok-clause-few
returns-in-Ok-clause-few c = batch_few c.in-Ok.batch c.args.bytes.now c.in-Ok.ensures.found
