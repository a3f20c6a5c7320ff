use Rattle.kr_snapshot.proofs.Groups.{records_short}
use Rattle.kr_snapshot.proofs.batch_writer.BatchWriter.put_group.Goals as goal

pub put_batch-requires-clause-small : goal.put_batch-requires-clause-small
put_batch-requires-clause-small c = rw c.deref.ensures.value (records_short _ c.requires.sound)
