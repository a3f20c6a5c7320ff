use Rattle.std.proofs.Common.{refl, arith}
use Rattle.kr_fold.proofs.PartReading.{no_told, sized_take}
use Rattle.kr_fold.proofs.image.batch_len.Goals as goal

pub returns-in-Err-clause-none : goal.returns-in-Err-clause-none
returns-in-Err-clause-none c = λ is. no_told c.args.bytes.now _ (omega arith) c.in-Err.ensures.read

pub returns-clause-some : goal.returns-clause-some
returns-clause-some c = (omega arith, sized_take c.args.bytes.now c.in-Ok.size _ c.in-Ok.ensures.read refl (omega arith))
