use Rattle.std.proofs.Common.{arith}
use Rattle.kr_wire.proofs.Schemas.{some}
use Rattle.kr_layout.proofs.Bodies.{holds}
use Rattle.kr_layout.proofs.get.room.Goals as goal

pub nonzero_div-len : goal.nonzero_div-len
nonzero_div-len g c = omega (arith, some g.T.Get.schema, c.least.ensures)

pub returns-clause-held : goal.returns-clause-held
returns-clause-held g c = rw c.min.ensures (holds _ _ _ _ _ c.least.ensures c.len.ensures)
