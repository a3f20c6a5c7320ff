use Rattle.kr_layout.proofs.Bodies.{answers, bytes_behind}
use Rattle.kr_layout.proofs.get.read_body.Goals as goal

pub returns : goal.returns
returns g c = answers g.T.Get.schema g.met.T.Get.is_whole _ (bytes_behind _ _ (λ i. (c.type_inv.message i).fits)) _ c.read_whole.ensures
