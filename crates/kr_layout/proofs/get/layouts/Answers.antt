use Rattle.kr_wire.specs.Schema.{Array, ArrayOrNull}
use Rattle.kr_wire.proofs.Schemas.{laws}
use Rattle.kr_layout.proofs.get.layouts.Goals as goal

pub returns-clause-one : goal.returns-clause-one
returns-clause-one g c = laws g.T.Get.schema g.met.T.Get.is_whole

pub returns-clause-list : goal.returns-clause-list
returns-clause-list g c = laws (Array g.T.Get.schema) g.met.T.Get.is_whole

pub returns-clause-list_or_null : goal.returns-clause-list_or_null
returns-clause-list_or_null g c = laws (ArrayOrNull g.T.Get.schema) g.met.T.Get.is_whole
