use Rattle.std.proofs.Common.{refl}
use Rattle.kr_wire.specs.Schema.{Array, ArrayOrNull, Int32, Uuid}
use Rattle.kr_wire.proofs.Schemas.{laws}
use Rattle.kr_wire.proofs.laws.lists.Goals as goal

pub returns-clause-ids : goal.returns-clause-ids
returns-clause-ids c = laws (Array Uuid) refl

pub returns-clause-numbers : goal.returns-clause-numbers
returns-clause-numbers c = laws (Array Int32) refl

pub returns-clause-numbers_or_null : goal.returns-clause-numbers_or_null
returns-clause-numbers_or_null c = laws (ArrayOrNull Int32) refl
