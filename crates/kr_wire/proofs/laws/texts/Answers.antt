use Rattle.std.proofs.Common.{refl}
use Rattle.kr_wire.specs.Schema.{Text, TextOrNull}
use Rattle.kr_wire.proofs.Schemas.{laws}
use Rattle.kr_wire.proofs.laws.texts.Goals as goal

pub returns-clause-text : goal.returns-clause-text
returns-clause-text c = laws Text refl

pub returns-clause-text_or_null : goal.returns-clause-text_or_null
returns-clause-text_or_null c = laws TextOrNull refl
