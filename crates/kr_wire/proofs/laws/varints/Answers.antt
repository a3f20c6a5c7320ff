use Rattle.kr_wire.proofs.Primitives.{uvarint_is, varint32_is, varint64_is}
use Rattle.kr_wire.proofs.laws.varints.Goals as goal

pub returns-clause-uvarint : goal.returns-clause-uvarint
returns-clause-uvarint c = uvarint_is

pub returns-clause-varint : goal.returns-clause-varint
returns-clause-varint c = varint32_is

pub returns-clause-varlong : goal.returns-clause-varlong
returns-clause-varlong c = varint64_is
