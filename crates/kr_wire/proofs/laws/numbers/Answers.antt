use Rattle.std.proofs.Common.{refl, lit≤}
use Rattle.std.specs.Int.{w16, w32, w64}
use Rattle.kr_wire.specs.Schema.{Int8, Int16, Int32, Int64, Boolean, Uuid}
use Rattle.kr_wire.proofs.Primitives.{number_is}
use Rattle.kr_wire.proofs.Schemas.{laws}
use Rattle.kr_wire.proofs.laws.numbers.Goals as goal

pub returns-clause-u16 : goal.returns-clause-u16
returns-clause-u16 c = number_is w16 (lit≤ tt)

pub returns-clause-u32 : goal.returns-clause-u32
returns-clause-u32 c = number_is w32 (lit≤ tt)

pub returns-clause-u64 : goal.returns-clause-u64
returns-clause-u64 c = number_is w64 (lit≤ tt)

pub returns-clause-i8 : goal.returns-clause-i8
returns-clause-i8 c = laws Int8 refl

pub returns-clause-i16 : goal.returns-clause-i16
returns-clause-i16 c = laws Int16 refl

pub returns-clause-i32 : goal.returns-clause-i32
returns-clause-i32 c = laws Int32 refl

pub returns-clause-i64 : goal.returns-clause-i64
returns-clause-i64 c = laws Int64 refl

pub returns-clause-id : goal.returns-clause-id
returns-clause-id c = laws Uuid refl

pub returns-clause-bool : goal.returns-clause-bool
returns-clause-bool c = laws Boolean refl
