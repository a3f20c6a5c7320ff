-- The laws of the numbers that no layout has, together with their written form.
use Rattle.std.proofs.Common.{ℕ, ◌^◌, ◌<◌, ◌≤◌, List, length, ap, arith}
use Rattle.std.specs.Prelude.{ℤ, FitsSigned}
use Rattle.std.specs.Int.{Width, w32, w64, byte_len}
use Rattle.std.proofs.lemmas.List.{length-append}
use mir.Val.{bits}
use Rattle.kr_wire.specs.Spelling.{uvarint, varint32, varint64, number}
use Rattle.kr_wire.specs.Reading.{uvarint_at, varint32_at, varint64_at, number_at}
use Rattle.kr_wire.specs.Grammar.{IsUvarint, IsVarint32, IsVarint64, IsNumber, IsSigned, IsId}
use Rattle.kr_wire.specs.Laws.{IsPrimitive}
use Rattle.kr_wire.proofs.ReadingLaws.{primitive}
use Rattle.kr_wire.proofs.Numbers.{uvarint_law, varint32_law, varint64_law, number_law}
use Rattle.kr_wire.proofs.WrittenForms.{uvarint_spelled, varint32_spelled, varint64_spelled, number_spelled}

pub uvarint_is : IsPrimitive IsUvarint uvarint_at uvarint (λ n. n < 2 ^ 32)
uvarint_is = primitive uvarint_law uvarint (λ n. n < 2 ^ 32) uvarint_spelled

pub varint32_is : IsPrimitive IsVarint32 varint32_at varint32 (FitsSigned w32)
varint32_is = primitive varint32_law varint32 (FitsSigned w32) varint32_spelled

pub varint64_is : IsPrimitive IsVarint64 varint64_at varint64 (FitsSigned w64)
varint64_is = primitive varint64_law varint64 (FitsSigned w64) varint64_spelled

pub number_is : (w : Width) → bits w ≤ 64 → IsPrimitive (IsNumber w) (number_at w) (number w) (λ n. n < 2 ^ bits w)
number_is w few = primitive (number_law w) (number w) (λ n. n < 2 ^ bits w) (λ n fits. number_spelled w n few fits)

-- ---- elements that take a byte at least

pub signed_long : (w : Width) → 1 ≤ byte_len w → (n : ℤ) (bytes : List ℕ) → IsSigned w n bytes → 0 < length bytes
signed_long w some n bytes is = let h = is.spelled.long in omega arith

pub id_long : (n : ℕ) (bytes : List ℕ) → IsId n bytes → 0 < length bytes
id_long n bytes is =
    let h = is.spelled.first.long in
    omega (arith, ap length is.spelled.is, length-append is.spelled.left is.spelled.right)
