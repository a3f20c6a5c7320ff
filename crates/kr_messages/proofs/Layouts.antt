-- What is read of a layout stands for the value, and what stands for a value is read as it.
use Rattle.std.proofs.Common.{◌≡◌, ℕ, ◌+◌, ◌<◌, Bool, true, false, ◌&&◌, List, [], ◌∷◌, ◌++◌, length, Option, Some, None, refl, ap, arith}
use Rattle.std.specs.Prelude.{pos, negsuc}
use Rattle.std.proofs.lemmas.List.{length-append}
use Rattle.kr_pages.specs.Nullable.{IsStructureOrNull}
use Rattle.kr_pages.proofs.NullableLaws.{structure_or_null_law}
use Rattle.kr_wire.specs.Grammar.{IsList, IsListOrNull, IsVarint}
use Rattle.kr_wire.specs.Schema.{Int8}
use Rattle.kr_wire.proofs.Lists.{list_law, list_or_null_law}
use Rattle.kr_wire.proofs.ReadingLaws.{Law, ◌before◌}
use Rattle.kr_wire.proofs.Schemas as wires
use Rattle.kr_messages.specs.Layouts.{Encodes, PartLayout, decoded_at, is_decodable}
use Rattle.kr_messages.specs.Layouts as layouts

-- ---- a value takes a byte at least

longer : (bytes left right : List ℕ) → bytes ≡ left ++ right → 0 < length left → 0 < length bytes
longer bytes left right is some = omega (arith, ap length is, length-append left right)

varint_long : (n : ℕ) (bytes : List ℕ) → IsVarint n bytes → 0 < length bytes
varint_long n [] is = absurd is
varint_long n (b ∷ bytes) is = omega arith

-- a list has a count, whatever its elements are
list_long : {X : Type 0} (One : X → List ℕ → Type 0) (xs : List X) (bytes : List ℕ) → IsList One xs bytes → 0 < length bytes
list_long One xs bytes is = longer bytes is.left is.right is.is (varint_long (length xs + 1) is.left is.first.spelled)

list_or_null_long : {X : Type 0} (One : X → List ℕ → Type 0) (o : Option (List X)) (bytes : List ℕ) → IsListOrNull One o bytes → 0 < length bytes
list_or_null_long One None bytes is = varint_long 0 bytes is.spelled
list_or_null_long One (Some xs) bytes is = list_long One xs bytes is

structure_or_null_long : {X : Type 0} (One : X → List ℕ → Type 0) (o : Option X) (bytes : List ℕ) → IsStructureOrNull One o bytes → 0 < length bytes
structure_or_null_long One None bytes is = wires.not_empty Int8 (negsuc 0) bytes is
structure_or_null_long One (Some x) bytes is = longer bytes is.left is.right is.is (wires.not_empty Int8 (pos 1) is.left is.first)

not_empty : {X : Type 0} (l : PartLayout X) (x : X) (bytes : List ℕ) → Encodes l x bytes → 0 < length bytes
not_empty (layouts.Plain s) x bytes is = wires.not_empty s x bytes is
not_empty (layouts.StructureOrNull l) x bytes is = structure_or_null_long (Encodes l) x bytes is
not_empty (layouts.Array l) x bytes is = list_long (Encodes l) x bytes is
not_empty (layouts.ArrayOrNull l) x bytes is = list_or_null_long (Encodes l) x bytes is
not_empty (layouts.Both a b) x bytes is = longer bytes is.left is.right is.is (not_empty a x.0 is.left is.first)

-- ---- the laws

both_decodable : (a b : Bool) → (a && b) ≡ true → (a ≡ true) × (b ≡ true)
both_decodable true b e = (refl, e)
both_decodable false b e = absurd cc

pub law : {X : Type 0} (l : PartLayout X) → is_decodable l ≡ true → Law (Encodes l) (decoded_at l)
law (layouts.Plain s) e = wires.law s e
law (layouts.StructureOrNull l) e = structure_or_null_law (law l e)
law (layouts.Array l) e = list_law (law l e) (not_empty l)
law (layouts.ArrayOrNull l) e = list_or_null_law (law l e) (not_empty l)
law (layouts.Both a b) e = let h = both_decodable (is_decodable a) (is_decodable b) e in law a h.0 before law b h.1
