-- The laws of all layouts, by one induction each.
use Rattle.std.proofs.Common.{◌≡◌, ℕ, ◌+◌, ◌<◌, ◌≤◌, Bool, true, false, ◌&&◌, List, [], ◌∷◌, ◌++◌, length, Option, Some, None, refl, ap, arith}
use Rattle.std.specs.Int.{Width, w8, w16, w32, w64, byte_len}
use Rattle.std.proofs.lemmas.List.{length-append}
use Rattle.kr_wire.specs.Grammar.{IsVarint, IsNumber, IsText, IsTextOrNull, IsList, IsListOrNull, IsTags}
use Rattle.kr_wire.specs.Laws.{IsPrimitive}
use Rattle.kr_wire.specs.Schema.{Schema, Int8, Int16, Int32, Int64, Uint16, Boolean, Uuid, Text, TextOrNull, End, Array, ArrayOrNull, ◌▸◌, Dropped, Constant, Structure, Is, value_at, written, Fits, is_readable, least_bytes}
use Rattle.kr_wire.proofs.ReadingLaws.{Law, ◌before◌, structure_law, primitive, joined, sound_last, complete_last}
use Rattle.kr_wire.proofs.Numbers.{number_law, signed_law, bool_law, id_law, text_law, text_or_null_law}
use Rattle.kr_wire.proofs.Lists.{list_law, list_or_null_law}
use Rattle.kr_wire.proofs.Tags.{no_tags_law}
use Rattle.kr_wire.proofs.WrittenForms.{number_spelled, signed_spelled, bool_spelled, id_spelled, text_spelled, text_or_null_spelled, no_tags_spelled, list_stands, list_or_null_stands}

-- ---- a value takes the least_bytes of its layout at least_bytes, and that is a byte at least_bytes

pub some : {X : Type 0} (s : Schema X) → 1 ≤ least_bytes s
some Int8 = omega arith
some Int16 = omega arith
some Int32 = omega arith
some Int64 = omega arith
some Uint16 = omega arith
some Boolean = omega arith
some Uuid = omega arith
some Text = omega arith
some TextOrNull = omega arith
some End = omega arith
some (Array s) = omega arith
some (ArrayOrNull s) = omega arith
some (a ▸ b) = let h = some a in omega arith
some (Dropped s) = some s
some (Constant c s) = some s
some (Structure s of fields there back) = some s

parts_long : (bytes left right : List ℕ) → bytes ≡ left ++ right → (m n : ℕ) → m ≤ length left → n ≤ length right → m + n ≤ length bytes
parts_long bytes left right is m n first second = omega (arith, ap length is, length-append left right)

first_long : (bytes left right : List ℕ) → bytes ≡ left ++ right → 1 ≤ length left → 1 ≤ length bytes
first_long bytes left right is first = parts_long bytes left right is 1 0 first (omega arith)

varint_long : (n : ℕ) (bytes : List ℕ) → IsVarint n bytes → 1 ≤ length bytes
varint_long n [] is = absurd is
varint_long n (b ∷ bytes) is = omega arith

text_long : (text bytes : List ℕ) → IsText text bytes → 1 ≤ length bytes
text_long text bytes is = first_long bytes is.spelled.left is.spelled.right is.spelled.is (varint_long (length text + 1) is.spelled.left is.spelled.first.spelled)

text_or_null_long : (o : Option (List ℕ)) (bytes : List ℕ) → IsTextOrNull o bytes → 1 ≤ length bytes
text_or_null_long None bytes is = varint_long 0 bytes is.spelled
text_or_null_long (Some text) bytes is = text_long text bytes is

tags_long : (bytes : List ℕ) (Holds : List (ℕ × List ℕ) → Type 0) → IsTags Holds bytes → 1 ≤ length bytes
tags_long bytes Holds is = first_long bytes is.spelled.left is.spelled.right is.spelled.is (varint_long (length is.fields) is.spelled.left is.spelled.first.spelled)

list_long : {X : Type 0} (One : X → List ℕ → Type 0) (xs : List X) (bytes : List ℕ) → IsList One xs bytes → 1 ≤ length bytes
list_long One xs bytes is = first_long bytes is.left is.right is.is (varint_long (length xs + 1) is.left is.first.spelled)

list_or_null_long : {X : Type 0} (One : X → List ℕ → Type 0) (o : Option (List X)) (bytes : List ℕ) → IsListOrNull One o bytes → 1 ≤ length bytes
list_or_null_long One None bytes is = varint_long 0 bytes is.spelled
list_or_null_long One (Some xs) bytes is = list_long One xs bytes is

number_long : (w : Width) (n : ℕ) (bytes : List ℕ) → IsNumber w n bytes → byte_len w ≤ length bytes
number_long w n bytes is = let h = is.long in omega arith

pub long : {X : Type 0} (s : Schema X) (x : X) (bytes : List ℕ) → Is s x bytes → least_bytes s ≤ length bytes
long Int8 x bytes is = number_long w8 is.bits bytes is.spelled
long Int16 x bytes is = number_long w16 is.bits bytes is.spelled
long Int32 x bytes is = number_long w32 is.bits bytes is.spelled
long Int64 x bytes is = number_long w64 is.bits bytes is.spelled
long Uint16 x bytes is = number_long w16 x bytes is
long Boolean x bytes is = number_long w8 is.byte bytes is.spelled
long Uuid x bytes is = parts_long bytes is.spelled.left is.spelled.right is.spelled.is 8 8 (number_long w64 is.high is.spelled.left is.spelled.first) (number_long w64 is.low is.spelled.right is.spelled.second)
long Text x bytes is = text_long x bytes is
long TextOrNull x bytes is = text_or_null_long x bytes is
long End x bytes is = tags_long bytes _ is
long (Array s) x bytes is = list_long (Is s) x bytes is
long (ArrayOrNull s) x bytes is = list_or_null_long (Is s) x bytes is
long (a ▸ b) x bytes is = parts_long bytes is.left is.right is.is (least_bytes a) (least_bytes b) (long a x.0 is.left is.first) (long b x.1 is.right is.second)
long (Dropped s) x bytes is = long s is.value bytes is.spelled
long (Constant c s) x bytes is = long s c bytes is
long (Structure s of fields there back) x bytes is = long s (fields x) bytes is

pub not_empty : {X : Type 0} (s : Schema X) (x : X) (bytes : List ℕ) → Is s x bytes → 0 < length bytes
not_empty s x bytes is = let a = some s in let b = long s x bytes is in omega arith

-- ---- what is read stands for the value, and what stands for a value is read as it

both : (a b : Bool) → (a && b) ≡ true → (a ≡ true) × (b ≡ true)
both true b e = (refl, e)
both false b e = absurd cc

pub law : {X : Type 0} (s : Schema X) → is_readable s ≡ true → Law (Is s) (value_at s)
law Int8 e = signed_law w8
law Int16 e = signed_law w16
law Int32 e = signed_law w32
law Int64 e = signed_law w64
law Uint16 e = number_law w16
law Boolean e = bool_law
law Uuid e = id_law
law Text e = text_law
law TextOrNull e = text_or_null_law
law End e = no_tags_law
law (Array s) e = list_law (law s e) (not_empty s)
law (ArrayOrNull s) e = list_or_null_law (law s e) (not_empty s)
law (a ▸ b) e = let h = both (is_readable a) (is_readable b) e in law a h.0 before law b h.1
law (Dropped s) e = record {
  sound = λ bytes fits. sound_last (law s e) (Is (Dropped s)) (λ x. tt {0}) bytes fits (λ x a is. record { value = x; spelled = is });
  complete = λ u front rest is. complete_last (law s e) is.value (λ x. tt {0}) rest front is.spelled;
}
law (Constant c s) e = absurd cc
law (Structure s of fields there back) e = structure_law of fields there back (law s e)

-- ---- what is written stands for the value

pub stands : {X : Type 0} (s : Schema X) (x : X) → Fits s x → Is s x (written s x)
stands Int8 x fits = signed_spelled w8 x (omega arith) fits
stands Int16 x fits = signed_spelled w16 x (omega arith) fits
stands Int32 x fits = signed_spelled w32 x (omega arith) fits
stands Int64 x fits = signed_spelled w64 x (omega arith) fits
stands Uint16 x fits = number_spelled w16 x (omega arith) fits
stands Boolean x fits = bool_spelled x
stands Uuid x fits = id_spelled x fits
stands Text x fits = text_spelled x fits.0 fits.1
stands TextOrNull x fits = text_or_null_spelled x fits
stands End x fits = no_tags_spelled
stands (Array s) xs fits = list_stands (Is s) (written s) (Fits s) (stands s) xs fits
stands (ArrayOrNull s) o fits = list_or_null_stands (Is s) (written s) (Fits s) (stands s) o fits
stands (a ▸ b) x fits = joined _ _ (stands a x.0 fits.0) (stands b x.1 fits.1)
stands (Dropped s) x fits = absurd fits
stands (Constant c s) x fits = stands s c fits
stands (Structure s of fields there back) x fits = stands s (fields x) fits

-- ---- all of it

pub laws : {X : Type 0} (s : Schema X) → is_readable s ≡ true → IsPrimitive (Is s) (value_at s) (written s) (Fits s)
laws s e = primitive (law s e) (written s) (Fits s) (stands s)
