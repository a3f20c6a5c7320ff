-- Layouts as values: from one description of a value's layout follow the bytes that stand for it, how it is read, what is
-- written for it, and the fewest bytes that it takes. The types are those of Kafka's protocol guide; texts and arrays
-- are the compact ones (KIP-482).
use Rattle.std.specs.Prelude.{◌≡◌, ℕ, ℤ, ◌+◌, ◌^◌, ◌<◌, Bool, true, false, ◌&&◌, List, [], ◌++◌, Option, FitsSigned}
use Rattle.std.specs.Int.{w8, w16, w32, w64}
use Rattle.kr_wire.specs.Grammar.{◌⌢◌, IsNumber, IsSigned, IsBool, IsId, IsText, IsTextOrNull, IsList, IsListOrNull, IsDropped, NoTags}
use Rattle.kr_wire.specs.Laws.{IsShortText, IsShortTextOrNull, IsShortList, IsShortListOrNull}
use Rattle.kr_wire.specs.Reading.{Read, ◌followed_by◌, structure_at, none_known, number_at, signed_at, bool_at, id_at, text_at, text_or_null_at, tags_at, list_at, list_or_null_at}
use Rattle.kr_wire.specs.Spelling.{number, signed, bool, id, text, text_or_null, list, list_or_null, tags}

-- The layout of the values of a type.
infixr 6 ◌▸◌
pub data Schema : Type 0 → Type 1 where
  Int8 : Schema ℤ
  Int16 : Schema ℤ
  Int32 : Schema ℤ
  Int64 : Schema ℤ
  Uint16 : Schema ℕ
  Boolean : Schema Bool
  Uuid : Schema ℕ
  Text : Schema (List ℕ)
  TextOrNull : Schema (Option (List ℕ))
  -- tagged fields of which none is known, as each structure ends
  End : Schema (Unit {0})
  Array : {X : Type 0} → Schema X → Schema (List X)
  ArrayOrNull : {X : Type 0} → Schema X → Schema (Option (List X))
  -- one after the other
  ◌▸◌ : {X Y : Type 0} → Schema X → Schema Y → Schema (X × Y)
  -- some value, which is read and dropped
  Dropped : {X : Type 0} → Schema X → Schema (Unit {0})
  -- always this value
  Constant : {X : Type 0} → X → Schema X → Schema (Unit {0})
  -- the fields of a structure: the structure of some fields, and the fields of a structure
  Structure : {X Y : Type 0} → Schema X → (of : X → Y) → (fields : Y → X) → ((x : X) → fields (of x) ≡ x) → ((y : Y) → of (fields y) ≡ y) → Schema Y

-- The bytes stand for the value.
abbrev pub Is : {X : Type 0} → Schema X → X → List ℕ → Type 0
Is Int8 = IsSigned w8
Is Int16 = IsSigned w16
Is Int32 = IsSigned w32
Is Int64 = IsSigned w64
Is Uint16 = IsNumber w16
Is Boolean = IsBool
Is Uuid = IsId
Is Text = IsText
Is TextOrNull = IsTextOrNull
Is End = λ u. NoTags
Is (Array s) = IsList (Is s)
Is (ArrayOrNull s) = IsListOrNull (Is s)
Is (a ▸ b) = λ v. Is a v.0 ⌢ Is b v.1
Is (Dropped s) = λ u. IsDropped (Is s)
Is (Constant c s) = λ u. Is s c
Is (Structure s of fields there back) = λ y. Is s (fields y)

-- Reading the value from the front of some bytes.
abbrev pub value_at : {X : Type 0} → Schema X → List ℕ → Read X
value_at Int8 = signed_at w8
value_at Int16 = signed_at w16
value_at Int32 = signed_at w32
value_at Int64 = signed_at w64
value_at Uint16 = number_at w16
value_at Boolean = bool_at
value_at Uuid = id_at
value_at Text = text_at
value_at TextOrNull = text_or_null_at
value_at End = tags_at none_known tt
value_at (Array s) = list_at (value_at s)
value_at (ArrayOrNull s) = list_or_null_at (value_at s)
value_at (a ▸ b) = value_at a followed_by value_at b
value_at (Dropped s) = structure_at (λ x. tt) (value_at s)
value_at (Constant c s) = structure_at (λ x. tt) (value_at s)
value_at (Structure s of fields there back) = structure_at of (value_at s)

-- What is written for the value.
abbrev pub written : {X : Type 0} → Schema X → X → List ℕ
written Int8 = signed w8
written Int16 = signed w16
written Int32 = signed w32
written Int64 = signed w64
written Uint16 = number w16
written Boolean = bool
written Uuid = id
written Text = text
written TextOrNull = text_or_null
written End = λ u. tags []
written (Array s) = list (written s)
written (ArrayOrNull s) = list_or_null (written s)
written (a ▸ b) = λ v. written a v.0 ++ written b v.1
written (Dropped s) = λ u. []
written (Constant c s) = λ u. written s c
written (Structure s of fields there back) = λ y. written s (fields y)

-- The numbers are in their ranges, the texts are UTF-8, and texts and lists are shorter than 2^31. A dropped value can't
-- be written, since nothing says which it is.
abbrev pub Fits : {X : Type 0} → Schema X → X → Type 0
Fits Int8 = FitsSigned w8
Fits Int16 = FitsSigned w16
Fits Int32 = FitsSigned w32
Fits Int64 = FitsSigned w64
Fits Uint16 = λ n. n < 2 ^ 16
Fits Boolean = λ b. Unit {0}
Fits Uuid = λ n. n < 2 ^ 128
Fits Text = IsShortText
Fits TextOrNull = IsShortTextOrNull
Fits End = λ u. Unit {0}
Fits (Array s) = IsShortList (Fits s)
Fits (ArrayOrNull s) = IsShortListOrNull (Fits s)
Fits (a ▸ b) = λ v. Fits a v.0 × Fits b v.1
Fits (Dropped s) = λ u. ⊥
Fits (Constant c s) = λ u. Fits s c
Fits (Structure s of fields there back) = λ y. Fits s (fields y)

-- No constant is in it: nothing says what to answer where another value stands there.
abbrev pub is_readable : {X : Type 0} → Schema X → Bool
is_readable (Array s) = is_readable s
is_readable (ArrayOrNull s) = is_readable s
is_readable (a ▸ b) = is_readable a && is_readable b
is_readable (Dropped s) = is_readable s
is_readable (Constant c s) = false
is_readable (Structure s of fields there back) = is_readable s
is_readable _ = true

-- the fewest bytes that stand for a value
abbrev pub least_bytes : {X : Type 0} → Schema X → ℕ
least_bytes Int16 = 2
least_bytes Int32 = 4
least_bytes Int64 = 8
least_bytes Uint16 = 2
least_bytes Uuid = 16
least_bytes (a ▸ b) = least_bytes a + least_bytes b
least_bytes (Dropped s) = least_bytes s
least_bytes (Constant c s) = least_bytes s
least_bytes (Structure s of fields there back) = least_bytes s
least_bytes _ = 1
