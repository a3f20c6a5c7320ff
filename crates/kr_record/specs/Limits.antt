-- By a layout: in how many bytes a value is written, what is asked of it there, from the sizes that 32 bits can hold, and what
-- the types of a value see to: its numbers fit them, and its texts are UTF-8.
use Rattle.std.specs.Prelude.{ℕ, ℤ, pos, ◌+◌, ◌^◌, ◌<◌, ◌≢◌, List, [], ◌∷◌, length, All, Option, None, Some, IfSome, FitsSigned, IsUtf8}
use Rattle.std.specs.Int.{w8, w16, w32, w64}
use Rattle.kr_defs.specs.Sizes.{text_bytes, text_or_null_bytes, rows_bytes, list_bytes, number_field, number_field_or, ids_field, ids_field_or, text_field, tags_bytes}
use Rattle.kr_wire.specs.Schema.{Schema, Int8, Int16, Int32, Int64, Uint16, Uuid, Text, TextOrNull, Array, ◌▸◌, Structure}
use Rattle.kr_wire.specs.Tables.{Part, Int8NotZero, Int8OrNone, Int32OrNone, Int32sOrNull, Int32sOrEmpty, TextOrNone, UuidsDropped, Table, NoField, Field}
use Rattle.kr_record.specs.Layout.{RecordLayout, Of, Flag, ◌▹◌, Directories, Tagged}

pub record Limits (X N : Type 0) : Type 1 where
  pub size : X → N
  pub short : X → Type 0
  pub held : X → Type 0

abbrev pub limits : {X N : Type 0} → (X → N) → (X → Type 0) → (X → Type 0) → Limits X N
limits size short held = record { size = size; short = short; held = held }

-- nothing is asked
abbrev pub free : {X : Type 0} → X → Type 0
free x = Unit {0}

-- one after the other
abbrev pub in_sequence : {X Y : Type 0} → Limits X ℕ → Limits Y ℕ → Limits (X × Y) ℕ
in_sequence a b = limits (λ v. a.size v.0 + b.size v.1) (λ v. a.short v.0 × b.short v.1) (λ v. a.held v.0 × b.held v.1)

-- a text or a list of fewer than 2^31 bytes or elements
abbrev pub IsShort : {X : Type 0} → List X → Type 0
IsShort xs = length xs < 2 ^ 31

-- the ids of a tagged field, fewer than 2^29
abbrev pub FitsField : List ℤ → Type 0
FitsField ids = length ids < 2 ^ 29

-- ids of 32 bits with a sign
abbrev pub AreInts : List ℤ → Type 0
AreInts ids = All (FitsSigned w32) ids

abbrev pub of_schema : {X : Type 0} → Schema X → Limits X ℕ
of_schema Int8 = limits (λ n. 1) free (FitsSigned w8)
of_schema Int16 = limits (λ n. 2) free (FitsSigned w16)
of_schema Int32 = limits (λ n. 4) free (FitsSigned w32)
of_schema Int64 = limits (λ n. 8) free (FitsSigned w64)
of_schema Uint16 = limits (λ n. 2) free (λ n. n < 2 ^ 16)
of_schema Uuid = limits (λ n. 16) free (λ n. n < 2 ^ 128)
of_schema Text = limits text_bytes IsShort IsUtf8
of_schema TextOrNull = limits text_or_null_bytes (λ o. IfSome o IsShort) (λ o. IfSome o IsUtf8)
of_schema (Array Int32) = limits (list_bytes 4) IsShort AreInts
of_schema (Array s) = limits (rows_bytes (of_schema s).size) (λ xs. IsShort xs × All (of_schema s).short xs) (All (of_schema s).held)
of_schema (a ▸ b) = in_sequence (of_schema a) (of_schema b)
of_schema (Structure s of fields there back) = limits (λ y. (of_schema s).size (fields y)) (λ y. (of_schema s).short (fields y)) (λ y. (of_schema s).held (fields y))
of_schema _ = limits (λ x. 1) free free

-- the data of a tagged field: a number that spells "no change" isn't one to change to
abbrev pub of_part : {P : Type 0} → Part P → Limits P (Option ℕ)
of_part Int8NotZero = limits (number_field 1 (pos 0)) free (FitsSigned w8)
of_part (Int8OrNone default) = limits (number_field_or 1 default) (λ o. o ≢ Some default) (λ o. IfSome o (FitsSigned w8))
of_part (Int32OrNone default) = limits (number_field_or 4 default) (λ o. o ≢ Some default) (λ o. IfSome o (FitsSigned w32))
of_part Int32sOrNull = limits ids_field_or (λ o. IfSome o FitsField) (λ o. IfSome o AreInts)
of_part Int32sOrEmpty = limits ids_field FitsField AreInts
of_part TextOrNone = limits text_field (λ o. IfSome o IsShort) (λ o. IfSome o IsUtf8)
of_part UuidsDropped = limits (λ u. None) free free

abbrev pub of_table : {Z : Type 0} → Table Z → Limits Z (List (Option ℕ))
of_table NoField = limits (λ z. []) free free
of_table (Field tag first part more) =
    let one = of_part part in
    let others = of_table more in
    limits (λ z. one.size z.0 ∷ others.size z.1) (λ z. one.short z.0 × others.short z.1) (λ z. one.held z.0 × others.held z.1)

abbrev pub of_record_layout : {X : Type 0} → RecordLayout X → Limits X ℕ
of_record_layout (Of s) = of_schema s
of_record_layout (Flag first) = limits (λ b. 1) free free
of_record_layout (a ▹ b) = in_sequence (of_record_layout a) (of_record_layout b)
of_record_layout (Directories first a) =
    let others = of_record_layout a in
    limits (λ x. list_bytes 4 x.0 + others.size x.1 + list_bytes 16 x.0) (λ x. IsShort x.0 × others.short x.1) (λ x. AreInts x.0 × others.held x.1)
of_record_layout (Tagged table) = let all = of_table table in limits (λ z. tags_bytes (all.size z)) all.short all.held
