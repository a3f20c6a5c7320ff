-- Layouts of parts of messages: those of kr_wire, and structures that may be null.
use Rattle.std.specs.Prelude.{ℕ, Bool, ◌&&◌, List, Option}
use Rattle.kr_pages.specs.Nullable.{IsStructureOrNull, structure_or_null_at}
use Rattle.kr_wire.specs.Grammar.{◌⌢◌, IsList, IsListOrNull}
use Rattle.kr_wire.specs.Reading.{Read, ◌followed_by◌, list_at, list_or_null_at}
use Rattle.kr_wire.specs.Schema.{Schema}
use Rattle.kr_wire.specs.Schema as schemas

-- the layout of the values of a type
pub data PartLayout : Type 0 → Type 1 where
  Plain : {X : Type 0} → Schema X → PartLayout X
  StructureOrNull : {X : Type 0} → PartLayout X → PartLayout (Option X)
  Array : {X : Type 0} → PartLayout X → PartLayout (List X)
  ArrayOrNull : {X : Type 0} → PartLayout X → PartLayout (Option (List X))
  -- one after the other
  Both : {X Y : Type 0} → PartLayout X → PartLayout Y → PartLayout (X × Y)

-- the bytes stand for the value
abbrev pub Encodes : {X : Type 0} → PartLayout X → X → List ℕ → Type 0
Encodes (Plain s) = schemas.Is s
Encodes (StructureOrNull l) = IsStructureOrNull (Encodes l)
Encodes (Array l) = IsList (Encodes l)
Encodes (ArrayOrNull l) = IsListOrNull (Encodes l)
Encodes (Both a b) = λ v. Encodes a v.0 ⌢ Encodes b v.1

-- reading the value from the front of some bytes
abbrev pub decoded_at : {X : Type 0} → PartLayout X → List ℕ → Read X
decoded_at (Plain s) = schemas.value_at s
decoded_at (StructureOrNull l) = structure_or_null_at (decoded_at l)
decoded_at (Array l) = list_at (decoded_at l)
decoded_at (ArrayOrNull l) = list_or_null_at (decoded_at l)
decoded_at (Both a b) = decoded_at a followed_by decoded_at b

-- no constant is in it
abbrev pub is_decodable : {X : Type 0} → PartLayout X → Bool
is_decodable (Plain s) = schemas.is_readable s
is_decodable (StructureOrNull l) = is_decodable l
is_decodable (Array l) = is_decodable l
is_decodable (ArrayOrNull l) = is_decodable l
is_decodable (Both a b) = is_decodable a && is_decodable b
