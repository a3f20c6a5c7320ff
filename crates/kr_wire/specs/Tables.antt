-- The tagged fields that a structure knows (KIP-482), as one table: of each its tag, the first version that has it, and its data.
use Rattle.std.specs.Prelude.{◌≡◌, ℕ, ℤ, pos, Bool, true, ◌&&◌, ◌==◌, cond, nat_lt, List, [], ◌++◌, length, Option, Some, None, Result, Ok, if◌then◌else◌}
use Rattle.std.specs.Ordering.{int_eq}
use Rattle.std.specs.Option.{option_map, unwrap_or}
use Rattle.std.specs.Int.{w8, w32}
use Rattle.kr_wire.specs.Grammar.{IsSigned, IsId, IsListOrNull, IsTextOrNull, IsDropped, IfTaggedSince, includes}
use Rattle.kr_wire.specs.declared.WireFault.{WireFault}
use Rattle.kr_wire.specs.Reading.{◌>>=◌, Read, Known, field_as, structure_at, signed_at, id_at, list_or_null_at, text_or_null_at}
use Rattle.kr_wire.specs.Spelling.{signed, list, text, tagged}

-- ---- the data of a field

-- a number that is left out at its default
abbrev pub unless_default : ℤ → ℤ → Option ℤ
unless_default default n = if int_eq n default then None else Some n

pub data Part : Type 0 → Type 1 where
  -- left out at 0
  Int8NotZero : Part ℤ
  -- this number is none
  Int8OrNone : ℤ → Part (Option ℤ)
  Int32OrNone : ℤ → Part (Option ℤ)
  Int32sOrNull : Part (Option (List ℤ))
  -- null is the empty list, which is left out
  Int32sOrEmpty : Part (List ℤ)
  -- null is none, which is left out
  TextOrNone : Part (Option (List ℕ))
  -- dropped when they are read, and not written
  UuidsDropped : Part (Unit {0})

-- a number, none at its default
pub record IsUnless (One : ℤ → List ℕ → Type 0) (default : ℤ) (o : Option ℤ) (bytes : List ℕ) : Type 0 where
  pub n : ℤ
  pub is : o ≡ unless_default default n
  pub spelled : One n bytes

-- ids of which null and none are both the empty list
pub record IsIdsOrEmpty (ids : List ℤ) (bytes : List ℕ) : Type 0 where
  pub listed : Option (List ℤ)
  pub is : ids ≡ unwrap_or listed []
  pub spelled : IsListOrNull (IsSigned w32) listed bytes

abbrev pub IsTaggedPart : {P : Type 0} → Part P → P → List ℕ → Type 0
IsTaggedPart Int8NotZero = IsSigned w8
IsTaggedPart (Int8OrNone default) = IsUnless (IsSigned w8) default
IsTaggedPart (Int32OrNone default) = IsUnless (IsSigned w32) default
IsTaggedPart Int32sOrNull = IsListOrNull (IsSigned w32)
IsTaggedPart Int32sOrEmpty = IsIdsOrEmpty
IsTaggedPart TextOrNone = IsTextOrNull
IsTaggedPart UuidsDropped = λ u. IsDropped (IsListOrNull IsId)

abbrev pub part_at : {P : Type 0} → Part P → List ℕ → Read P
part_at Int8NotZero = signed_at w8
part_at (Int8OrNone default) = structure_at (unless_default default) (signed_at w8)
part_at (Int32OrNone default) = structure_at (unless_default default) (signed_at w32)
part_at Int32sOrNull = list_or_null_at (signed_at w32)
part_at Int32sOrEmpty = structure_at (λ o. unwrap_or o []) (list_or_null_at (signed_at w32))
part_at TextOrNone = text_or_null_at
part_at UuidsDropped = structure_at (λ o. tt) (list_or_null_at id_at)

-- what the part is where the field is absent
abbrev pub absent : {P : Type 0} → Part P → P
absent Int8NotZero = pos 0
absent (Int8OrNone default) = None
absent (Int32OrNone default) = None
absent Int32sOrNull = None
absent Int32sOrEmpty = []
absent TextOrNone = None
absent UuidsDropped = tt

abbrev pub ids : List ℤ → List ℕ
ids xs = list (signed w32) xs

-- a list that is left out where it is empty
abbrev pub unless_empty : List ℤ → Option (List ℤ)
unless_empty xs = if length xs == 0 then None else Some xs

-- the data that are written, if any
abbrev pub written_data : {P : Type 0} → Part P → P → Option (List ℕ)
written_data Int8NotZero n = option_map (signed w8) (unless_default (pos 0) n)
written_data (Int8OrNone default) o = option_map (signed w8) o
written_data (Int32OrNone default) o = option_map (signed w32) o
written_data Int32sOrNull o = option_map ids o
written_data Int32sOrEmpty xs = option_map ids (unless_empty xs)
written_data TextOrNone o = option_map text o
written_data UuidsDropped u = None

-- ---- fields

pub data Table : Type 0 → Type 1 where
  NoField : Table (Unit {0})
  Field : {P Y : Type 0} → (tag first : ℕ) → Part P → Table Y → Table (P × Y)

-- what the fields of a version stand for
abbrev pub Are : {Z : Type 0} → Table Z → ℕ → Z → List (ℕ × List ℕ) → Type 0
Are NoField version z fields = Unit {0}
Are (Field tag first part more) version z fields = IfTaggedSince (includes first version) tag (IsTaggedPart part z.0) (z.0 ≡ absent part) fields × Are more version z.1 fields

abbrev pub absents : {Z : Type 0} → Table Z → Z
absents NoField = tt
absents (Field tag first part more) = (absent part, absents more)

-- what a field of a version with this tag makes of the parts that were read before
abbrev pub set_part : {Z : Type 0} → Table Z → ℕ → ℕ → Z → List ℕ → Result Z WireFault
set_part NoField version t z bytes = Ok z
set_part (Field tag first part more) version t z bytes =
    cond (includes first version && t == tag) (field_as (part_at part) (λ z p. (p, z.1)) z bytes) (set_part more version t z.1 bytes >>= λ others. Ok (z.0, others))

abbrev pub known : {Z : Type 0} → Table Z → ℕ → Known Z
known table version tag = Some (set_part table version tag)

-- each tag is above the last
abbrev pub are_above : {Z : Type 0} → ℕ → Table Z → Bool
are_above last NoField = true
are_above last (Field tag first part more) = nat_lt last tag && are_above tag more

abbrev pub are_rising : {Z : Type 0} → Table Z → Bool
are_rising NoField = true
are_rising (Field tag first part more) = are_above tag more

-- the fields that are written
abbrev pub written_fields : {Z : Type 0} → Table Z → Z → List (ℕ × List ℕ)
written_fields NoField z = []
written_fields (Field tag first part more) z = tagged tag (written_data part z.0) ++ written_fields more z.1
