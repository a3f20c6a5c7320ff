-- A structure or null, as Kafka's flexible versions have it: one byte with a sign, -1 for null, 1 before a structure. That no other
-- byte reads is this project's own.
use Rattle.std.specs.Prelude.{ℕ, ℤ, pos, negsuc, not, List, ◌++◌, Option, Some, None, MatchOption, Ok, if◌then◌else◌}
use Rattle.std.specs.Int.{w8}
use Rattle.std.specs.Ordering.{int_eq}
use Rattle.kr_wire.specs.declared.WireFault.TheVariants.{BadNull}
use Rattle.kr_wire.specs.Grammar.{◌⌢◌, IsSigned}
use Rattle.kr_wire.specs.Reading.{◌>>=◌, Read, refuse◌when◌else◌, signed_at}
use Rattle.kr_wire.specs.Spelling.{signed}

-- what bytes stand for
abbrev pub IsStructureOrNull : {X : Type 0} → (X → List ℕ → Type 0) → Option X → List ℕ → Type 0
IsStructureOrNull One None = IsSigned w8 (negsuc 0)
IsStructureOrNull One (Some x) = IsSigned w8 (pos 1) ⌢ One x

-- behind the byte
abbrev pub marked_at : {X : Type 0} → (List ℕ → Read X) → ℤ → List ℕ → Read (Option X)
marked_at one mark bytes =
    if int_eq mark (negsuc 0) then Ok (None, bytes)
    else (refuse BadNull when not (int_eq mark (pos 1)) else (one bytes >>= λ x. Ok (Some x.0, x.1)))

unfoldable pub structure_or_null_at : {X : Type 0} → (List ℕ → Read X) → List ℕ → Read (Option X)
structure_or_null_at one bytes = signed_at w8 bytes >>= λ mark. marked_at one mark.0 mark.1

-- what is written
abbrev pub structure_or_null : {X : Type 0} → (X → List ℕ) → Option X → List ℕ
structure_or_null one None = signed w8 (negsuc 0)
structure_or_null one (Some x) = signed w8 (pos 1) ++ one x

abbrev pub FitsOrNull : {X : Type 0} → (X → Type 0) → Option X → Type 0
FitsOrNull Fits o = MatchOption o (Unit {0}) Fits
