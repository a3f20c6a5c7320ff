-- What is written stands for its value.
use Rattle.std.proofs.Common.{◌≡◌, ℕ, zero, suc, ◌+◌, ◌*◌, ◌/◌, ◌%◌, ◌^◌, ◌<◌, ◌≤◌, inl, inr, true, false, List, [], ◌∷◌, length, append_assoc, Option, Some, None, refl, sym, arith, lit<}
use Rattle.std.specs.Prelude.{ℤ, pos, negsuc, Bool, IsUtf8, FitsSigned, MatchOption}
use Rattle.std.specs.List.{AllByRecursion, flat_map}
use Rattle.std.specs.Int.{Width, w8, w16, w32, w64, w128, to_be_bytes}
use Rattle.std.proofs.lemmas.Bool.{lt-ltb, le-ltb, cases_lt}
use Rattle.std.proofs.lemmas.List.Elements.{recursion_from_All}
use Rattle.std.proofs.lemmas.Int.{to_z-of_z}
use Rattle.std.proofs.lemmas.Nat.{from_be_bytes-to_be_bytes_2, from_be_bytes-to_be_bytes_4, from_be_bytes-to_be_bytes_8}
use Rattle.std.proofs.Math.Facts.{Fits-of_z}
use Rattle.std.proofs.Math.Nat.{pow-succ'}
use mir.Val.{bits}
use Rattle.kr_wire.specs.Spelling.{groups, uvarint, varint32, varint64, number, signed, bool, text, text_or_null, id, list, list_or_null, field, tags}
use Rattle.kr_wire.specs.Grammar.{IsVarint, IsUvarint, IsVarint32, IsVarint64, IsNumber, IsSigned, IsBool, IsId, IsText, IsTextOrNull, Each, IsList, IsListOrNull, AreRising, IsField, IsTags, NoTags}
use Rattle.kr_wire.specs.Laws.{IsShortList, IsShortListOrNull}
use Rattle.kr_wire.proofs.ReadingLaws.{joined}
use Rattle.kr_wire.proofs.Numbers.{more}

groups_spelled : (room n : ℕ) → n < 128 ^ suc room → IsVarint n (groups room n)
groups_spelled zero n fits = (fits, refl)
groups_spelled (suc room) n fits = elim (cases_lt n 128) [
  | inl lt ↦ rw (lt-ltb n 128 lt) (lt, refl)
  | inr le ↦
      let fits' : n < 128 * 128 ^ suc room = rw pow-succ' at fits in
      let below : n / 128 < 128 ^ suc room = omega arith in
      let big : 128 ≤ 128 + n % 128 = omega arith in
      let byte : 128 + n % 128 < 256 = omega arith in
      let above : 0 < n / 128 = omega arith in
      let whole : n + 128 ≡ 128 + n % 128 + 128 * (n / 128) = omega arith in
      rw (le-ltb n 128 le) (more n (128 + n % 128) (n / 128) (groups room (n / 128)) big byte above whole (groups_spelled room (n / 128) below))
]

pub uvarint_spelled : (n : ℕ) → n < 2 ^ 32 → IsUvarint n (uvarint n)
unfolding uvarint
uvarint_spelled n fits = record { fits = fits; spelled = groups_spelled 4 n (omega arith) }

-- a number with a sign, from its zigzag
pub varint32_spelled : (z : ℤ) → FitsSigned w32 z → IsVarint32 z (varint32 z)
unfolding varint32
varint32_spelled (pos n) fits = let h = fits.sfits in record { fits = omega arith; spelled = groups_spelled 4 (2 * n) (omega arith) }
varint32_spelled (negsuc n) fits = let h = fits.sfits in record { fits = omega arith; spelled = groups_spelled 4 (2 * n + 1) (omega arith) }

pub varint64_spelled : (z : ℤ) → FitsSigned w64 z → IsVarint64 z (varint64 z)
unfolding varint64
varint64_spelled (pos n) fits = let h = fits.sfits in record { fits = omega arith; spelled = groups_spelled 9 (2 * n) (omega arith) }
varint64_spelled (negsuc n) fits = let h = fits.sfits in record { fits = omega arith; spelled = groups_spelled 9 (2 * n + 1) (omega arith) }

-- up to 64 bits
pub number_spelled : (w : Width) (n : ℕ) → bits w ≤ 64 → n < 2 ^ bits w → IsNumber w n (number w n)
unfolding number
number_spelled w8 n few fits = record { long = refl; spelled = omega arith }
number_spelled w16 n few fits = record { long = refl; spelled = sym (from_be_bytes-to_be_bytes_2 n fits) }
number_spelled w32 n few fits = record { long = refl; spelled = sym (from_be_bytes-to_be_bytes_4 n fits) }
number_spelled w64 n few fits = record { long = refl; spelled = sym (from_be_bytes-to_be_bytes_8 n fits) }
number_spelled w128 n few fits = absurd (omega arith)

pub signed_spelled : (w : Width) (z : ℤ) → bits w ≤ 64 → FitsSigned w z → IsSigned w z (signed w z)
unfolding signed number
signed_spelled w z few fits = record { bits = _; signed = sym (to_z-of_z w z fits); spelled = number_spelled w _ few (Fits-of_z fits).fits }

pub bool_spelled : (b : Bool) → IsBool b (bool b)
bool_spelled true = record { byte = 1; is = refl; spelled = record { long = refl; spelled = refl } }
bool_spelled false = record { byte = 0; is = refl; spelled = record { long = refl; spelled = refl } }

wide_spelled : (n : ℕ) → n < 2 ^ 64 → IsNumber w64 n (to_be_bytes w64 n)
unfolding number
wide_spelled n fits = number_spelled w64 n (omega arith) fits

pub id_spelled : (n : ℕ) → n < 2 ^ 128 → IsId n (id n)
unfolding id
id_spelled n fits = record {
  high = n / 2 ^ 64;
  low = n % 2 ^ 64;
  whole = omega arith;
  spelled = joined _ _ (wide_spelled (n / 2 ^ 64) (omega arith)) (wide_spelled (n % 2 ^ 64) (omega arith));
}

pub text_spelled : (bytes : List ℕ) → IsUtf8 bytes → length bytes < 2 ^ 31 → IsText bytes (text bytes)
text_spelled bytes utf8 short = record { utf8 = utf8; spelled = joined _ _ (uvarint_spelled (length bytes + 1) (omega arith)) refl }

pub no_tags_spelled : NoTags (tags [])
no_tags_spelled = record { fields = []; rising = tt; holds = tt; spelled = joined _ _ (uvarint_spelled 0 (omega arith)) refl }

pub text_or_null_spelled : (o : Option (List ℕ)) → MatchOption o (Unit {0}) (λ text. IsUtf8 text × (length text < 2 ^ 31)) → IsTextOrNull o (text_or_null o)
text_or_null_spelled None fits = uvarint_spelled 0 (omega arith)
text_or_null_spelled (Some bytes) fits = text_spelled bytes fits.0 fits.1

-- ---- lists and tagged fields

pub each_spelled : {X : Type 0} (One : X → List ℕ → Type 0) (one : X → List ℕ) (xs : List X) → AllByRecursion (λ x. One x (one x)) xs → Each One xs (flat_map one xs)
each_spelled One one [] stand = refl
each_spelled One one (x ∷ xs) stand = joined _ _ stand.0 (each_spelled One one xs stand.1)

pub list_spelled : {X : Type 0} (One : X → List ℕ → Type 0) (one : X → List ℕ) (xs : List X) → length xs < 2 ^ 31 → AllByRecursion (λ x. One x (one x)) xs → IsList One xs (list one xs)
list_spelled One one xs short stand = joined _ _ (uvarint_spelled (length xs + 1) (omega arith)) (each_spelled One one xs stand)

-- of elements that stand where they fit
module _ {X : Type 0} (One : X → List ℕ → Type 0) (one : X → List ℕ) (Fits : X → Type 0) (stands : (x : X) → Fits x → One x (one x)) where
  stand : (xs : List X) → AllByRecursion Fits xs → AllByRecursion (λ x. One x (one x)) xs
  stand [] fits = tt
  stand (x ∷ xs) fits = (stands x fits.0, stand xs fits.1)

  pub list_stands : (xs : List X) → IsShortList Fits xs → IsList One xs (list one xs)
  list_stands xs fits = list_spelled One one xs fits.short (stand xs (recursion_from_All Fits xs fits.each))

  pub list_or_null_stands : (o : Option (List X)) → IsShortListOrNull Fits o → IsListOrNull One o (list_or_null one o)
  list_or_null_stands None fits = uvarint_spelled 0 (lit< tt)
  list_or_null_stands (Some xs) fits = list_stands xs fits

-- a tag and a size that fit
abbrev pub IsShortField : ℕ × List ℕ → Type 0
IsShortField f = (f.0 < 2 ^ 32) × (length f.1 < 2 ^ 32)

fields_spelled : (fields : List (ℕ × List ℕ)) → AllByRecursion IsShortField fields → AllByRecursion (λ f. IsField f (field f)) fields
fields_spelled [] short = tt
fields_spelled (f ∷ fields) short =
    (rw append_assoc (joined _ _ (uvarint_spelled f.0 short.0.0) (joined _ _ (uvarint_spelled (length f.1) short.0.1) refl)), fields_spelled fields short.1)

pub tags_spelled : (Holds : List (ℕ × List ℕ) → Type 0) (fields : List (ℕ × List ℕ)) → AreRising None fields → Holds fields → length fields < 2 ^ 32 → AllByRecursion IsShortField fields
    → IsTags Holds (tags fields)
tags_spelled Holds fields rising holds few short = record {
  fields = fields;
  rising = rising;
  holds = holds;
  spelled = joined _ _ (uvarint_spelled (length fields) few) (each_spelled IsField field fields (fields_spelled fields short));
}
