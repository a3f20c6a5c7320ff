-- Reading from the front of some bytes: the value and the bytes after it, or the first fault. The order of faults is
-- this project's own.
use Rattle.std.specs.Prelude.{◌≡◌, ℕ, ℤ, pos, negsuc, zero, suc, ◌+◌, ◌-◌, ◌*◌, ◌/◌, ◌%◌, ◌^◌, ◌≤◌, Bool, false, not, List, [], ◌∷◌, length, take, drop, Option, Some, None, Result, Ok, Err, ◌==◌, nat_lt, nat_le, if◌then◌else◌, MatchResult, cond}
use Rattle.std.specs.Int.{Width, w8, w64, byte_len, from_be_bytes, cast_signed}
use Rattle.std.specs.Str.{is_utf8}
use Rattle.kr_wire.specs.declared.WireFault.{WireFault}
use Rattle.kr_wire.specs.declared.WireFault.TheVariants.{Short, Overlong, TooBig, BadTag, BadText, BadNull}

-- the second step, on what the first gave
infixl 10 ◌>>=◌
abbrev pub ◌>>=◌ : {A B E : Type 0} → Result A E → (A → Result B E) → Result B E
(Ok x) >>= f = f x
(Err e) >>= f = Err e

-- this fault where the test holds, and else the rest
infix 5 refuse◌when◌else◌
abbrev pub refuse◌when◌else◌ : {X E : Type 0} → E → Bool → Result X E → Result X E
refuse fault when test else rest = cond test (Err fault) rest

-- a value, and the bytes after it
abbrev pub Read : Type 0 → Type 0
Read X = Result (X × List ℕ) WireFault

-- A call that reads at a place answers what reading gives there: the value seen by view and the next place, or the fault.
abbrev pub Reads : {X Y : Type 0} → (X → Y) → Result (X × ℕ) WireFault → List ℕ → Read Y → Type 0
Reads view result bytes read = MatchResult result (λ x. (read ≡ Ok (view x.0, drop x.1 bytes)) × (x.1 ≤ length bytes)) (λ e. read ≡ Err e)

-- where nothing is kept of what is read: the place behind it, or the first fault
abbrev pub Skips : Result (Unit {0} × List ℕ) WireFault → List ℕ → Result ℕ WireFault → Type 0
Skips read bytes result = MatchResult result (λ next. read ≡ Ok (tt, drop next bytes)) (λ e. read ≡ Err e)

-- ---- numbers

-- so many bytes
abbrev pub piece_at : ℕ → List ℕ → Read (List ℕ)
piece_at len bytes = refuse Short when nat_lt (length bytes) len else Ok (take len bytes, drop len bytes)

-- so many bits, high byte first
abbrev pub number_at : Width → List ℕ → Read ℕ
number_at w bytes = do
  piece ← piece_at (byte_len w) bytes
  Ok (from_be_bytes w piece.0, piece.1)

-- a number with a sign, as two's complement
abbrev pub signed_at : Width → List ℕ → Read ℤ
signed_at w bytes = do
  bits ← number_at w bytes
  Ok (cast_signed w bits.0, bits.1)

-- a byte, of which 0 alone is false
abbrev pub bool_at : List ℕ → Read Bool
bool_at bytes = do
  byte ← number_at w8 bytes
  Ok (not (byte.0 == 0), byte.1)

-- an id: its high and its low 64 bits
unfoldable pub id_at : List ℕ → Read ℕ
id_at bytes = do
  high ← number_at w64 bytes
  low ← number_at w64 high.1
  Ok (high.0 * 2 ^ 64 + low.0, low.1)

-- The groups of seven bits after the first. With no more room the group is at most `top`. A group of 0 isn't the last.
abbrev pub groups_at : ℕ → ℕ → List ℕ → Read ℕ
groups_at top room [] = Err Short
groups_at top zero (b ∷ bytes) =
    refuse TooBig when nat_lt top b else
    refuse Overlong when b == 0 else
    Ok (b, bytes)
groups_at top (suc room) (b ∷ bytes) =
    if nat_lt b 128 then (refuse Overlong when b == 0 else Ok (b, bytes))
    else (groups_at top room bytes >>= λ high. Ok (b - 128 + 128 * high.0, high.1))

-- a number with the low groups first
abbrev pub varint_at : ℕ → ℕ → List ℕ → Read ℕ
varint_at top room [] = Err Short
varint_at top room (b ∷ bytes) =
    if nat_lt b 128 then Ok (b, bytes)
    else (groups_at top room bytes >>= λ high. Ok (b - 128 + 128 * high.0, high.1))

-- at most five bytes, for 32 bits
unfoldable pub uvarint_at : List ℕ → Read ℕ
uvarint_at bytes = varint_at 15 3 bytes

-- at most ten bytes, for 64 bits
unfoldable pub uvarlong_at : List ℕ → Read ℕ
uvarlong_at bytes = varint_at 1 8 bytes

-- the number that zigzag writes so
abbrev pub unzigzag : ℕ → ℤ
unzigzag n = if n % 2 == 0 then pos (n / 2) else negsuc (n / 2)

-- in zigzag form, of 32 bits
unfoldable pub varint32_at : List ℕ → Read ℤ
varint32_at bytes = do
  n ← uvarint_at bytes
  Ok (unzigzag n.0, n.1)

-- the same of 64 bits
unfoldable pub varint64_at : List ℕ → Read ℤ
varint64_at bytes = do
  n ← uvarlong_at bytes
  Ok (unzigzag n.0, n.1)

-- ---- texts

-- so many bytes of UTF-8
abbrev pub utf8_at : ℕ → List ℕ → Read (List ℕ)
utf8_at len bytes = do
  piece ← piece_at len bytes
  refuse BadText when not (is_utf8 piece.0) else Ok piece

-- a length plus one, and the text
unfoldable pub text_at : List ℕ → Read (List ℕ)
text_at bytes = do
  size ← uvarint_at bytes
  refuse BadNull when size.0 == 0 else utf8_at (size.0 - 1) size.1

-- 0 for null, or a length plus one and the text
unfoldable pub text_or_null_at : List ℕ → Read (Option (List ℕ))
text_or_null_at bytes = do
  size ← uvarint_at bytes
  if size.0 == 0 then Ok (None, size.1) else
      (utf8_at (size.0 - 1) size.1 >>= λ text. Ok (Some text.0, text.1))

-- ---- tagged fields

-- data that are all of a field; want of bytes and bytes left over are BadTag
abbrev pub whole_field : {X : Type 0} → Read X → Result X WireFault
whole_field (Ok x) = refuse BadTag when nat_lt 0 (length x.1) else Ok x.0
whole_field (Err Short) = Err BadTag
whole_field (Err Overlong) = Err Overlong
whole_field (Err TooBig) = Err TooBig
whole_field (Err BadTag) = Err BadTag
whole_field (Err BadText) = Err BadText
whole_field (Err BadNull) = Err BadNull

-- what a known field makes of what was read before, from the field's bytes alone
abbrev pub Known : Type 0 → Type 0
Known X = ℕ → Option (X → List ℕ → Result X WireFault)

-- an unknown field is skipped
abbrev pub field_of : {X : Type 0} → Option (X → List ℕ → Result X WireFault) → X → List ℕ → Result X WireFault
field_of None before bytes = Ok before
field_of (Some read) before bytes = read before bytes

-- data that are all of one field, and what they make of the value
abbrev pub field_as : {X V : Type 0} → (List ℕ → Read V) → (X → V → X) → X → List ℕ → Result X WireFault
field_as read put before bytes = whole_field (read bytes) >>= λ v. Ok (put before v)

-- the tag isn't above the last one
abbrev pub is_falling : Option ℕ → ℕ → Bool
is_falling None tag = false
is_falling (Some last) tag = nat_le tag last

-- a tag and the size of its data
abbrev pub tag_at : Option ℕ → List ℕ → Read (ℕ × ℕ)
tag_at last bytes = do
  tag ← uvarint_at bytes
  refuse BadTag when is_falling last tag.0 else do
    size ← uvarint_at tag.1
    refuse Short when nat_lt (length size.1) size.0 else Ok ((tag.0, size.0), size.1)

-- so many fields
unfoldable pub fields_at : {X : Type 0} → Known X → ℕ → Option ℕ → X → List ℕ → Read X
fields_at known zero last before bytes = Ok (before, bytes)
fields_at known (suc count) last before bytes = do
  tag ← tag_at last bytes
  after ← field_of (known tag.0.0) before (take tag.0.1 tag.1)
  fields_at known count (Some tag.0.0) after (drop tag.0.1 tag.1)

-- a count, and the fields
unfoldable pub tags_at : {X : Type 0} → Known X → X → List ℕ → Read X
tags_at known before bytes = do
  count ← uvarint_at bytes
  fields_at known count.0 None before count.1

-- no field is known
abbrev pub none_known : Known (Unit {0})
none_known tag = None

-- ---- lists

-- so many elements
unfoldable pub elements_at : {X : Type 0} → (List ℕ → Read X) → ℕ → List ℕ → Read (List X)
elements_at one zero bytes = Ok ([], bytes)
elements_at one (suc count) bytes = do
  first ← one bytes
  others ← elements_at one count first.1
  Ok (first.0 ∷ others.0, others.1)

-- an element takes a byte at least, so a count past the bytes that are left is refused
abbrev pub room_at : ℕ → List ℕ → Read ℕ
room_at count bytes = refuse Short when nat_lt (length bytes) count else Ok (count, bytes)

-- a count plus one
unfoldable pub count_at : List ℕ → Read ℕ
count_at bytes = do
  size ← uvarint_at bytes
  refuse BadNull when size.0 == 0 else room_at (size.0 - 1) size.1

-- 0 for null, or a count plus one
unfoldable pub count_or_null_at : List ℕ → Read (Option ℕ)
count_or_null_at bytes = do
  size ← uvarint_at bytes
  if size.0 == 0 then Ok (None, size.1) else
      (room_at (size.0 - 1) size.1 >>= λ count. Ok (Some count.0, count.1))

-- a count, and the elements
unfoldable pub list_at : {X : Type 0} → (List ℕ → Read X) → List ℕ → Read (List X)
list_at one bytes = do
  count ← count_at bytes
  elements_at one count.0 count.1

-- no elements of null
abbrev pub elements_or_null_at : {X : Type 0} → (List ℕ → Read X) → Option ℕ → List ℕ → Read (Option (List X))
elements_or_null_at one None bytes = Ok (None, bytes)
elements_or_null_at one (Some count) bytes = do
  elements ← elements_at one count bytes
  Ok (Some elements.0, elements.1)

-- null, or a count and the elements
unfoldable pub list_or_null_at : {X : Type 0} → (List ℕ → Read X) → List ℕ → Read (Option (List X))
list_or_null_at one bytes = do
  count ← count_or_null_at bytes
  elements_or_null_at one count.0 count.1

-- ---- structures

-- one value, and behind it another
infixr 6 ◌followed_by◌
abbrev pub ◌followed_by◌ : {X Y E : Type 0} → (List ℕ → Result (X × List ℕ) E) → (List ℕ → Result (Y × List ℕ) E) → List ℕ → Result ((X × Y) × List ℕ) E
(first followed_by second) bytes = first bytes >>= λ x. (second x.1 >>= λ y. Ok ((x.0, y.0), y.1))

-- a structure, from its fields
abbrev pub structure_at : {X Y E : Type 0} → (X → Y) → (List ℕ → Result (X × List ℕ) E) → List ℕ → Result (Y × List ℕ) E
structure_at of fields bytes = fields bytes >>= λ x. Ok (of x.0, x.1)
