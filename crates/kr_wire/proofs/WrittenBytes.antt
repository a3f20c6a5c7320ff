-- What is written is bytes: each number in it is below 256.
use Rattle.std.proofs.Common.{◌≡◌, ℕ, zero, suc, ◌+◌, ◌*◌, ◌/◌, ◌%◌, ◌^◌, ◌<◌, inl, inr, Bool, true, false, List, [], ◌∷◌, ◌++◌, length, subst, arith, lit<}
use Rattle.std.specs.Prelude.{ℤ, pos, negsuc, IsUtf8, FitsSigned}
use Rattle.std.specs.List.{AllByRecursion, flat_map}
use Rattle.std.specs.Int.{Width, w32, w64, byte_len, byte_at, bytes_high_first, cast_unsigned}
use Rattle.std.proofs.lemmas.Bool.{and_parts, lt-ltb, le-ltb, cases_lt}
use Rattle.std.proofs.Math.Nat.{pow-succ'}
use Rattle.std.proofs.Math.Utf8.{scalar, scalars, scalar_cases, next, encode, encodes}
use Rattle.kr_wire.specs.Laws.{IsBytes}
use Rattle.kr_wire.specs.Spelling.{groups, uvarint, varint32, varint64, number, signed, bool, id, text, field, tags, list}

-- ---- bytes one after the other

-- IsBytes as a record, so that a proof names its list
pub record OfBytes (bytes : List ℕ) : Type 0 where
  pub each : IsBytes bytes

pub none_fits : OfBytes []
none_fits = record { each = λ i. lit< tt }

with_byte : (b : ℕ) (bytes : List ℕ) → b < 256 → IsBytes bytes → IsBytes (b ∷ bytes)
with_byte b bytes small fit zero = small
with_byte b bytes small fit (suc i) = fit i

more_fits : (b : ℕ) (bytes : List ℕ) → b < 256 → OfBytes bytes → OfBytes (b ∷ bytes)
more_fits b bytes small fit = record { each = with_byte b bytes small fit.each }

both_bytes : (left right : List ℕ) → IsBytes left → IsBytes right → IsBytes (left ++ right)
both_bytes [] right before behind = behind
both_bytes (b ∷ left) right before behind = with_byte b (left ++ right) (before 0) (both_bytes left right (λ i. before (suc i)) behind)

-- one part after the other
infixl 6 ◌and◌
pub ◌and◌ : {left right : List ℕ} → OfBytes left → OfBytes right → OfBytes (left ++ right)
before and behind = record { each = both_bytes _ _ before.each behind.each }

one_fits : (b : ℕ) → b < 256 → OfBytes (b ∷ [])
one_fits b small = more_fits b [] small none_fits

-- ---- numbers

byte_small : (k n : ℕ) → byte_at k n < 256
byte_small zero n = omega arith
byte_small (suc k) n = omega arith

high_first : (k n : ℕ) → OfBytes (bytes_high_first k n)
high_first zero n = none_fits
high_first (suc k) n = more_fits (byte_at k n) (bytes_high_first k n) (byte_small k n) (high_first k n)

pub number_fits : (w : Width) (n : ℕ) → OfBytes (number w n)
unfolding number
number_fits w n = high_first (byte_len w) n

pub signed_fits : (w : Width) (z : ℤ) → OfBytes (signed w z)
unfolding signed
signed_fits w z = high_first (byte_len w) (cast_unsigned w z)

pub bool_fits : (b : Bool) → OfBytes (bool b)
bool_fits true = one_fits 1 (lit< tt)
bool_fits false = one_fits 0 (lit< tt)

pub id_fits : (n : ℕ) → OfBytes (id n)
unfolding id
id_fits n = high_first 8 (n / 2 ^ 64) and high_first 8 (n % 2 ^ 64)

-- ---- numbers in groups of seven bits

groups_fits : (room n : ℕ) → n < 128 ^ suc room → OfBytes (groups room n)
groups_fits zero n fits = one_fits n (omega arith)
groups_fits (suc room) n fits = elim (cases_lt n 128) [
  | inl lt ↦ rw (lt-ltb n 128 lt) (one_fits n (omega arith))
  | inr le ↦
      let fits' : n < 128 * 128 ^ suc room = rw pow-succ' at fits in
      let below : n / 128 < 128 ^ suc room = omega arith in
      let byte : 128 + n % 128 < 256 = omega arith in
      rw (le-ltb n 128 le) (more_fits (128 + n % 128) (groups room (n / 128)) byte (groups_fits room (n / 128) below))
]

pub uvarint_fits : (n : ℕ) → n < 2 ^ 32 → OfBytes (uvarint n)
unfolding uvarint
uvarint_fits n fits = groups_fits 4 n (omega arith)

pub varint32_fits : (z : ℤ) → FitsSigned w32 z → OfBytes (varint32 z)
unfolding varint32
varint32_fits (pos n) fits = let h = fits.sfits in groups_fits 4 (2 * n) (omega arith)
varint32_fits (negsuc n) fits = let h = fits.sfits in groups_fits 4 (2 * n + 1) (omega arith)

pub varint64_fits : (z : ℤ) → FitsSigned w64 z → OfBytes (varint64 z)
unfolding varint64
varint64_fits (pos n) fits = let h = fits.sfits in groups_fits 9 (2 * n) (omega arith)
varint64_fits (negsuc n) fits = let h = fits.sfits in groups_fits 9 (2 * n + 1) (omega arith)

-- ---- texts

code_small : (c : ℕ) → scalar c ≡ true → c < 1114112
code_small c is = elim (scalar_cases c is) [ inl low ↦ omega arith | inr high ↦ let h = high.1 in omega arith ]

-- a byte that isn't the first of its character
next_fits : (n : ℕ) (bytes : List ℕ) → OfBytes bytes → OfBytes (next n ∷ bytes)
next_fits n bytes fit = more_fits (next n) bytes (omega arith) fit

char_fits : (c : ℕ) → c < 1114112 → OfBytes (encode c)
unfolding encode
char_fits c small = elim (cases_lt c 128) [
  | inl a ↦ rw (lt-ltb c 128 a) (one_fits c (omega arith))
  | inr a ↦ rw (le-ltb c 128 a) (elim (cases_lt c 2048) [
    | inl b ↦ let lead : 192 + c / 64 < 256 = omega arith in rw (lt-ltb c 2048 b) (more_fits (192 + c / 64) _ lead (next_fits c _ none_fits))
    | inr b ↦ rw (le-ltb c 2048 b) (elim (cases_lt c 65536) [
      | inl d ↦ let lead : 224 + c / 4096 < 256 = omega arith in rw (lt-ltb c 65536 d) (more_fits (224 + c / 4096) _ lead (next_fits (c / 64) _ (next_fits c _ none_fits)))
      | inr d ↦
          let lead : 240 + c / 262144 < 256 = omega arith in
          rw (le-ltb c 65536 d) (more_fits (240 + c / 262144) _ lead (next_fits (c / 4096) _ (next_fits (c / 64) _ (next_fits c _ none_fits))))
    ])
  ])
]

chars_fits : (cs : List ℕ) → scalars cs ≡ true → OfBytes (encodes cs)
chars_fits [] are = none_fits
chars_fits (c ∷ cs) are =
    let p = and_parts (scalar c) (scalars cs) are in
    char_fits c (code_small c p.0) and chars_fits cs p.1

pub utf8_fits : (bytes : List ℕ) → IsUtf8 bytes → OfBytes bytes
utf8_fits bytes is = subst OfBytes is.1.1 (chars_fits is.0 is.1.0)

pub text_fits : (bytes : List ℕ) → IsUtf8 bytes → length bytes < 2 ^ 31 → OfBytes (text bytes)
text_fits bytes is short = uvarint_fits (length bytes + 1) (omega arith) and utf8_fits bytes is

pub null_fits : OfBytes (uvarint 0)
null_fits = uvarint_fits 0 (lit< tt)

-- ---- lists and tagged fields

pub each_fits : {X : Type 0} (one : X → List ℕ) (xs : List X) → AllByRecursion (λ x. OfBytes (one x)) xs → OfBytes (flat_map one xs)
each_fits one [] fit = none_fits
each_fits one (x ∷ xs) fit = fit.0 and each_fits one xs fit.1

pub list_fits : {X : Type 0} (one : X → List ℕ) (xs : List X) → length xs < 2 ^ 31 → AllByRecursion (λ x. OfBytes (one x)) xs → OfBytes (list one xs)
list_fits one xs short fit = uvarint_fits (length xs + 1) (omega arith) and each_fits one xs fit

pub field_fits : (tag : ℕ) (d : List ℕ) → tag < 2 ^ 32 → length d < 2 ^ 32 → OfBytes d → OfBytes (field (tag, d))
field_fits tag d low short fit = uvarint_fits tag low and uvarint_fits (length d) short and fit

pub tags_fits : (fields : List (ℕ × List ℕ)) → length fields < 2 ^ 32 → AllByRecursion (λ f. OfBytes (field f)) fields → OfBytes (tags fields)
tags_fits fields few fit = uvarint_fits (length fields) few and each_fits field fields fit
