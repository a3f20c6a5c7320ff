-- The laws of numbers, ids and texts.
use Rattle.std.proofs.Common.{◌≡◌, ℕ, zero, suc, ◌+◌, ◌-◌, ◌*◌, ◌/◌, ◌%◌, ◌^◌, ◌<◌, ◌≤◌, inl, inr, true, false, cond, eqb, ltb, List, [], ◌∷◌, ◌++◌, length, take, drop, Option, Some, None, Ok, Err, refl, sym, ap, subst, ◌∙◌, arith, lit≤}
use Rattle.std.specs.Prelude.{ℤ, pos, negsuc, not, IsUtf8}
use Rattle.std.specs.Str.{is_utf8}
use Rattle.std.specs.Int.{Width, w8, w64, byte_len, from_be_bytes, cast_signed}
use Rattle.std.proofs.lemmas.Bool.{lt-ltb, le-ltb, ltb-false, cases_lt}
use Rattle.std.proofs.lemmas.Bool.Decides.{nat_tests}
use Rattle.std.proofs.lemmas.List.{take_at, drop_at, length-append, length-take-le, take-append-drop, append-nil}
use Rattle.std.proofs.lemmas.Str.{IsUtf8-from_is_utf8, is_utf8-from_IsUtf8}
use Rattle.std.proofs.Math.Nat.{pow-succ', pow-le-pow_right, mul-le-mul}
use Rattle.kr_wire.specs.declared.WireFault.TheVariants.{Short, Overlong, TooBig, BadText, BadNull}
use Rattle.kr_wire.specs.Reading.{groups_at, varint_at, uvarint_at, uvarlong_at, unzigzag, varint32_at, varint64_at, piece_at, number_at, signed_at, bool_at, id_at, utf8_at, text_at, text_or_null_at}
use Rattle.kr_wire.specs.Grammar.{Exactly, IsVarint, IsUvarint, IsUvarlong, zigzag, IsVarint32, IsVarint64, IsNumber, IsSigned, IsBool, IsId, IsText, IsTextOrNull}
use Rattle.kr_wire.proofs.Groups.{first_alone, first_more}
use Rattle.kr_wire.proofs.ReadingLaws.{IsBytes, Yields, Law, bind_ok, guard_ok, ok_value, ok_rest, read_ok, sound_then, sound_last, sound_guard, sound_if, sound_as, sound_done, complete_then, complete_last, complete_guard, complete_if_not, complete_bind}

pub not_zero : (n : ℕ) → 0 < n → eqb n 0 ≡ false
not_zero n lt = grind (arith, nat_tests)

pub some : (n : ℕ) → eqb n 0 ≡ false → 0 < n
some n e = grind (arith, nat_tests)

fits_behind : (b : ℕ) (bytes : List ℕ) → IsBytes (b ∷ bytes) → IsBytes bytes
fits_behind b bytes fits i = fits (suc i)

-- ---- groups

-- a byte before what has a front
front_more : (b : ℕ) (bytes front tail rest : List ℕ) → bytes ≡ front ++ tail → tail ≡ rest → b ∷ bytes ≡ b ∷ (front ++ rest)
front_more b bytes front tail rest parts same = ap (λ (t : List ℕ). b ∷ t) (parts ∙ ap (λ (t : List ℕ). front ++ t) same)

-- one group more in front
pub more : (n b high : ℕ) (front : List ℕ) → 128 ≤ b → b < 256 → 0 < high → n + 128 ≡ b + 128 * high → IsVarint high front → IsVarint n (b ∷ front)
more n b high [] big byte above whole is = absurd is
more n b high (c ∷ front) big byte above whole is = (big, byte, (high, above, whole, is))

-- what is read of the groups after the first
record Groups (top room n : ℕ) (bytes rest : List ℕ) : Type 0 where
  front : List ℕ
  parts : bytes ≡ front ++ rest
  is : IsVarint n front
  above : 0 < n
  below : n < (top + 1) * 128 ^ room

last : (top room b : ℕ) (bytes : List ℕ) (n : ℕ) (rest : List ℕ) → b < 128 → b < (top + 1) * 128 ^ room
    → cond (eqb b 0) (Err Overlong) (read_ok b bytes) ≡ Ok (n, rest) → Groups top room n (b ∷ bytes) rest
last top room b bytes n rest small below e =
    let g = guard_ok (eqb b 0) Overlong (read_ok b bytes) (n, rest) e in
    let v : b ≡ n = ok_value _ _ _ _ g.1 in
    let r : bytes ≡ rest = ok_rest _ _ _ _ g.1 in
    let above = some b g.0 in
    record {
      front = b ∷ [];
      parts = ap (λ (t : List ℕ). b ∷ t) r;
      is = (small, sym v);
      above = omega arith;
      below = omega arith;
    }

groups_sound : (top room : ℕ) (bytes : List ℕ) (n : ℕ) (rest : List ℕ) → top < 128 → IsBytes bytes → groups_at top room bytes ≡ Ok (n, rest) → Groups top room n bytes rest
groups_sound top room [] n rest low fits e = absurd cc
groups_sound top zero (b ∷ bytes) n rest low fits e =
    let g = guard_ok (ltb top b) TooBig (cond (eqb b 0) (Err Overlong) (read_ok b bytes)) (n, rest) e in
    let le : b ≤ top = ltb-false _ _ g.0 in
    last top 0 b bytes n rest (omega arith) (omega arith) g.1
groups_sound top (suc room) (b ∷ bytes) n rest low fits e = elim (cases_lt b 128) [
  | inl lt ↦
      let from : 0 ≤ room = omega arith in
      let p : 128 ^ 0 ≤ 128 ^ room = pow-le-pow_right (lit≤ tt) from in
      let one : 1 ≤ top + 1 = omega arith in
      let q : 1 * 128 ^ 0 ≤ (top + 1) * 128 ^ room = mul-le-mul one p in
      let below : b < (top + 1) * 128 ^ suc room = rw pow-succ' (omega arith) in
      last top (suc room) b bytes n rest lt below (rw (lt-ltb b 128 lt) at e)
  | inr le ↦
      let e' = rw (le-ltb b 128 le) at e in
      let k = bind_ok (groups_at top room bytes) (λ high. read_ok (b - 128 + 128 * high.0) high.1) (n, rest) e' in
      let g = groups_sound top room bytes k.0.0 k.0.1 low (fits_behind b bytes fits) k.1 in
      let v : b - 128 + 128 * k.0.0 ≡ n = ok_value _ _ _ _ k.2 in
      let r : k.0.1 ≡ rest = ok_rest _ _ _ _ k.2 in
      let byte : b < 256 = fits 0 in
      let above = g.above in
      let below = g.below in
      record {
        front = b ∷ g.front;
        parts = front_more b bytes g.front k.0.1 rest g.parts r;
        is = more n b k.0.0 g.front le byte above (omega arith) g.is;
        above = omega arith;
        below = rw pow-succ' (omega arith);
      }
]

groups_complete : (top room n : ℕ) (front rest : List ℕ) → top < 128 → 0 < n → n < (top + 1) * 128 ^ room → IsVarint n front → groups_at top room (front ++ rest) ≡ Ok (n, rest)
groups_complete top room n [] rest low above below is = absurd is
groups_complete top zero n (b ∷ []) rest low above below is =
    let e : n ≡ b = is.1 in
    let le : b ≤ top = omega arith in
    rw (le-ltb top b le, not_zero b (omega arith), e) refl
groups_complete top zero n (b ∷ c ∷ front) rest low above below is =
    let high = is.2.0 in
    let big = is.0 in
    let above' = is.2.1 in
    let whole = is.2.2 in
    absurd (omega arith)
groups_complete top (suc room) n (b ∷ []) rest low above below is =
    let e : n ≡ b = is.1 in
    rw (lt-ltb b 128 is.0, not_zero b (omega arith), e) refl
groups_complete top (suc room) n (b ∷ c ∷ front) rest low above below is =
    let big : 128 ≤ b = is.0 in
    let high : ℕ = is.2.0 in
    let above' : 0 < high = is.2.1 in
    let whole : n + 128 ≡ b + 128 * high = is.2.2 in
    let below' : n < (top + 1) * (128 * 128 ^ room) = rw pow-succ' at below in
    let byte : b < 256 = is.1 in
    let fewer : high < (top + 1) * 128 ^ room = omega arith in
    let v : b - 128 + 128 * high ≡ n = omega arith in
    rw (le-ltb b 128 big, groups_complete top room high (c ∷ front) rest low above' fewer is.2.3, v) refl

-- a number of groups that is small enough
abbrev pub IsVarintBelow : ℕ → ℕ → List ℕ → Type 0
IsVarintBelow limit n bytes = (n < limit) × IsVarint n bytes

varint_sound : (top room : ℕ) → top < 128 → (bytes : List ℕ) → IsBytes bytes → Yields (IsVarintBelow ((top + 1) * 128 ^ (room + 1))) bytes (varint_at top room bytes)
varint_sound top room low [] fits n rest e = absurd cc
varint_sound top room low (b ∷ bytes) fits n rest e = elim (cases_lt b 128) [
  | inl lt ↦
      let e' : read_ok b bytes ≡ Ok (n, rest) = rw (lt-ltb b 128 lt) at e in
      let v : b ≡ n = ok_value _ _ _ _ e' in
      let below = first_alone b top room lt in
      record { front = b ∷ []; parts = ap (λ (t : List ℕ). b ∷ t) (ok_rest _ _ _ _ e'); holds = (rw (← v) below, (lt, sym v)) }
  | inr le ↦
      let e' = rw (le-ltb b 128 le) at e in
      let k = bind_ok (groups_at top room bytes) (λ high. read_ok (b - 128 + 128 * high.0) high.1) (n, rest) e' in
      let g = groups_sound top room bytes k.0.0 k.0.1 low (fits_behind b bytes fits) k.1 in
      let v : b - 128 + 128 * k.0.0 ≡ n = ok_value _ _ _ _ k.2 in
      let byte : b < 256 = fits 0 in
      let above = g.above in
      let below = first_more b k.0.0 top room byte g.below in
      record {
        front = b ∷ g.front;
        parts = front_more b bytes g.front k.0.1 rest g.parts (ok_rest _ _ _ _ k.2);
        holds = (rw (← v) below, more n b k.0.0 g.front le byte above (omega arith) g.is);
      }
]

varint_complete : (top room : ℕ) → top < 128 → (n : ℕ) (front rest : List ℕ) → IsVarintBelow ((top + 1) * 128 ^ (room + 1)) n front → varint_at top room (front ++ rest) ≡ Ok (n, rest)
varint_complete top room low n [] rest is = absurd is.1
varint_complete top room low n (b ∷ []) rest is =
    let e : n ≡ b = is.1.1 in
    rw (lt-ltb b 128 is.1.0, e) refl
varint_complete top room low n (b ∷ c ∷ front) rest is =
    let big : 128 ≤ b = is.1.0 in
    let byte : b < 256 = is.1.1 in
    let high : ℕ = is.1.2.0 in
    let above : 0 < high = is.1.2.1 in
    let whole : n + 128 ≡ b + 128 * high = is.1.2.2 in
    let one : room + 1 ≡ suc room = omega arith in
    let small : n < (top + 1) * (128 * 128 ^ room) = rw (one, pow-succ') at is.0 in
    let fewer : high < (top + 1) * 128 ^ room = omega arith in
    let v : b - 128 + 128 * high ≡ n = omega arith in
    rw (le-ltb b 128 big, groups_complete top room high (c ∷ front) rest low above fewer is.1.2.3, v) refl

varint_law : (top room : ℕ) → top < 128 → Law (IsVarintBelow ((top + 1) * 128 ^ (room + 1))) (varint_at top room)
varint_law top room low = record { sound = varint_sound top room low; complete = varint_complete top room low }

pub uvarint_law : Law IsUvarint uvarint_at
unfolding uvarint_at
uvarint_law = let law = varint_law 15 3 (lit≤ tt) in record {
  sound = λ bytes fits. sound_as _ IsUvarint bytes _ (law.sound bytes fits) (λ n front is. record { fits = is.0; spelled = is.1 });
  complete = λ n front rest is. law.complete n front rest (is.fits, is.spelled);
}

pub uvarlong_law : Law IsUvarlong uvarlong_at
unfolding uvarlong_at
uvarlong_law = let law = varint_law 1 8 (lit≤ tt) in record {
  sound = λ bytes fits. sound_as _ IsUvarlong bytes _ (law.sound bytes fits) (λ n front is. record { fits = is.0; spelled = is.1 });
  complete = λ n front rest is. law.complete n front rest (is.fits, is.spelled);
}

-- ---- zigzag

zigzag-unzigzag : (n : ℕ) → zigzag (unzigzag n) ≡ n
zigzag-unzigzag n = elim (eqb (n % 2) 0) as (λ even. eqb (n % 2) 0 ≡ even → zigzag (cond even (pos (n / 2)) (negsuc (n / 2))) ≡ n) [
  | true ↦ λ e. let none : n % 2 ≡ 0 = grind (arith, nat_tests) in omega arith
  | false ↦ λ e. let one : 0 < n % 2 = some (n % 2) e in omega arith
] refl

unzigzag-zigzag : (z : ℤ) → unzigzag (zigzag z) ≡ z
unzigzag-zigzag (pos n) =
    let none : 2 * n % 2 ≡ 0 = omega arith in
    let half : 2 * n / 2 ≡ n = omega arith in
    rw (none, half) refl
unzigzag-zigzag (negsuc n) =
    let one : (2 * n + 1) % 2 ≡ 1 = omega arith in
    let half : (2 * n + 1) / 2 ≡ n = omega arith in
    rw (one, half) refl

pub varint32_law : Law IsVarint32 varint32_at
unfolding varint32_at
varint32_law = record {
  sound = λ bytes fits. sound_last uvarint_law IsVarint32 unzigzag bytes fits (λ n front is. subst (λ (m : ℕ). IsUvarint m front) (sym (zigzag-unzigzag n)) is);
  complete = λ z front rest is. complete_last uvarint_law (zigzag z) unzigzag rest front is ∙ ap (λ (y : ℤ). read_ok y rest) (unzigzag-zigzag z);
}

pub varint64_law : Law IsVarint64 varint64_at
unfolding varint64_at
varint64_law = record {
  sound = λ bytes fits. sound_last uvarlong_law IsVarint64 unzigzag bytes fits (λ n front is. subst (λ (m : ℕ). IsUvarlong m front) (sym (zigzag-unzigzag n)) is);
  complete = λ z front rest is. complete_last uvarlong_law (zigzag z) unzigzag rest front is ∙ ap (λ (y : ℤ). read_ok y rest) (unzigzag-zigzag z);
}

-- ---- pieces and fixed numbers

abbrev pub IsPiece : ℕ → List ℕ → List ℕ → Type 0
IsPiece len piece bytes = (length bytes ≡ len) × (bytes ≡ piece)

pub piece_law : (len : ℕ) → Law (IsPiece len) (piece_at len)
piece_law len = record {
  sound = λ bytes fits piece rest e.
      let g = guard_ok (ltb (length bytes) len) Short (read_ok (take len bytes) (drop len bytes)) (piece, rest) e in
      let long : len ≤ length bytes = ltb-false _ _ g.0 in
      let v : take len bytes ≡ piece = ok_value _ _ _ _ g.1 in
      let r : drop len bytes ≡ rest = ok_rest _ _ _ _ g.1 in
      record { front = take len bytes; parts = sym (take-append-drop len bytes) ∙ ap (λ (t : List ℕ). take len bytes ++ t) r; holds = (length-take-le len bytes long, v) };
  complete = λ piece front rest is.
      let long : ltb (length (front ++ rest)) len ≡ false = le-ltb _ _ (omega (arith, length-append front rest, is.0)) in
      rw (long, take_at front rest len is.0, drop_at front rest len is.0, is.1) refl;
}

pub number_law : (w : Width) → Law (IsNumber w) (number_at w)
number_law w = record {
  sound = λ bytes fits. sound_last (piece_law (byte_len w)) (IsNumber w) (from_be_bytes w) bytes fits (λ x front is. record { long = is.0; spelled = ap (from_be_bytes w) (sym is.1) });
  complete = λ n front rest is. rw is.spelled (complete_last (piece_law (byte_len w)) front (from_be_bytes w) rest front (is.long, refl));
}

pub signed_law : (w : Width) → Law (IsSigned w) (signed_at w)
signed_law w = record {
  sound = λ bytes fits. sound_last (number_law w) (IsSigned w) (cast_signed w) bytes fits (λ bits front is. record { bits = bits; signed = refl; spelled = is });
  complete = λ n front rest is. rw is.signed (complete_last (number_law w) is.bits (cast_signed w) rest front is.spelled);
}

pub bool_law : Law IsBool bool_at
bool_law = record {
  sound = λ bytes fits. sound_last (number_law w8) IsBool (λ byte. not (eqb byte 0)) bytes fits (λ byte front is. record { byte = byte; is = refl; spelled = is });
  complete = λ b front rest is. rw is.is (complete_last (number_law w8) is.byte (λ byte. not (eqb byte 0)) rest front is.spelled);
}

-- ---- ids

pub id_law : Law IsId id_at
unfolding id_at
id_law = record {
  sound = λ bytes fits. sound_then (number_law w64) IsId _ bytes fits (λ high a rest first more.
      sound_last (number_law w64) _ (λ low. high * 2 ^ 64 + low) rest more (λ low b second.
      record { high = high; low = low; whole = refl; spelled = record { left = a; right = b; is = refl; first = first; second = second } }));
  complete = λ n bytes rest is. rw is.whole
      (complete_then (number_law w64) is.high (IsNumber w64 is.low) _ _ rest
      (λ tail second. complete_last (number_law w64) is.low (λ low. is.high * 2 ^ 64 + low) rest tail second) bytes is.spelled);
}

-- ---- texts

abbrev pub IsUtf8Piece : ℕ → List ℕ → List ℕ → Type 0
IsUtf8Piece len text bytes = IsUtf8 text × IsPiece len text bytes

pub utf8_law : (len : ℕ) → Law (IsUtf8Piece len) (utf8_at len)
utf8_law len = record {
  sound = λ bytes fits. sound_then (piece_law len) _ _ bytes fits (λ text front rest is more.
      sound_guard _ rest (not (is_utf8 text)) BadText _ (λ good.
      sound_done _ rest text (rw append-nil (IsUtf8-from_is_utf8 text (grind (arith, nat_tests)), is))));
  complete = λ text front rest is.
      complete_bind _ _ _ _ ((piece_law len).complete text front rest is.1)
      (complete_guard _ _ _ _ (ap not (is_utf8-from_IsUtf8 text is.0)) refl);
}

text_of : (text a : List ℕ) (size : ℕ) (piece : List ℕ) → IsUvarint size a → eqb size 0 ≡ false → IsUtf8Piece (size - 1) text piece → IsText text (a ++ piece)
text_of text a size piece first positive is =
    let e : size ≡ length text + 1 = let h = some size positive in omega (arith, is.1.0, ap length is.1.1) in
    record {
      utf8 = is.0;
      spelled = record { left = a; right = piece; is = refl; first = subst (λ (n : ℕ). IsUvarint n a) e first; second = is.1.1 };
    }

-- the text behind its length
utf8_complete : (text tail rest : List ℕ) (len : ℕ) → length text ≡ len → tail ≡ text → IsUtf8 text → utf8_at len (tail ++ rest) ≡ Ok (text, rest)
utf8_complete text tail rest len long same utf8 = (utf8_law len).complete text tail rest (utf8, (ap length same ∙ long, same))

pub text_law : Law IsText text_at
unfolding text_at
text_law = record {
  sound = λ bytes fits. sound_then uvarint_law IsText _ bytes fits (λ size a rest first more.
      sound_guard _ rest (eqb size 0) BadNull _ (λ positive.
      sound_as (IsUtf8Piece (size - 1)) _ rest _ ((utf8_law (size - 1)).sound rest more) (λ text b is. text_of text a size b first positive is)));
  complete = λ text bytes rest is.
      let positive = not_zero (length text + 1) (omega arith) in
      let one_less : length text ≡ length text + 1 - 1 = omega arith in
      complete_then uvarint_law (length text + 1) (Exactly text) _ text rest (λ tail second.
      complete_guard _ _ _ _ positive (utf8_complete text tail rest (length text + 1 - 1) one_less second is.utf8)) bytes is.spelled;
}

null_text : (size : ℕ) (a : List ℕ) → IsUvarint size a → eqb size 0 ≡ true → IsUvarint 0 a
null_text size a is none = let e : size ≡ 0 = grind (arith, nat_tests) in subst (λ (n : ℕ). IsUvarint n a) e is

text_or_null_complete : (o : Option (List ℕ)) (bytes rest : List ℕ) → IsTextOrNull o bytes → text_or_null_at (bytes ++ rest) ≡ Ok (o, rest)
unfolding text_or_null_at
text_or_null_complete None bytes rest is = rw (uvarint_law.complete 0 bytes rest is) refl
text_or_null_complete (Some text) bytes rest is =
    let positive = not_zero (length text + 1) (omega arith) in
    let one_less : length text ≡ length text + 1 - 1 = omega arith in
    complete_then uvarint_law (length text + 1) (Exactly text) _ (Some text) rest (λ tail second.
    complete_if_not _ _ _ _ positive (complete_bind _ _ (text, rest) _ (utf8_complete text tail rest (length text + 1 - 1) one_less second is.utf8) refl)) bytes is.spelled

pub text_or_null_law : Law IsTextOrNull text_or_null_at
unfolding text_or_null_at
text_or_null_law = record {
  sound = λ bytes fits. sound_then uvarint_law IsTextOrNull _ bytes fits (λ size a rest first more.
      sound_if _ rest (eqb size 0) _ _
      (λ null. sound_done _ rest None (rw append-nil (null_text size a first null)))
      (λ positive. sound_last (utf8_law (size - 1)) _ (λ text. Some text) rest more (λ text b is. text_of text a size b first positive is)));
  complete = text_or_null_complete;
}
