-- How many bytes are written of the primitives.
use Rattle.std.proofs.Common.{◌≡◌, ℕ, zero, suc, ◌+◌, ◌*◌, ◌/◌, ◌^◌, ◌<◌, ◌≤◌, Bool, true, false, inl, inr, cond, ltb, List, [], ◌∷◌, length, refl, ap, subst, ◌∙◌, arith}
use Rattle.std.specs.Prelude.{ℤ}
use Rattle.std.specs.List.{flat_map}
use Rattle.std.specs.Int.{Width, w8, w16, w32, w64, byte_len, bytes_high_first, cast_unsigned}
use Rattle.std.proofs.lemmas.Bool.{lt-ltb, le-ltb, cases_lt}
use Rattle.std.proofs.lemmas.List.{length-append}
use Rattle.kr_wire.specs.Grammar.{◌⌢◌, Each, IsVarint, IsUvarint}
use Rattle.kr_wire.specs.Spelling.{groups, uvarint, number, signed, bool, id, text, count, list}

-- ---- numbers of a fixed length

length_high_first : (k n : ℕ) → length (bytes_high_first k n) ≡ k
length_high_first zero n = refl
length_high_first (suc k) n = ap suc (length_high_first k n)

pub length_number : (w : Width) (n : ℕ) → length (number w n) ≡ byte_len w
unfolding number
length_number w n = length_high_first (byte_len w) n

pub length_signed : (w : Width) (n : ℤ) → length (signed w n) ≡ byte_len w
unfolding signed
length_signed w n = length_high_first (byte_len w) (cast_unsigned w n)

-- the same by each width

pub length_number_16 : (n : ℕ) → length (number w16 n) ≡ 2
length_number_16 n = length_number w16 n

pub length_number_32 : (n : ℕ) → length (number w32 n) ≡ 4
length_number_32 n = length_number w32 n

pub length_signed_8 : (n : ℤ) → length (signed w8 n) ≡ 1
length_signed_8 n = length_signed w8 n

pub length_signed_16 : (n : ℤ) → length (signed w16 n) ≡ 2
length_signed_16 n = length_signed w16 n

pub length_signed_32 : (n : ℤ) → length (signed w32 n) ≡ 4
length_signed_32 n = length_signed w32 n

pub length_signed_64 : (n : ℤ) → length (signed w64 n) ≡ 8
length_signed_64 n = length_signed w64 n

pub length_id : (n : ℕ) → length (id n) ≡ 16
unfolding id
length_id n = refl

pub length_bool : (b : Bool) → length (bool b) ≡ 1
length_bool true = refl
length_bool false = refl

-- ---- numbers in groups of seven bits

-- one group, where the number is that small
pub one_group : (room n : ℕ) → n < 128 → length (groups (suc room) n) ≡ 1
one_group room n lt = rw (lt-ltb n 128 lt) refl

-- a group more than those of the rest
pub more_groups : (room n : ℕ) → 128 ≤ n → length (groups (suc room) n) ≡ 1 + length (groups room (n / 128))
more_groups room n le = rw (le-ltb n 128 le) (omega arith)

pub groups_few : (room n : ℕ) → length (groups room n) ≤ room + 1
groups_few zero n = omega arith
groups_few (suc room) n = elim (cases_lt n 128) [
  | inl lt ↦ let e = one_group room n lt in omega (arith, e)
  | inr le ↦ let e = more_groups room n le in let h = groups_few room (n / 128) in omega (arith, e, h)
]

pub uvarint_few : (n : ℕ) → length (uvarint n) ≤ 5
unfolding uvarint
uvarint_few n = groups_few 4 n

pub uvarint_one : (n : ℕ) → n < 128 → length (uvarint n) ≡ 1
unfolding uvarint
uvarint_one n lt = one_group 3 n lt

-- how many bytes a number of 32 bits has
abbrev pub uvarint_bytes : ℕ → ℕ
uvarint_bytes n = cond (ltb n 128) 1 (cond (ltb n 16384) 2 (cond (ltb n 2097152) 3 (cond (ltb n 268435456) 4 5)))

-- exactly, of 32 bits
pub length_uvarint : (n : ℕ) → n < 2 ^ 32
    → length (uvarint n) ≡ cond (ltb n 128) 1 (cond (ltb n 16384) 2 (cond (ltb n 2097152) 3 (cond (ltb n 268435456) 4 5)))
unfolding uvarint
length_uvarint n fits = elim (cases_lt n 128) [
  | inl a ↦ rw (lt-ltb n 128 a) refl
  | inr a ↦ rw (le-ltb n 128 a) (elim (cases_lt n 16384) [
    | inl b ↦ let b' : n / 128 < 128 = omega arith in rw (lt-ltb n 16384 b, lt-ltb (n / 128) 128 b') refl
    | inr b ↦ let b' : 128 ≤ n / 128 = omega arith in rw (le-ltb n 16384 b, le-ltb (n / 128) 128 b') (elim (cases_lt n 2097152) [
      | inl c ↦ let c' : n / 128 / 128 < 128 = omega arith in rw (lt-ltb n 2097152 c, lt-ltb (n / 128 / 128) 128 c') refl
      | inr c ↦ let c' : 128 ≤ n / 128 / 128 = omega arith in rw (le-ltb n 2097152 c, le-ltb (n / 128 / 128) 128 c') (elim (cases_lt n 268435456) [
        | inl d ↦ let d' : n / 128 / 128 / 128 < 128 = omega arith in rw (lt-ltb n 268435456 d, lt-ltb (n / 128 / 128 / 128) 128 d') refl
        | inr d ↦ let d' : 128 ≤ n / 128 / 128 / 128 = omega arith in rw (le-ltb n 268435456 d, le-ltb (n / 128 / 128 / 128) 128 d') refl
      ])
    ])
  ])
]

-- a number's bytes are no fewer than are written for it, or for one below it
groups_least : (room m n : ℕ) (bytes : List ℕ) → m ≤ n → IsVarint n bytes → length (groups room m) ≤ length bytes
groups_least room m n [] le is = absurd is
groups_least zero m n (b ∷ bytes) le is = omega arith
groups_least (suc room) m n (b ∷ []) le is = let low : b < 128 = is.0 in let same : n ≡ b = is.1 in omega (arith, one_group room m (omega arith))
groups_least (suc room) m n (b ∷ c ∷ bytes) le is = elim (cases_lt m 128) [
  | inl small ↦ omega (arith, one_group room m small)
  | inr big ↦
      let byte : b < 256 = is.1 in
      let high : ℕ = is.2.0 in
      let whole : n + 128 ≡ b + 128 * high = is.2.2 in
      let lower : m / 128 ≤ high = omega arith in
      omega (arith, more_groups room m big, groups_least room (m / 128) high (c ∷ bytes) lower is.2.3)
]

pub uvarint_least : (m n : ℕ) (bytes : List ℕ) → m ≤ n → IsUvarint n bytes → uvarint_bytes m ≤ length bytes
unfolding uvarint
uvarint_least m n bytes le is =
    let fits : m < 2 ^ 32 = let h = is.fits in omega arith in
    subst (λ (k : ℕ). k ≤ length bytes) (length_uvarint m fits) (groups_least 4 m n bytes le is.spelled)

pub some_uvarint : (n : ℕ) (bytes : List ℕ) → IsUvarint n bytes → 1 ≤ length bytes
some_uvarint n [] is = absurd is.spelled
some_uvarint n (b ∷ bytes) is = omega arith

-- ---- one part after the other

pub both_lengths : {First Second : List ℕ → Type 0} (bytes : List ℕ) (is : (First ⌢ Second) bytes) → length bytes ≡ length is.left + length is.right
both_lengths bytes is = ap (λ (l : List ℕ). length l) is.is ∙ length-append is.left is.right

-- elements of k bytes or more
pub each_long : {X : Type 0} {One : X → List ℕ → Type 0} (k : ℕ) → ((x : X) (bytes : List ℕ) → One x bytes → k ≤ length bytes) → (xs : List X) (bytes : List ℕ) → Each One xs bytes
    → k * length xs ≤ length bytes
each_long k long [] bytes is = omega arith
each_long k long (x ∷ xs) bytes is = omega (arith, long x is.left is.first, each_long k long xs is.right is.second, both_lengths bytes is)

-- ---- texts and lists

pub length_text : (bytes : List ℕ) → length (text bytes) ≡ length (uvarint (length bytes + 1)) + length bytes
length_text bytes = length-append (uvarint (length bytes + 1)) bytes

pub length_each : {X : Type 0} (one : X → List ℕ) (k : ℕ) → ((x : X) → length (one x) ≡ k) → (xs : List X) → length (flat_map one xs) ≡ k * length xs
length_each one k same [] = omega arith
length_each one k same (x ∷ xs) =
    let h = same x in
    let more = length_each one k same xs in
    omega (arith, length-append (one x) (flat_map one xs))

pub length_list : {X : Type 0} (one : X → List ℕ) (k : ℕ) → ((x : X) → length (one x) ≡ k) → (xs : List X) → length (list one xs) ≡ length (count (length xs)) + k * length xs
length_list one k same xs = length-append (count (length xs)) (flat_map one xs) ∙ ap (λ (n : ℕ). length (count (length xs)) + n) (length_each one k same xs)
