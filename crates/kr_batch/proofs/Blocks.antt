-- Sixteen bytes as two words.
use Rattle.std.proofs.Common.{◌≡◌, ℕ, zero, suc, ◌+◌, ◌*◌, ◌/◌, ◌%◌, ◌^◌, ◌<◌, List, [], ◌∷◌, take, drop, length, get_or, refl, sym, ap, ◌∙◌, arith}
use Rattle.std.specs.Prelude.{bit_xor}
use Rattle.std.specs.List.{fold}
use Rattle.std.specs.Int.{w64, from_le_bytes}
use Rattle.std.specs.Int.Bits.{xor_assoc, xor_zero_l, xor_zero_r}
use Rattle.std.proofs.lemmas.Nat.{xor_comm, xor_block}
use Rattle.std.proofs.lemmas.List.{take-append-drop}
use Rattle.std.proofs.lemmas.List.Sums.{fold-append}
use Rattle.kr_batch.specs.Crc.{bit_steps, byte_step}
use Rattle.kr_batch.proofs.Crc.{steps_xor, steps_double, steps_then, split}

-- a block, and what is behind it
pub next_block : (n sum after : ℕ) (bytes block behind : List ℕ) (total : ℕ) → block ≡ take n bytes → behind ≡ drop n bytes → after ≡ fold byte_step sum block
    → fold byte_step sum bytes ≡ total → fold byte_step after behind ≡ total
next_block n sum after bytes block behind total is_block is_behind is_after so_far =
    rw (is_after, is_block, is_behind) (sym (fold-append byte_step sum (take n bytes) (drop n bytes)) ∙ ap (fold byte_step sum) (take-append-drop n bytes) ∙ so_far)

-- ---- bytes as a number

-- the number that bytes stand for, the lowest first
abbrev number : List ℕ → ℕ
number [] = 0
number (b ∷ bs) = b + 256 * number bs

one_more : (c b r : ℕ) → b < 256 → bit_xor (byte_step c b) r ≡ bit_steps 8 (bit_xor c (b + 256 * r))
unfolding byte_step
one_more c b r small =
    let high : (b + 256 * r) / 256 ≡ r = omega arith in
    let low : (b + 256 * r) % 256 ≡ b = omega arith in
    let apart : b + 256 * r ≡ bit_xor (256 * r) b = split (b + 256 * r) ∙ ap (λ q. bit_xor (256 * q) ((b + 256 * r) % 256)) high ∙ ap (bit_xor (256 * r)) low in
    let parts : bit_xor c (b + 256 * r) ≡ bit_xor (bit_xor c b) (256 * r) = ap (bit_xor c) (apart ∙ xor_comm (256 * r) b) ∙ sym (xor_assoc c b (256 * r)) in
    sym (ap (bit_steps 8) parts ∙ steps_xor 8 (bit_xor c b) (256 * r) ∙ ap (bit_xor (bit_steps 8 (bit_xor c b))) (steps_double 8 r))

-- bytes, one after the other, are shifted out as one number
folded : (bs : List ℕ) (c : ℕ) → ((i : ℕ) → get_or bs i 0 < 256) → fold byte_step c bs ≡ bit_steps (8 * length bs) (bit_xor c (number bs))
folded [] c small = sym (xor_zero_r c)
folded (b ∷ bs) c small =
    let n : ℕ = 8 * length bs in
    let e : 8 + n ≡ 8 * length (b ∷ bs) = omega arith in
    let x : ℕ = bit_xor c (number (b ∷ bs)) in
    folded bs (byte_step c b) (λ i. small (suc i)) ∙ ap (bit_steps n) (one_more c b (number bs) (small 0)) ∙ steps_then 8 n x ∙ ap (λ m. bit_steps m x) e

-- so many of the bytes from a place on
abbrev number_at : List ℕ → ℕ → ℕ → ℕ
number_at bs i zero = 0
number_at bs i (suc n) = get_or bs i 0 + 256 * number_at bs (suc i) n

moved : (b : ℕ) (bs : List ℕ) (i n : ℕ) → number_at bs i n ≡ number_at (b ∷ bs) (suc i) n
moved b bs i zero = refl
moved b bs i (suc n) = ap (λ (m : ℕ). get_or bs i 0 + 256 * m) (moved b bs (suc i) n)

number_is : (bs : List ℕ) → number bs ≡ number_at bs 0 (length bs)
number_is [] = refl
number_is (b ∷ bs) = ap (λ (m : ℕ). b + 256 * m) (number_is bs ∙ moved b bs 0 (length bs))

-- ---- two words

apart : (low high : ℕ) → low < 2 ^ 64 → low + 2 ^ 64 * high ≡ bit_xor low (2 ^ 64 * high)
apart low high lt =
    let block : bit_xor (0 * 2 ^ 64 + low) (high * 2 ^ 64 + 0) ≡ bit_xor 0 high * 2 ^ 64 + bit_xor low 0 = xor_block 64 0 high low 0 lt (omega arith) in
    let left : 0 * 2 ^ 64 + low ≡ low = omega arith in
    let right : high * 2 ^ 64 + 0 ≡ 2 ^ 64 * high = omega arith in
    let whole : bit_xor low (2 ^ 64 * high) ≡ high * 2 ^ 64 + low = cc (block, left, right, xor_zero_l high, xor_zero_r low) in
    let sum : high * 2 ^ 64 + low ≡ low + 2 ^ 64 * high = omega arith in
    sym (whole ∙ sum)

pub block_shifted_out : (bs : List ℕ) (sum wide low high first second : ℕ) → length bs ≡ 16 → ((i : ℕ) → get_or bs i 0 < 256) → wide ≡ sum
    → low ≡ from_le_bytes w64 (get_or bs 0 0 ∷ get_or bs 1 0 ∷ get_or bs 2 0 ∷ get_or bs 3 0 ∷ get_or bs 4 0 ∷ get_or bs 5 0 ∷ get_or bs 6 0 ∷ get_or bs 7 0 ∷ [])
    → high ≡ from_le_bytes w64 (get_or bs 8 0 ∷ get_or bs 9 0 ∷ get_or bs 10 0 ∷ get_or bs 11 0 ∷ get_or bs 12 0 ∷ get_or bs 13 0 ∷ get_or bs 14 0 ∷ get_or bs 15 0 ∷ [])
    → first ≡ bit_steps (8 * (0 + 8)) high → second ≡ bit_steps (8 * (8 + 8)) (bit_xor low wide)
    → bit_xor first second ≡ fold byte_step sum bs
block_shifted_out bs sum wide low high first second full small same is_low is_high is_first is_second =
    let fits : low < 2 ^ 64 = omega (arith, is_low, small 0, small 1, small 2, small 3, small 4, small 5, small 6, small 7) in
    let value : number_at bs 0 16 ≡ low + 2 ^ 64 * high = omega (arith, is_low, is_high) in
    let number_of : number bs ≡ bit_xor low (2 ^ 64 * high) = number_is bs ∙ ap (number_at bs 0) full ∙ value ∙ apart low high fits in
    let two : bit_xor sum (number bs) ≡ bit_xor (bit_xor sum low) (2 ^ 64 * high) = ap (bit_xor sum) number_of ∙ sym (xor_assoc sum low (2 ^ 64 * high)) in
    let lowest : bit_xor sum low ≡ bit_xor low wide = xor_comm sum low ∙ ap (bit_xor low) (sym same) in
    let behind : bit_steps 128 (2 ^ 64 * high) ≡ bit_steps 64 high = sym (steps_then 64 64 (2 ^ 64 * high)) ∙ ap (bit_steps 64) (steps_double 64 high) in
    ap (λ x. bit_xor x second) is_first ∙ ap (bit_xor (bit_steps 64 high)) is_second
    ∙ sym (folded bs sum small ∙ ap (λ (n : ℕ). bit_steps (8 * n) (bit_xor sum (number bs))) full ∙ ap (bit_steps 128) two
    ∙ steps_xor 128 (bit_xor sum low) (2 ^ 64 * high) ∙ ap (bit_xor (bit_steps 128 (bit_xor sum low))) behind
    ∙ ap (λ x. bit_xor (bit_steps 128 x) (bit_steps 64 high)) lowest ∙ xor_comm (bit_steps 128 (bit_xor low wide)) (bit_steps 64 high))
