-- The steps are linear, and bits above the lowest only move down.
use Rattle.std.proofs.Common.{◌≡◌, ℕ, zero, suc, ◌+◌, ◌*◌, ◌/◌, ◌%◌, ◌^◌, ◌<◌, ◌==◌, refl, sym, ap, ◌∙◌, arith, if◌then◌else◌}
use Rattle.std.specs.Prelude.{bit_xor}
use Rattle.std.specs.Int.Bits.{xor_assoc, xor_self, xor_zero_l, xor_zero_r}
use Rattle.std.proofs.lemmas.Nat.{xor_comm, xor_shr, xor_mod, xor_block}
use Rattle.std.proofs.Math.Nat.{pow-succ'}
use Rattle.kr_batch.specs.Crc.{bit_step, bit_steps, polynomial}

-- ---- the steps are linear

-- the polynomial where a bit is 1
abbrev mixed : ℕ → ℕ → ℕ
mixed bit c = if bit == 1 then bit_xor c polynomial else c

-- twice the same goes out
twice : (p x y : ℕ) → bit_xor x y ≡ bit_xor (bit_xor x p) (bit_xor y p)
twice p x y =
    let e : bit_xor p (bit_xor y p) ≡ y = ap (bit_xor p) (xor_comm y p) ∙ sym (xor_assoc p p y) ∙ ap (λ z. bit_xor z y) (xor_self p) ∙ xor_zero_l y in
    sym (xor_assoc x p (bit_xor y p) ∙ ap (bit_xor x) e)

mixed_xor : (p q x y : ℕ) → p < 2 → q < 2 → mixed (bit_xor p q) (bit_xor x y) ≡ bit_xor (mixed p x) (mixed q y)
mixed_xor zero zero x y _ _ = refl
mixed_xor zero (suc zero) x y _ _ = xor_assoc x y polynomial
mixed_xor (suc zero) zero x y _ _ = xor_assoc x y polynomial ∙ ap (bit_xor x) (xor_comm y polynomial) ∙ sym (xor_assoc x polynomial y)
mixed_xor (suc zero) (suc zero) x y _ _ = twice polynomial x y
mixed_xor (suc (suc p)) q x y lt _ = absurd (omega arith)
mixed_xor zero (suc (suc q)) x y _ lt = absurd (omega arith)
mixed_xor (suc zero) (suc (suc q)) x y _ lt = absurd (omega arith)

step_xor : (a b : ℕ) → bit_step (bit_xor a b) ≡ bit_xor (bit_step a) (bit_step b)
step_xor a b =
    let low : bit_xor a b % 2 ≡ bit_xor (a % 2) (b % 2) = xor_mod a b 1 in
    let high : bit_xor a b / 2 ≡ bit_xor (a / 2) (b / 2) = xor_shr a b 1 in
    ap (λ p. mixed p (bit_xor a b / 2)) low ∙ ap (mixed (bit_xor (a % 2) (b % 2))) high ∙ mixed_xor (a % 2) (b % 2) (a / 2) (b / 2) (omega arith) (omega arith)

pub steps_xor : (n a b : ℕ) → bit_steps n (bit_xor a b) ≡ bit_xor (bit_steps n a) (bit_steps n b)
steps_xor zero a b = refl
steps_xor (suc n) a b = ap (bit_steps n) (step_xor a b) ∙ steps_xor n (bit_step a) (bit_step b)

-- ---- bits above the eighth only move down

step_double : (m : ℕ) → bit_step (2 * m) ≡ m
step_double m =
    let low : 2 * m % 2 ≡ 0 = omega arith in
    let high : 2 * m / 2 ≡ m = omega arith in
    ap (λ p. mixed p (2 * m / 2)) low ∙ high

pub steps_double : (n q : ℕ) → bit_steps n (2 ^ n * q) ≡ q
steps_double zero q = omega arith
steps_double (suc n) q =
    let p = pow-succ' 2 n in
    let e : 2 ^ suc n * q ≡ 2 * (2 ^ n * q) = rw p (omega arith) in
    ap (λ c. bit_steps n (bit_step c)) e ∙ ap (bit_steps n) (step_double (2 ^ n * q)) ∙ steps_double n q

pub split : (x : ℕ) → x ≡ bit_xor (256 * (x / 256)) (x % 256)
split x =
    let block : bit_xor (x / 256 * 256 + 0) (0 * 256 + x % 256) ≡ bit_xor (x / 256) 0 * 256 + bit_xor 0 (x % 256) = xor_block 8 (x / 256) 0 0 (x % 256) (omega arith) (omega arith) in
    let left : x / 256 * 256 + 0 ≡ 256 * (x / 256) = omega arith in
    let right : 0 * 256 + x % 256 ≡ x % 256 = omega arith in
    let whole : bit_xor (256 * (x / 256)) (x % 256) ≡ x / 256 * 256 + x % 256 = cc (xor_zero_r (x / 256), xor_zero_l (x % 256)) in
    let sum : x / 256 * 256 + x % 256 ≡ x = omega arith in
    sym (whole ∙ sum)

pub eight : (x : ℕ) → bit_steps 8 x ≡ bit_xor (x / 256) (bit_steps 8 (x % 256))
eight x =
    ap (bit_steps 8) (split x) ∙ steps_xor 8 (256 * (x / 256)) (x % 256)
    ∙ ap (λ h. bit_xor h (bit_steps 8 (x % 256))) (steps_double 8 (x / 256))

-- steps behind steps
pub steps_then : (m n c : ℕ) → bit_steps n (bit_steps m c) ≡ bit_steps (m + n) c
steps_then zero n c = let e : n ≡ 0 + n = omega arith in ap (λ k. bit_steps k c) e
steps_then (suc m) n c = steps_then m n (bit_step c) ∙ (let e : suc (m + n) ≡ suc m + n = omega arith in ap (λ k. bit_steps k c) e)
