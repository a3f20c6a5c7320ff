-- Remainders of sums.
use Rattle.std.proofs.Common.{◌≡◌, ℕ, ◌+◌, ◌/◌, ◌%◌, sym, ap, ◌∙◌, arith}
use Rattle.std.proofs.Math.Nat.{add-mul-mod_self_left, mod-add-div}

pub remainder_first : (a b n : ℕ) → (a % n + b) % n ≡ (a + b) % n
remainder_first a b n =
    let whole = mod-add-div a n in
    sym (add-mul-mod_self_left (a % n + b) n (a / n)) ∙ ap (λ (k : ℕ). k % n) (omega (arith, whole))
