-- Bytes that were read before they are asked for.
use Rattle.std.proofs.Common.{◌≡◌, ℕ, ◌+◌, ◌-◌, ◌≤◌, min, List, take, drop, slice_range, length, sym, ap, ◌∙◌, arith, drop-drop, length-take}
use Rattle.std.proofs.lemmas.List.{drop-take}

-- the first ones are handed on
pub advanced : (xs : List ℕ) (start end count : ℕ) (now : List ℕ) → slice_range xs start end ≡ now → count ≤ length now → slice_range xs (start + count) end ≡ drop count now
advanced xs start end count now is few =
    let long : length now ≡ min (end - start) (length (drop start xs)) = ap (λ (l : List ℕ). length l) (sym is) ∙ length-take (end - start) (drop start xs) in
    let whole : count + (end - (start + count)) ≡ end - start = omega (arith, long, few) in
    ap (take (end - (start + count))) (sym (drop-drop count start xs))
    ∙ (sym (drop-take count (end - (start + count)) (drop start xs))
    ∙ (ap (λ (n : ℕ). drop count (take n (drop start xs))) whole
    ∙ ap (drop count) is))
