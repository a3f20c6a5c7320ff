-- The first number of a range that passes a test.
use Rattle.std.proofs.Common.{◌≡◌, ◌∙◌, ◌<◌, ◌+◌, ◌-◌, ℕ, Bool, true, false, ap, refl, arith}
use Rattle.std.specs.Prelude.{Some, None, find}
use Rattle.std.specs.List.{range_with_len}
use Rattle.kr_topics.proofs.Placements.{range_step}

pub find_begin : (test : ℕ → Bool) (first count : ℕ) → find test (range_with_len first (first + count - first)) ≡ find test (range_with_len first count)
find_begin test first count = let all : first + count - first ≡ count = omega arith in ap (λ n. find test (range_with_len first n)) all

module _ (test : ℕ → Bool) (i end : ℕ) where
  pub find_here : i < end → test i ≡ true → find test (range_with_len i (end - i)) ≡ Some i
  find_here lt is = ap (find test) (range_step i end lt) ∙ rw is refl

  pub find_later : i < end → test i ≡ false → find test (range_with_len i (end - i)) ≡ find test (range_with_len (i + 1) (end - (i + 1)))
  find_later lt is = ap (find test) (range_step i end lt) ∙ rw is refl

  pub find_none : i ≡ end → find test (range_with_len i (end - i)) ≡ None
  find_none is = let none : end - i ≡ 0 = omega arith in ap (λ n. find test (range_with_len i n)) none
