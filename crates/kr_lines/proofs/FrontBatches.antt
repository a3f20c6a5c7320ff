-- Batches at the front of bytes: where each ends, its own bytes tell, whatever follows.
use Rattle.std.proofs.Common.{◌≡◌, ◌∙◌, ℕ, ◌+◌, ◌<◌, ◌≤◌, ◌^◌, ◌⊎◌, false, inl, inr, List, [], ◌∷◌, ◌++◌, length, length-append, append_assoc, take, drop, Ok, refl, sym, ap, arith}
use Rattle.std.proofs.lemmas.Bool.Decides.{nat_tests}
use Rattle.std.proofs.lemmas.List.{take_at, drop_at}
use Rattle.kr_batch.specs.declared.Batch.{Batch}
use Rattle.kr_batch.specs.declared.fault.BatchFault.{BatchFault}
use Rattle.kr_batch.specs.Crc.{crc32c}
use Rattle.kr_batch.specs.Grammar.{IsBatch}
use Rattle.kr_batch.specs.Reading.{batch_of, start_at}
use Rattle.kr_batch.proofs.Batches.{of_complete}
use Rattle.kr_batch.proofs.Heads.{start_law, long}
use Rattle.kr_wire.proofs.ReadingLaws.{complete_bind, complete_guard, is_ok}
use Rattle.kr_snapshot.specs.Reading.{extent, is_no_size, size_at}
use Rattle.kr_snapshot.proofs.Fronts.{start_long}
use Rattle.kr_lines.specs.BatchLines.{Shown, AreShown, shown_bytes}
use Rattle.kr_lines.specs.Endings.{Breaks, IsTooShort, cut, refused}

is_size : (size : ℕ) → 49 ≤ size → size < 2 ^ 31 → is_no_size size ≡ false
is_size size some few = grind (arith, nat_tests)

-- the size that bytes tell, whose batch is as long
pub record IsSized (bytes rest : List ℕ) : Type 0 where
  pub size : ℕ
  pub told : size_at (bytes ++ rest) ≡ Ok size
  pub whole : length bytes ≡ extent size
  pub some : 1 ≤ length bytes

-- a batch tells its size
pub sized : (batch : Batch) (front rest : List ℕ) → IsBatch batch front → IsSized front rest
unfolding size_at
sized batch front rest is =
    let head : List ℕ = is.start.left in
    let whole : front ≡ head ++ is.behind = is.start.is ∙ ap (λ (l : List ℕ). head ++ l) is.start.second in
    let regrouped : front ++ rest ≡ head ++ (is.behind ++ rest) = ap (λ (l : List ℕ). l ++ rest) whole ∙ append_assoc head is.behind rest in
    let twelve = start_long (batch.base, length is.behind) head is.start.first in
    let a = ap (λ (l : List ℕ). length l) whole in
    let b = length-append head is.behind in
    let some = long (batch.epoch, crc32c is.checked) (is.control, batch.time, length batch.items) is.checked is.records is.behind is.sum is.fixed in
    record {
      size = length is.behind;
      told = complete_bind (start_at (front ++ rest)) _ ((batch.base, length is.behind), is.behind ++ rest) _
          (ap start_at regrouped ∙ start_law.complete (batch.base, length is.behind) head (is.behind ++ rest) is.start.first)
          (complete_guard _ _ _ _ (is_size (length is.behind) some is.fits) refl);
      whole = omega (arith, a, b, twelve);
      some = omega (arith, a, b, twelve);
    }

-- two batches at the front of the same bytes have the same bytes
pub same_front : (a b : Batch) (x y u v : List ℕ) → IsBatch a x → IsBatch b y → x ++ u ≡ y ++ v → (x ≡ y) × (u ≡ v)
same_front a b x y u v is other same =
    let s = sized a x u is in
    let t = sized b y v other in
    let sizes : s.size ≡ t.size = is_ok _ _ (sym s.told ∙ (ap size_at same ∙ t.told)) in
    let w = s.whole in
    let z = t.whole in
    let long_ : length y ≡ length x = omega (arith, w, z, sizes) in (
      sym (take_at x u (length x) refl) ∙ (ap (take (length x)) same ∙ take_at y v (length x) long_),
      sym (drop_at x u (length x) refl) ∙ (ap (drop (length x)) same ∙ drop_at y v (length x) long_),
    )

too_short : (batch : Batch) (front rest bytes : List ℕ) → IsBatch batch front → bytes ≡ front ++ rest → IsTooShort bytes → ⊥
too_short batch front rest bytes is same (inl none) =
    let s = sized batch front rest is in
    let clash = sym none.1 ∙ (ap size_at same ∙ s.told) in cc
too_short batch front rest bytes is same (inr few) =
    let s = sized batch front rest is in
    let sizes : few.0 ≡ s.size = is_ok _ _ (sym few.1 ∙ (ap size_at same ∙ s.told)) in
    let all = ap (λ (l : List ℕ). length l) same ∙ length-append front rest in
    let w = s.whole in
    let fewer = few.2 in
    omega (arith, sizes, all, w, fewer)

-- no batch breaks
pub unbroken : (batch : Batch) (front rest bytes : List ℕ) (cause : BatchFault) → IsBatch batch front → bytes ≡ front ++ rest → Breaks bytes cause → ⊥
unbroken batch front rest bytes cause is same (refused size fault told none) =
    let s = sized batch front rest is in
    let sizes : size ≡ s.size = is_ok _ _ (sym told ∙ (ap size_at same ∙ s.told)) in
    let w = s.whole in
    let all : length front ≡ extent size = omega (arith, w, sizes) in
    let taken : take (extent size) bytes ≡ front = ap (take (extent size)) same ∙ take_at front rest (extent size) all in
    let clash = sym (of_complete front batch is) ∙ (ap batch_of (sym taken) ∙ none) in cc
unbroken batch front rest bytes cause is same (cut some short) = too_short batch front rest bytes is same short

-- there is nothing, or nothing that begins with a batch
abbrev pub IsStop : List ℕ → Type 0
IsStop rest = (rest ≡ []) ⊎ ((cause : BatchFault) × Breaks rest cause)

no_stop : (s : Shown) (others : List Shown) (rest stop : List ℕ) → IsBatch s.batch s.bytes → stop ≡ shown_bytes (s ∷ others) ++ rest → IsStop stop → ⊥
no_stop s others rest stop is same (inl none) =
    let t = sized s.batch s.bytes [] is in
    let all = ap (λ (l : List ℕ). length l) (sym none ∙ same) ∙ (length-append (s.bytes ++ shown_bytes others) rest ∙ ap (λ n. n + length rest) (length-append s.bytes (shown_bytes others))) in
    let some = t.some in
    absurd (omega (arith, all, some))
no_stop s others rest stop is same (inr broken) =
    unbroken s.batch s.bytes (shown_bytes others ++ rest) stop broken.0 is (same ∙ append_assoc s.bytes (shown_bytes others) rest) broken.1

-- what stands behind all batches is told by the bytes
pub one_rest : (xs ys : List Shown) (u v : List ℕ) → AreShown xs → AreShown ys → IsStop u → IsStop v → shown_bytes xs ++ u ≡ shown_bytes ys ++ v → (shown_bytes xs ≡ shown_bytes ys) × (u ≡ v)
one_rest [] [] u v are other stop end same = (refl, same)
one_rest [] (y ∷ ys) u v are other stop end same = absurd (no_stop y ys v u other.0 same stop)
one_rest (x ∷ xs) [] u v are other stop end same = absurd (no_stop x xs u v are.0 (sym same) end)
one_rest (x ∷ xs) (y ∷ ys) u v are other stop end same =
    let regrouped : x.bytes ++ (shown_bytes xs ++ u) ≡ y.bytes ++ (shown_bytes ys ++ v) =
    sym (append_assoc x.bytes (shown_bytes xs) u) ∙ (same ∙ append_assoc y.bytes (shown_bytes ys) v) in
    let first = same_front x.batch y.batch x.bytes y.bytes (shown_bytes xs ++ u) (shown_bytes ys ++ v) are.0 other.0 regrouped in
    let rest = one_rest xs ys u v are.1 other.1 stop end first.1 in
    (ap (λ (l : List ℕ). l ++ shown_bytes xs) first.0 ∙ ap (λ (l : List ℕ). y.bytes ++ l) rest.0, rest.1)
