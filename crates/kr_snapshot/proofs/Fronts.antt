-- The bytes of the batch at the front.
use Rattle.std.proofs.Common.{◌≡◌, ◌∙◌, ℕ, ℤ, ◌<◌, ◌≤◌, ◌^◌, false, List, ◌++◌, length, length-append, append_assoc, Ok, refl, sym, ap, subst, arith}
use Rattle.std.specs.Prelude.{take, drop, ◌||◌, nat_lt, nat_le}
use Rattle.std.proofs.lemmas.Bool.Decides.{nat_tests}
use Rattle.std.proofs.lemmas.List.{take_at, drop_at, take-append-drop, length-take-le}
use Rattle.kr_defs.specs.declared.limits.TheConstants.{MOST_RECORDS}
use Rattle.kr_defs.proofs.Tests.{neither}
use Rattle.kr_wire.proofs.ReadingLaws.{IsBytes, bind_ok, guard_ok, is_ok, complete_bind, complete_guard}
use Rattle.kr_batch.specs.declared.Batch.{Batch}
use Rattle.kr_batch.specs.Crc.{crc32c}
use Rattle.kr_batch.specs.Grammar.{IsStart, IsBatch}
use Rattle.kr_batch.specs.Reading.{start_at, is_short}
use Rattle.kr_batch.proofs.Heads.{start_law, long}
use Rattle.kr_snapshot.specs.Reading.{extent}
use Rattle.kr_snapshot.proofs.BatchPieces.{front_at}

pub start_long : (x : ℤ × ℕ) (bytes : List ℕ) → IsStart x bytes → length bytes ≡ 12
start_long x bytes is =
    let a = ap (λ (l : List ℕ). length l) is.is in
    let b = length-append is.left is.right in
    let c : length is.left ≡ 8 = is.first.spelled.long in
    let d : length is.right ≡ 4 = is.second.long in
    omega (arith, a, b, c, d)

pub not_short : (size rest : ℕ) → 49 ≤ size → size < 2 ^ 31 → size ≤ rest → is_short size rest ≡ false
not_short size rest some few there = grind (arith, nat_tests)

within : (size rest : ℕ) → is_short size rest ≡ false → size ≤ rest
within size rest test = let a = neither (nat_lt size 49 || nat_le (2 ^ 31) size) (nat_lt rest size) test in let b : nat_lt rest size ≡ false = a.1 in grind (arith, nat_tests)

-- a batch has bytes
pub part_some : (batch : Batch) (front : List ℕ) → IsBatch batch front → 1 ≤ length front
part_some batch front is =
    let twelve = start_long (batch.base, length is.behind) is.start.left is.start.first in
    let a = ap (λ (l : List ℕ). length l) is.start.is in
    let b = length-append is.start.left is.start.right in
    omega (arith, a, b, twelve)

-- the bytes of a batch stand at the front, whatever follows
pub front_complete : (batch : Batch) (front rest : List ℕ) → IsBatch batch front → front_at (front ++ rest) ≡ Ok (front, rest)
unfolding front_at
front_complete batch front rest is =
    let head : List ℕ = is.start.left in
    let whole : front ≡ head ++ is.behind = is.start.is ∙ ap (λ (l : List ℕ). head ++ l) is.start.second in
    let regrouped : front ++ rest ≡ head ++ (is.behind ++ rest) = ap (λ (l : List ℕ). l ++ rest) whole ∙ append_assoc head is.behind rest in
    let twelve = start_long (batch.base, length is.behind) head is.start.first in
    let size : length front ≡ extent (length is.behind) = (let a = ap (λ (l : List ℕ). length l) whole in let b = length-append head is.behind in omega (arith, a, b, twelve)) in
    let some = long (batch.epoch, crc32c is.checked) (is.control, batch.time, length batch.items) is.checked is.records is.behind is.sum is.fixed in
    let more = length-append is.behind rest in
    complete_bind (start_at (front ++ rest)) _ ((batch.base, length is.behind), is.behind ++ rest) _
    (ap start_at regrouped ∙ start_law.complete (batch.base, length is.behind) head (is.behind ++ rest) is.start.first)
    (complete_guard _ _ _ _ (not_short (length is.behind) (length (is.behind ++ rest)) some is.fits (omega (arith, more)))
    (rw (take_at front rest (extent (length is.behind)) size, drop_at front rest (extent (length is.behind)) size) refl))

pub record Splits (bytes : List ℕ) (x : List ℕ × List ℕ) : Type 0 where
  pub parts : bytes ≡ x.0 ++ x.1
  pub some : 1 ≤ length x.0

pub front_sound : (bytes : List ℕ) (x : List ℕ × List ℕ) → IsBytes bytes → front_at bytes ≡ Ok x → Splits bytes x
unfolding front_at
front_sound bytes x fits e =
    let a = bind_ok (start_at bytes) _ x e in
    let g = guard_ok (is_short a.0.0.1 (length a.0.1)) _ _ x a.2 in
    let s = start_law.sound bytes fits a.0.0 a.0.1 a.1 in
    let twelve = start_long a.0.0 s.front s.holds in
    let all = ap (λ (l : List ℕ). length l) s.parts in
    let sum = length-append s.front a.0.1 in
    let there = within a.0.0.1 (length a.0.1) g.0 in
    let n : ℕ = extent a.0.0.1 in
    let parts : take n bytes ++ drop n bytes ≡ bytes = take-append-drop n bytes in
    let taken : length (take n bytes) ≡ n = length-take-le n bytes (omega (arith, twelve, all, sum, there)) in
    let split : Splits bytes (take n bytes, drop n bytes) = record { parts = sym parts; some = omega (arith, taken) } in
    subst (λ (y : List ℕ × List ℕ). Splits bytes y) (is_ok _ _ g.1) split

-- and not too many records
pub batch_few : (batch : Batch) (front : List ℕ) → IsBatch batch front → length batch.items ≤ MOST_RECORDS
batch_few batch front is = is.fixed.first.second.second.second.second.few
