-- The size that a batch tells.
use Rattle.std.proofs.Common.{◌≡◌, ◌∙◌, ℕ, ℤ, ◌<◌, ◌≤◌, ◌^◌, false, cond, List, ◌++◌, length, length-append, append_assoc, Ok, Err, refl, sym, ap, arith, inl, inr}
use Rattle.std.specs.Prelude.{take, drop}
use Rattle.std.proofs.lemmas.Bool.{cases_Bool}
use Rattle.std.proofs.lemmas.Bool.Decides.{nat_tests}
use Rattle.std.proofs.lemmas.List.{take-append-drop, length-take-le, take_at, drop_at}
use Rattle.kr_wire.proofs.ReadingLaws.{bind_ok, guard_ok, is_ok}
use Rattle.kr_batch.specs.declared.Batch.{Batch}
use Rattle.kr_batch.specs.declared.fault.BatchFault.{BatchFault}
use Rattle.kr_batch.specs.declared.fault.BatchFault.TheVariants.{Short}
use Rattle.kr_batch.specs.Crc.{crc32c}
use Rattle.kr_batch.specs.Reading.{start_at}
use Rattle.kr_batch.specs.Grammar.{IsBatch, IsStart}
use Rattle.kr_batch.proofs.Heads.{start_law, long}
use Rattle.kr_snapshot.specs.Reading.{is_no_size, size_at}
use Rattle.kr_snapshot.specs.ReaderState.{IsUnfinished}
use Rattle.kr_snapshot.proofs.BatchPieces.{start_is, size_front, size_bad}
use Rattle.kr_fold.specs.SourceBytes.{IsSized}

-- what stands behind the size doesn't change it
pub size_same : (bytes more : List ℕ) → 12 ≤ length bytes → size_at (bytes ++ more) ≡ size_at bytes
size_same bytes more there =
    let head : List ℕ = take 12 bytes in
    let rest : List ℕ = drop 12 bytes in
    let s = start_is (take 12 bytes) (length-take-le 12 bytes there) in
    let parts : take 12 bytes ++ drop 12 bytes ≡ bytes = take-append-drop 12 bytes in
    let both : bytes ++ more ≡ take 12 bytes ++ (drop 12 bytes ++ more) = ap (λ (l : List ℕ). l ++ more) (sym parts) ∙ append_assoc (take 12 bytes) (drop 12 bytes) more in
    elim (cases_Bool (is_no_size s.0)) [
      | inl bad ↦ ap size_at both ∙ (size_bad (take 12 bytes) (drop 12 bytes ++ more) s.0 s.1 bad ∙ (sym (size_bad (take 12 bytes) (drop 12 bytes) s.0 s.1 bad) ∙ ap size_at parts))
      | inr good ↦ ap size_at both ∙ (size_front (take 12 bytes) (drop 12 bytes ++ more) s.0 s.1 good ∙ (sym (size_front (take 12 bytes) (drop 12 bytes) s.0 s.1 good) ∙ ap size_at parts))
    ]

pub one_size : (bytes : List ℕ) (a b : ℕ) → size_at bytes ≡ Ok a → size_at bytes ≡ Ok b → a ≡ b
one_size bytes a b is other = is_ok _ _ (sym is ∙ other)

no_size : (bytes : List ℕ) (a : ℕ) (fault : BatchFault) → size_at bytes ≡ Ok a → size_at bytes ≡ Err fault → ⊥
no_size bytes a fault is none = let clash = sym is ∙ none in cc

is_size : (size : ℕ) → 49 ≤ size → size < 2 ^ 31 → is_no_size size ≡ false
is_size size some few = grind (arith, nat_tests)

-- a size that a batch has
pub size_some : (bytes : List ℕ) (size : ℕ) → size_at bytes ≡ Ok size → 49 ≤ size
unfolding size_at
size_some bytes size e =
    let k = bind_ok (start_at bytes) (λ start. cond (is_no_size start.0.1) (Err Short) (Ok start.0.1)) size e in
    let g = guard_ok (is_no_size k.0.0.1) Short (Ok k.0.0.1) size k.2 in
    let same : k.0.0.1 ≡ size = is_ok _ _ g.1 in
    let good : is_no_size k.0.0.1 ≡ false = g.0 in
    let some : 49 ≤ k.0.0.1 = grind (arith, nat_tests) in
    omega (arith, same, some)

start_long : (x : ℤ × ℕ) (bytes : List ℕ) → IsStart x bytes → length bytes ≡ 12
start_long x bytes is =
    let a = ap (λ (l : List ℕ). length l) is.is ∙ length-append is.left is.right in
    let b : length is.left ≡ 8 = is.first.spelled.long in
    let c : length is.right ≡ 4 = is.second.long in
    omega (arith, a, b, c)

sized_by : (bytes : List ℕ) (base : ℤ) (behind : List ℕ) (left right : List ℕ) → bytes ≡ left ++ right → IsStart (base, length behind) left → right ≡ behind → 49 ≤ length behind → length behind < 2 ^ 31 → IsSized bytes
unfolding size_at
sized_by bytes base behind left right parts is same some few =
    let read : start_at bytes ≡ Ok ((base, length behind), right) = ap start_at parts ∙ start_law.complete (base, length behind) left right is in
    let twelve = start_long (base, length behind) left is in
    let whole = ap (λ (l : List ℕ). length l) parts ∙ length-append left right in
    let end = ap (λ (l : List ℕ). length l) same in
    record {
      size = length behind;
      told = rw (read, is_size (length behind) some few) refl;
      whole = omega (arith, twelve, whole, end);
    }

-- a batch tells its size
pub batch_sized : (batch : Batch) (bytes : List ℕ) → IsBatch batch bytes → IsSized bytes
batch_sized batch bytes is =
    let some = long (batch.epoch, crc32c is.checked) (is.control, batch.time, length batch.items) is.checked is.records is.behind is.sum is.fixed in
    sized_by bytes batch.base is.behind is.start.left is.start.right is.start.is is.start.first is.start.second some is.fits

pub sized_long : (bytes : List ℕ) → IsSized bytes → 12 ≤ length bytes
sized_long bytes s = let w = s.whole in omega (arith, w)

-- the bytes at the front of others tell where they end
pub sized_front : (a b x y : List ℕ) → IsSized a → IsSized b → a ++ x ≡ b ++ y → (a ≡ b) × (x ≡ y)
sized_front a b x y s t same =
    let sizes : s.size ≡ t.size =
    one_size (a ++ x) s.size t.size (size_same a x (sized_long a s) ∙ s.told) (ap size_at same ∙ (size_same b y (sized_long b t) ∙ t.told)) in
    let w = s.whole in
    let v = t.whole in
    let long_ : length b ≡ length a = omega (arith, w, v, sizes) in (
      sym (take_at a x (length a) refl) ∙ (ap (take (length a)) same ∙ take_at b y (length a) long_),
      sym (drop_at a x (length a) refl) ∙ (ap (drop (length a)) same ∙ drop_at b y (length a) long_),
    )

-- ---- where no batch begins

-- bytes that tell a size which no batch has
pub no_size_none : (bytes more front behind : List ℕ) (fault : BatchFault) → 12 ≤ length bytes → size_at bytes ≡ Err fault → IsSized front → bytes ++ more ≡ front ++ behind → ⊥
no_size_none bytes more front behind fault there none s same =
    no_size (front ++ behind) s.size fault (size_same front behind (sized_long front s) ∙ s.told) (ap size_at (sym same) ∙ (size_same bytes more there ∙ none))

-- fewer bytes than a batch
pub cut_none : (bytes front behind : List ℕ) → IsUnfinished bytes → IsSized front → bytes ≡ front ++ behind → ⊥
cut_none bytes front behind cut s same =
    let l = sized_long front s in
    let e = ap (λ (x : List ℕ). length x) same ∙ length-append front behind in
    let there : 12 ≤ length bytes = omega (arith, e, l) in
    let u = cut there in
    let sizes : u.0 ≡ s.size = one_size bytes u.0 s.size u.1 (ap size_at same ∙ (size_same front behind l ∙ s.told)) in
    let w = s.whole in
    let few = u.2 in
    omega (arith, sizes, w, e, few)
