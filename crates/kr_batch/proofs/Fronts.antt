-- A record whose size and whose value's length are put when the value stands.
use Rattle.std.proofs.Common.{◌≡◌, ℕ, zero, suc, pos, negsuc, w8, ◌+◌, ◌-◌, ◌*◌, ◌/◌, ◌%◌, ◌<◌, ◌≤◌, List, [], ◌∷◌, ◌++◌, length, replicate, slice_set, take, drop, append_assoc, length-append, refl, sym, ap, ◌∙◌, arith}
use Rattle.std.proofs.Math.Seq.{drop-append_seam, lt-length-set, take-append_seam}
use Rattle.std.proofs.lemmas.Bool.{lt-ltb}
use Rattle.std.proofs.lemmas.List.{take_all, append-nil, length-replicate, set_split, take_more_set, drop-set-lt}
use Rattle.std.proofs.Math.ListN.{drop_of_length-le}
use Rattle.kr_wire.specs.Spelling.{uvarint, varint32, varint64, signed}
use Rattle.kr_wire.proofs.GroupWriting.{two_groups}
use Rattle.kr_batch.specs.BatchBytes.{front_bytes, record_body, record_bytes}
use Rattle.kr_batch.proofs.Records.{whole_record}
use Rattle.kr_batch.proofs.Sizes.{one, two, three, four, five}

pub number : (n : ℕ) → uvarint (2 * n) ≡ varint32 (pos n)
unfolding varint32 uvarint
number n = refl

zeros : (signed w8 (pos 0) ≡ 0 ∷ []) × (varint64 (pos 0) ≡ 0 ∷ [])
unfolding signed varint64
zeros = (refl, refl)

no_key : varint32 (negsuc 0) ≡ 1 ∷ []
unfolding varint32
no_key = refl

-- ---- a length that takes one byte or two

one_byte : (n : ℕ) → n < 64 → varint32 (pos n) ≡ 2 * n ∷ []
unfolding varint32
one_byte n lt = rw (lt-ltb (2 * n) 128 (omega arith)) refl

two_bytes : (n : ℕ) → 64 ≤ n → n < 8192 → varint32 (pos n) ≡ (128 + 2 * n % 128) ∷ n / 64 ∷ []
unfolding varint32
two_bytes n big small =
    let high : n / 64 ≡ 2 * n / 128 = omega arith in
    rw high (sym (two_groups 4 (2 * n) (omega arith) (omega arith) (omega arith)))

pub is_small : (n width : ℕ) → length (varint32 (pos n)) ≡ width → width ≤ 2 → n < 8192
is_small n width takes few = grind (arith, takes, few, three n, four n, five n)

pub is_short : (n width : ℕ) → length (varint32 (pos n)) ≡ width → width ≡ 1 → n < 64
is_short n width takes short = grind (arith, takes, short, two n, is_small n width takes)

pub is_longer : (n width : ℕ) → length (varint32 (pos n)) ≡ width → width ≡ 2 → 64 ≤ n
is_longer n width takes longer = grind (arith, takes, longer, one n)

-- its bytes set in one place, and in two
pub one_set : (bytes : List ℕ) (at n : ℕ) → n < 64 → at < length bytes → slice_set bytes at (2 * n) ≡ take at bytes ++ varint32 (pos n) ++ drop (at + 1) bytes
one_set bytes at n small there =
    let next : suc at ≡ at + 1 = omega arith in
    set_split bytes at (2 * n) there ∙ rw (one_byte n small, next) (simp append_assoc)

pub two_set : (bytes : List ℕ) (at n : ℕ) → 64 ≤ n → n < 8192 → at + 1 < length bytes
    → slice_set (slice_set bytes at (128 + 2 * n % 128)) (at + 1) (n / 64) ≡ take at bytes ++ varint32 (pos n) ++ drop (at + 2) bytes
two_set bytes at n big small there =
    let low = 128 + 2 * n % 128 in
    let first = slice_set bytes at low in
    let before : take (at + 1) first ≡ take at bytes ++ low ∷ [] = take_more_set bytes at low (omega (arith, there)) in
    let behind : drop (at + 2) first ≡ drop (at + 2) bytes = drop-set-lt (at + 2) bytes at low (omega arith) in
    let next : suc (at + 1) ≡ at + 2 = omega arith in
    set_split first (at + 1) (n / 64) (lt-length-set bytes at low there) ∙ rw (next, before, behind, two_bytes n big small) (simp append_assoc)

-- ---- a record between zeros for both lengths

-- bytes set where others stood
replaced : (front gone rest new whole : List ℕ) (at width : ℕ) → whole ≡ front ++ gone ++ rest → at ≡ length front → length gone ≡ width → take at whole ++ new ++ drop (at + width) whole ≡ front ++ new ++ rest
replaced front gone rest new whole at width is begins wide =
    let before : take at whole ≡ front = rw (is ∙ append_assoc front gone rest, begins) (take-append_seam front (gone ++ rest)) in
    let past : at + width ≡ length (front ++ gone) = omega (arith, begins, wide, length-append front gone) in
    let behind : drop (at + width) whole ≡ rest = rw (is, past) (drop-append_seam (front ++ gone) rest) in
    rw (before, behind) refl

-- the zeros stand where both lengths are to be
gaps : (width : ℕ) → 1 ≤ width → width ≤ 2 → (take {A = ℕ} (width + 2) (0 ∷ 0 ∷ 0 ∷ 0 ∷ []) ≡ replicate width 0 ++ 0 ∷ 0 ∷ []) × (take {A = ℕ} (width + 1) (1 ∷ 0 ∷ 0 ∷ []) ≡ 1 ∷ replicate width 0)
gaps zero some few = absurd (omega arith)
gaps (suc zero) some few = (refl, refl)
gaps (suc (suc zero)) some few = (refl, refl)
gaps (suc (suc (suc n))) some few = absurd (omega arith)

pub set_lengths : (out : List ℕ) (delta width : ℕ) (value whole first second : List ℕ) (start at size len : ℕ) → 1 ≤ width → width ≤ 2
    → whole ≡ ((((out ++ take (width + 2) (0 ∷ 0 ∷ 0 ∷ 0 ∷ [])) ++ varint32 (pos delta)) ++ take (width + 1) (1 ∷ 0 ∷ 0 ∷ [])) ++ value) ++ varint32 (pos 0)
    → start ≡ length out → at ≡ length (((out ++ take (width + 2) (0 ∷ 0 ∷ 0 ∷ 0 ∷ [])) ++ varint32 (pos delta)) ++ take (width + 1) (1 ∷ 0 ∷ 0 ∷ []))
    → size ≡ length (record_body delta value) → len ≡ length value → length (varint32 (pos size)) ≡ width → length (varint32 (pos len)) ≡ width
    → first ≡ take start whole ++ varint32 (pos size) ++ drop (start + width) whole
    → second ≡ take (at - width) first ++ varint32 (pos len) ++ drop (at - width + width) first
    → second ≡ out ++ record_bytes delta value
set_lengths out delta width value whole first second start at size len some few is begins stands sized long size_fits len_fits one_more all =
    let gap = replicate width 0 in
    let u = varint32 (pos delta) in
    let s = varint32 (pos size) in
    let l = varint32 (pos len) in
    let tail = value ++ varint32 (pos 0) in
    let front = out ++ s ++ 0 ∷ 0 ∷ (u ++ 1 ∷ []) in
    let g = gaps width some few in
    let wide : length gap ≡ width = length-replicate width 0 in
    let begun : whole ≡ out ++ gap ++ 0 ∷ 0 ∷ (u ++ (1 ∷ gap) ++ tail) = is ∙ rw (g.0, g.1) (simp append_assoc) in
    let apart : first ≡ front ++ gap ++ tail = one_more ∙ (replaced out gap (0 ∷ 0 ∷ (u ++ (1 ∷ gap) ++ tail)) s whole start width begun begins wide ∙ simp append_assoc) in
    let four = ap (λ (x : List ℕ). length x) g.0 in
    let three = ap (λ (x : List ℕ). length x) g.1 in
    let place : at - width ≡ length front =
    omega (arith, stands, wide, size_fits, four, three, length-append gap (0 ∷ 0 ∷ []), length-append ((out ++ take (width + 2) (0 ∷ 0 ∷ 0 ∷ 0 ∷ [])) ++ u) (take (width + 1) (1 ∷ 0 ∷ 0 ∷ [])), length-append (out ++ take (width + 2) (0 ∷ 0 ∷ 0 ∷ 0 ∷ [])) u, length-append out (take (width + 2) (0 ∷ 0 ∷ 0 ∷ 0 ∷ [])), length-append (out ++ s) (0 ∷ 0 ∷ (u ++ 1 ∷ [])), length-append out s, length-append u (1 ∷ [])) in
    let fronts : s ++ 0 ∷ 0 ∷ (u ++ 1 ∷ l) ≡ front_bytes delta value = rw (sized, long, zeros.0, zeros.1, no_key) (simp append_assoc) in
    all ∙ (replaced front gap tail l first (at - width) width apart place wide ∙ (simp append_assoc)) ∙ (ap (λ (f : List ℕ). out ++ f ++ value ++ varint32 (pos 0)) fronts ∙ whole_record out delta value)

-- what stands behind some bytes
pub behind : (whole front value : List ℕ) → whole ≡ front ++ value → take (length whole - length front) (drop (length front) whole) ≡ value
behind whole front value is =
    let others : drop (length front) whole ≡ value = rw is (drop-append_seam front value) in
    rw others (take_all (length whole - length front) value (omega (arith, ap (λ (l : List ℕ). length l) is, length-append front value)))

-- all of some bytes set
pub set_all : (len : ℕ) (new items whole : List ℕ) → len ≡ length items → length new ≡ length items → new ≡ whole → take len (new ++ drop (length new) items) ≡ whole
set_all len new items whole long same is =
    let none : drop (length new) items ≡ [] = drop_of_length-le items (omega (arith, same)) in
    rw none (ap (take len) (append-nil new) ∙ take_all len new (omega (arith, long, same)) ∙ is)
