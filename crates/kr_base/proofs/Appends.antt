-- Bytes in pieces.
use Rattle.std.proofs.Common.{◌≡◌, ℕ, ◌+◌, ◌≤◌, List, [], ◌∷◌, ◌++◌, length, map, take, drop, refl, sym, ap, ◌∙◌, arith}
use Rattle.std.proofs.Math.Seq.{take-length}
use Rattle.std.proofs.lemmas.List.{drop-append-le, length-append, length-drop, length-take-le, take-append-drop, take-append-le}
use Rattle.std.proofs.lemmas.List.Sums.{sum_by-append}
use Rattle.std.specs.List.{concat, sum}
use Rattle.kr_base.specs.Appends.{pieces_of}

empty : (bs : List ℕ) → 0 ≡ length bs → [] ≡ bs
empty [] none = refl
empty (b ∷ bs) none = absurd (omega arith)

sum_of_more : (n : ℕ) (ns : List ℕ) → sum (n ∷ ns) ≡ n + sum ns
sum_of_more n ns = let both = sum_by-append (λ n. n) (n ∷ []) ns in omega (arith, both)

-- the first piece is within the bytes
within : (n : ℕ) (ns bs : List ℕ) → sum (n ∷ ns) ≡ length bs → n ≤ length bs
within n ns bs fits = let whole = sum_of_more n ns in omega (arith, whole, fits)

behind : (n : ℕ) (ns bs : List ℕ) → sum (n ∷ ns) ≡ length bs → sum ns ≡ length (drop n bs)
behind n ns bs fits = let left = length-drop n bs in let whole = sum_of_more n ns in omega (arith, left, whole, fits)

pub joined : (ns bs : List ℕ) → sum ns ≡ length bs → concat (pieces_of ns bs) ≡ bs
joined [] bs fits = empty bs fits
joined (n ∷ ns) bs fits = ap (λ rest. take n bs ++ rest) (joined ns (drop n bs) (behind n ns bs fits)) ∙ take-append-drop n bs

pub measured : (ns bs : List ℕ) → sum ns ≡ length bs → map length (pieces_of ns bs) ≡ ns
measured [] bs fits = refl
measured (n ∷ ns) bs fits =
    ap (λ m. m ∷ map length (pieces_of ns (drop n bs))) (length-take-le n bs (within n ns bs fits))
    ∙ ap (λ ms. n ∷ ms) (measured ns (drop n bs) (behind n ns bs fits))

pub one_more : (ns bs piece : List ℕ) → sum ns ≡ length bs → pieces_of (ns ++ length piece ∷ []) (bs ++ piece) ≡ pieces_of ns bs ++ piece ∷ []
one_more [] bs piece fits =
    ap (λ (before : List ℕ). take (length piece) (before ++ piece) ∷ []) (sym (empty bs fits)) ∙ ap (λ (p : List ℕ). p ∷ []) (take-length piece)
one_more (n ∷ ns) bs piece fits =
    ap (λ (p : List ℕ). p ∷ pieces_of (ns ++ length piece ∷ []) (drop n (bs ++ piece))) (take-append-le n bs piece (within n ns bs fits))
    ∙ (ap (λ (rest : List ℕ). take n bs ∷ pieces_of (ns ++ length piece ∷ []) rest) (drop-append-le n bs piece (within n ns bs fits))
    ∙ ap (λ rest. take n bs ∷ rest) (one_more ns (drop n bs) piece (behind n ns bs fits)))

pub summed : (ns bs piece : List ℕ) → sum ns ≡ length bs → sum (ns ++ length piece ∷ []) ≡ length (bs ++ piece)
summed ns bs piece fits =
    let sizes = sum_by-append (λ n. n) ns (length piece ∷ []) in let bytes = length-append bs piece in omega (arith, sizes, bytes, fits)

pub ruleset pieces = (joined, measured, one_more, summed)
