-- What one call after the other reads from a source or writes to a sink.
use Rattle.std.proofs.Common.{◌≡◌, ℕ, ◌+◌, ◌-◌, ◌≤◌, List, ◌++◌, length, take, drop, Option, Some, None, append_assoc, sym, ap, ◌∙◌, arith}
use Rattle.std.specs.Io.KnownBytes.{Consumes, Appends, Keeps}
use Rattle.std.proofs.Math.Seq.{take-add, take-length}
use Rattle.std.proofs.lemmas.List.{length-drop}

pub consumes_more : (a b c : Option (List ℕ)) (xs ys : List ℕ) → Consumes a b xs → Consumes b c ys → Consumes a c (xs ++ ys)
consumes_more None b c xs ys p q = tt
consumes_more (Some x) None c xs ys p q = absurd p
consumes_more (Some x) (Some y) None xs ys p q = absurd q
consumes_more (Some x) (Some y) (Some z) xs ys p q = p ∙ ap (λ (l : List ℕ). xs ++ l) q ∙ sym (append_assoc xs ys z)

pub appends_more : (a b c : Option (List ℕ)) (xs ys : List ℕ) → Appends a b xs → Appends b c ys → Appends a c (xs ++ ys)
appends_more None b c xs ys p q = tt
appends_more (Some x) None c xs ys p q = absurd p
appends_more (Some x) (Some y) None xs ys p q = absurd q
appends_more (Some x) (Some y) (Some z) xs ys p q = q ∙ ap (λ (l : List ℕ). l ++ ys) p ∙ append_assoc x xs ys

-- a piece of which a front was written, and then some bytes behind that front
pub appends_front : (a b c : Option (List ℕ)) (at count : ℕ) (piece rest : List ℕ) → rest ≡ drop at piece → Appends a b (take at piece) → Appends b c (take count rest) → Appends a c (take (at + count) piece)
appends_front a b c at count piece rest behind before more =
    let wrote : Appends b c (take count (drop at piece)) = rw behind at more in
    rw (take-add at count piece) (appends_more a b c (take at piece) (take count (drop at piece)) before wrote)

pub within_front : (at count : ℕ) (piece rest : List ℕ) → rest ≡ drop at piece → at ≤ length piece → count ≤ length rest → at + count ≤ length piece
within_front at count piece rest behind before more =
    let bound : count ≤ length piece - at = rw (behind, length-drop) at more in
    omega (arith, bound, before)

-- known bytes that stay
pub appends_kept : (a b c : Option (List ℕ)) (xs : List ℕ) → Appends a b xs → Keeps b c → Appends a c xs
appends_kept None b c xs p q = tt
appends_kept (Some x) None c xs p q = absurd p
appends_kept (Some x) (Some y) None xs p q = absurd q
appends_kept (Some x) (Some y) (Some z) xs p q = q ∙ p

-- what a front of a piece is written as, when all of it is
pub front_of_all : (a b : Option (List ℕ)) (piece : List ℕ) → Appends a b piece → (count : ℕ) × Appends a b (take count piece)
front_of_all a b piece wrote = (length piece, rw take-length wrote)

pub appends_kept_front : (a b c : Option (List ℕ)) (piece : List ℕ) → Appends a b piece → Keeps b c → (count : ℕ) × Appends a c (take count piece)
appends_kept_front a b c piece wrote kept = front_of_all a c piece (appends_kept a b c piece wrote kept)
