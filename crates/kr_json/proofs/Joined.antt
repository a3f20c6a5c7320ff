-- What several puts append, one after the other.
use Rattle.std.proofs.Common.{◌≡◌, ◌∙◌, ℕ, suc, ◌+◌, ◌<◌, List, ◌∷◌, ◌++◌, length, get_or, drop, append_assoc, add-one, drop-cons, sym, ap}
use Rattle.std.specs.List.{flat_map}

pub two : (out mid new a b : List ℕ) → mid ≡ out ++ a → new ≡ mid ++ b → new ≡ out ++ (a ++ b)
two out mid new a b first second = second ∙ (ap (λ (l : List ℕ). l ++ b) first ∙ append_assoc out a b)

pub three : (out mid late new a b c : List ℕ) → mid ≡ out ++ a → late ≡ mid ++ b → new ≡ late ++ c → new ≡ out ++ (a ++ (b ++ c))
three out mid late new a b c first second third = two out mid new a (b ++ c) first (two mid late new b c second third)

-- one element more of a list
pub element_more : {X : Type 0} (text : X → List ℕ) (xs : List X) (i : ℕ) (x : X) (out new all : List ℕ) → i < length xs → x ≡ get_or xs i x → out ++ flat_map text (drop i xs) ≡ all → new ≡ out ++ text x → new ++ flat_map text (drop (i + 1) xs) ≡ all
element_more {X} text xs i x out new all more is before grown =
    let step : drop i xs ≡ x ∷ drop (i + 1) xs = rw (add-one, drop-cons xs i x) (ap (λ (y : X). y ∷ drop (suc i) xs) (sym is)) in
    ap (λ (l : List ℕ). l ++ flat_map text (drop (i + 1) xs)) grown
    ∙ (append_assoc out (text x) (flat_map text (drop (i + 1) xs)) ∙ (ap (λ (l : List X). out ++ flat_map text l) (sym step) ∙ before))
