-- Paths of nodes that lead to one another: one node is taken out of a path, or put in at its end.
use Rattle.std.proofs.Common.{◌≡◌, ◌≢◌, ℕ, List, [], ◌∷◌, ◌++◌, refl, sym, ap, subst, ◌∙◌}
use Rattle.kr_contact.specs.Rings.{IsOut, IsApart, IsPath}
use Rattle.kr_contact.proofs.Indices.{flip, out_here}

-- the nodes that lead on
abbrev pub sources : ℕ → List ℕ → List ℕ
sources i [] = []
sources i (j ∷ js) = i ∷ sources j js

-- the last of them
abbrev pub last_from : ℕ → List ℕ → ℕ
last_from i [] = i
last_from i (j ∷ js) = last_from j js

pub sources_ring : (i : ℕ) (js : List ℕ) (z : ℕ) → sources i (js ++ z ∷ []) ≡ i ∷ js
sources_ring i [] z = refl
sources_ring i (j ∷ js) z = ap (λ ks. i ∷ ks) (sources_ring j js z)

out_last : (a i : ℕ) (js : List ℕ) (k : ℕ) (ks : List ℕ) → IsOut a (sources i (js ++ k ∷ ks)) → a ≢ last_from i js
out_last a i [] k ks o = o.0
out_last a i (j ∷ js) k ks o = out_last a j js k ks o.1

out_second : (a : ℕ) (xs : List ℕ) (i k : ℕ) (ys : List ℕ) → IsOut a (xs ++ i ∷ k ∷ ys) → a ≢ k
out_second a [] i k ys o = o.1.0
out_second a (x ∷ xs) i k ys o = out_second a xs i k ys o.1

module _ (A B : ℕ → ℕ → Type 0) where
  -- the last edge leads back to the last node before
  pub last_back : (a : ℕ) (xs : List ℕ) (z : ℕ) → IsPath A B a (xs ++ z ∷ []) → B z (last_from a xs)
  last_back a [] z p = p.0.1
  last_back a (x ∷ xs) z p = last_back x xs z p.1

  -- the two edges at a node
  pub edges_at : (a : ℕ) (xs : List ℕ) (i k : ℕ) (ys : List ℕ) → IsPath A B a (xs ++ i ∷ k ∷ ys) → B i (last_from a xs) × A i k
  edges_at a [] i k ys p = (p.0.1, p.1.0.0)
  edges_at a (x ∷ xs) i k ys p = edges_at x xs i k ys p.1

module _ (A B A' B' : ℕ → ℕ → Type 0) (j k : ℕ) (on : (s q : ℕ) → j ≢ s → A s q → A' s q) (back : (t q : ℕ) → k ≢ t → B t q → B' t q) where
  -- the rest of a path stays
  same_path : (a : ℕ) (ps : List ℕ) → IsOut j (sources a ps) → IsOut k ps → IsPath A B a ps → IsPath A' B' a ps
  same_path a [] s t p = tt
  same_path a (q ∷ qs) s t p = ((on a q s.0 p.0.0, back q a t.0 p.0.1), same_path q qs s.1 t.1 p.1)

  module _ (i : ℕ) (new_on : A i k → A' j k) (new_back : B i j → B' k j) where
    -- without the node i, after which k comes
    pub shorter : (a : ℕ) (xs ys : List ℕ) → last_from a xs ≡ j → IsApart (sources a (xs ++ i ∷ k ∷ ys)) → IsApart (xs ++ i ∷ k ∷ ys) → IsPath A B a (xs ++ i ∷ k ∷ ys) → IsPath A' B' a (xs ++ k ∷ ys)
    shorter a [] ys is s t p =
        let here : j ≡ a = sym is in
        ((subst (λ (b : ℕ). A' b k) here (new_on p.1.0.0), subst (λ (b : ℕ). B' k b) here (new_back (subst (λ (b : ℕ). B i b) is p.0.1))), same_path k ys (subst (λ (b : ℕ). IsOut b (sources k ys)) is s.0.1) t.1.0 p.1.1)
    shorter a (x ∷ xs) ys is s t p =
        let other : j ≢ a = λ e. out_last a x xs i (k ∷ ys) s.0 (sym (is ∙ e)) in
        let beside : k ≢ x = flip (out_second x xs i k ys t.0) in
        ((on a x other p.0.0, back x a beside p.0.1), shorter x xs ys is s.1 t.1 p.1)

-- with the node i at the end, before z
module _ (A B A' B' : ℕ → ℕ → Type 0) (j i z : ℕ) (on : (s q : ℕ) → j ≢ s → i ≢ s → A s q → A' s q) (back : (t q : ℕ) → z ≢ t → i ≢ t → B t q → B' t q)
    (last_on : A' j i) (last_back : B z j → B' i j) (new_on : A' i z) (new_back : B' z i) where
  pub longer : (a : ℕ) (xs : List ℕ) → last_from a xs ≡ j → IsApart (sources a (xs ++ z ∷ [])) → IsApart (xs ++ z ∷ []) → IsOut i (a ∷ xs) → IsPath A B a (xs ++ z ∷ []) → IsPath A' B' a (xs ++ i ∷ z ∷ [])
  longer a [] is s t o p =
      let here : j ≡ a = sym is in
      ((subst (λ (b : ℕ). A' b i) here last_on, subst (λ (b : ℕ). B' i b) here (last_back (subst (λ (b : ℕ). B z b) is p.0.1))), ((new_on, new_back), tt))
  longer a (x ∷ xs) is s t o p =
      let other : j ≢ a = λ e. out_last a x xs z [] s.0 (sym (is ∙ e)) in
      let beside : z ≢ x = flip (out_here x xs z [] t.0) in
      ((on a x other o.0 p.0.0, back x a beside o.1.0 p.0.1), longer x xs is s.1 t.1 o.1 p.1)
