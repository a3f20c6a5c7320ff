-- Lists that are told, and bytes of one thing behind the other.
use Rattle.std.proofs.Common.{◌∙◌, ℕ, List, [], ◌∷◌, ◌++◌, Option, Some, None, refl, sym, ap, subst, append_assoc, append-nil}
use Rattle.kr_wire.specs.Grammar.{Each}
use Rattle.kr_server.specs.Told.{TellsMore}

pub each_both : {X : Type 0} (One : X → List ℕ → Type 0) (xs ys : List X) (a b : List ℕ) → Each One xs a → Each One ys b → Each One (xs ++ ys) (a ++ b)
each_both One [] ys a b none second = subst (Each One ys) (ap (λ (l : List ℕ). l ++ b) (sym none)) second
each_both One (x ∷ xs) ys a b first second = record {
  left = first.left;
  right = first.right ++ b;
  is = ap (λ (l : List ℕ). l ++ b) first.is ∙ append_assoc first.left first.right b;
  first = first.first;
  second = each_both One xs ys first.right b first.second second;
}

pub each_one : {X : Type 0} (One : X → List ℕ → Type 0) (x : X) (bytes : List ℕ) → One x bytes → Each One (x ∷ []) bytes
each_one One x bytes is = record { left = bytes; right = []; is = sym (append-nil bytes); first = is; second = refl }

pub tells_more : {X : Type 0} (a b c : Option (List X)) (xs ys : List X) → TellsMore a b xs → TellsMore b c ys → TellsMore a c (xs ++ ys)
tells_more None b c xs ys p q = tt
tells_more (Some x) None c xs ys p q = absurd p
tells_more (Some x) (Some y) None xs ys p q = absurd q
tells_more (Some x) (Some y) (Some z) xs ys p q = q ∙ (ap (λ l. l ++ ys) p ∙ append_assoc x xs ys)

pub tells_none : {X : Type 0} (a : Option (List X)) → TellsMore a a []
tells_none None = tt
tells_none (Some x) = sym (append-nil x)

pub tells_same : {X : Type 0} (a b c : Option (List X)) (xs : List X) → TellsMore a b xs → TellsMore b c [] → TellsMore a c xs
tells_same a b c xs p q = subst (TellsMore a c) (append-nil xs) (tells_more a b c xs [] p q)
