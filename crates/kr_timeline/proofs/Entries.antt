-- One chain among all.
use Rattle.std.proofs.Common.{◌≡◌, List, [], ◌∷◌, Option, Some, Bool, true, false, cond, ℕ, refl, sym, subst, ◌∙◌, ap}
use Rattle.std.specs.List.{AllByRecursion}
use Rattle.std.specs.List.Sorted.{IsStrictlySortedBy}
use Rattle.std.specs.declared.cmp.Ordering.{Ordering}
use Rattle.std.specs.declared.cmp.Ordering.TheVariants.{Less, Equal, Greater}
use Rattle.std.specs.Ordering.{is_eq}
use Rattle.std.specs.Cmp.{IsTotalOrder}
use Rattle.std.specs.Map.{keys_of, lookup, set_value, remove_entry}
use Rattle.std.specs.BTreeMap.{is_at}
use Rattle.std.proofs.lemmas.Map.{NonePasses}
use Rattle.kr_defs.specs.Map.{IsMap}
use Rattle.kr_timeline.specs.Chains.{value_at, standing, map_of}

pub all_both : {X : Type 0} (P Q : X → Type 0) (xs : List X) → AllByRecursion P xs → AllByRecursion Q xs → AllByRecursion (λ (x : X). P x × Q x) xs
all_both P Q [] a b = tt
all_both P Q (x ∷ xs) a b = ((a.0, b.0), all_both P Q xs a.1 b.1)

module _ {K V : Type 0} where
  pub same-set : (test : K → Bool) (m : ℕ) (chain left : List (ℕ × Option V)) (es : List (K × List (ℕ × Option V))) → lookup test es ≡ Some chain → value_at m left ≡ value_at m chain → map_of m (set_value test es left) ≡ map_of m es
  same-set test m chain left [] h same = refl
  same-set test m chain left (e ∷ es) h same =
      elim (test e.0) as (λ b. cond b (Some e.1) (lookup test es) ≡ Some chain → map_of m (cond b ((e.0, left) ∷ es) (e ∷ set_value test es left)) ≡ standing e.0 (value_at m e.1) (map_of m es)) [
        | true ↦ λ is. let here : e.1 ≡ chain = cc in ap (λ (x : Option V). standing e.0 x (map_of m es)) (same ∙ ap (value_at m) (sym here))
        | false ↦ λ is. ap (λ (rest : List (K × V)). standing e.0 (value_at m e.1) rest) (same-set test m chain left es is same)
      ] h

  -- what holds of each entry holds of the found one
  pub all-found : (test : K → Bool) (P : List (ℕ × Option V) → Type 0) (chain : List (ℕ × Option V)) (es : List (K × List (ℕ × Option V))) → lookup test es ≡ Some chain → AllByRecursion (λ (e : K × List (ℕ × Option V)). P e.1) es → P chain
  all-found test P chain [] h a = cc
  all-found test P chain (e ∷ es) h a =
      elim (test e.0) as (λ b. cond b (Some e.1) (lookup test es) ≡ Some chain → P chain) [
        | true ↦ λ is. let here : e.1 ≡ chain = cc in subst P here a.0
        | false ↦ λ is. all-found test P chain es is a.1
      ] h

  -- after the first that passes none passes
  abbrev pub IsOne : (K → Bool) → List (K × List (ℕ × Option V)) → Type 0
  IsOne test [] = Unit
  IsOne test (e ∷ es) = (test e.0 ≡ true → NonePasses test es) × IsOne test es

  pub all-past : (test : K → Bool) (P Q : K × List (ℕ × Option V) → Type 0) (es : List (K × List (ℕ × Option V))) → ((e : K × List (ℕ × Option V)) → test e.0 ≡ false → P e → Q e) → NonePasses test es → AllByRecursion P es → AllByRecursion Q es
  all-past test P Q [] h none a = tt
  all-past test P Q (e ∷ es) h none a = (h e none.0 a.0, all-past test P Q es h none.1 a.1)

  pub all-set : (test : K → Bool) (P Q : K × List (ℕ × Option V) → Type 0) (chain left : List (ℕ × Option V)) (es : List (K × List (ℕ × Option V))) → lookup test es ≡ Some chain → IsOne test es
      → ((e : K × List (ℕ × Option V)) → test e.0 ≡ false → P e → Q e) → ((k : K) → test k ≡ true → P (k, chain) → Q (k, left)) → AllByRecursion P es → AllByRecursion Q (set_value test es left)
  all-set test P Q chain left [] h one others here a = tt
  all-set test P Q chain left (e ∷ es) h one others here a =
      elim (test e.0) as (λ b. test e.0 ≡ b → cond b (Some e.1) (lookup test es) ≡ Some chain → AllByRecursion Q (cond b ((e.0, left) ∷ es) (e ∷ set_value test es left))) [
        | true ↦ λ t is. let same : e.1 ≡ chain = cc in (here e.0 t (subst (λ (c : List (ℕ × Option V)). P (e.0, c)) same a.0), all-past test P Q es others (one.0 t) a.1)
        | false ↦ λ t is. (others e t a.0, all-set test P Q chain left es is one.1 others here a.1)
      ] refl h

  none_past : {R : K → K → Ordering} → IsTotalOrder R → (key x : K) (es : List (K × List (ℕ × Option V))) → is_eq (R key x) ≡ true → AllByRecursion (λ z. R x z ≡ Less) (keys_of es) → NonePasses (is_at (R key)) es
  none_past o key x [] is a = tt
  none_past {R} o key x (e ∷ es) is a =
      let same : R key x ≡ Equal = elim (R key x) as (λ r. is_eq r ≡ true → r ≡ Equal) [ Less ↦ λ h. cc | Equal ↦ λ h. refl | Greater ↦ λ h. cc ] is in
      (ap is_eq (o.congr key x e.0 same ∙ a.0), none_past o key x es is a.1)

  pub one : {R : K → K → Ordering} → IsTotalOrder R → (key : K) (es : List (K × List (ℕ × Option V))) → IsMap R es → IsOne (is_at (R key)) es
  unfolding IsStrictlySortedBy
  one o key [] s = tt
  one o key (e ∷ es) s = (λ is. none_past o key e.0 es is s.0, one o key es s.1)

  pub others_same : (test : K → Bool) (left : List (ℕ × Option V)) (es : List (K × List (ℕ × Option V))) → remove_entry test (set_value test es left) ≡ remove_entry test es
  others_same test left [] = refl
  others_same test left (e ∷ es) =
      elim (test e.0) as (λ b. test e.0 ≡ b → remove_entry test (cond b ((e.0, left) ∷ es) (e ∷ set_value test es left)) ≡ cond b es (e ∷ remove_entry test es)) [
        | true ↦ λ t. ap (λ b. cond b es ((e.0, left) ∷ remove_entry test es)) t
        | false ↦ λ t. ap (λ b. cond b (set_value test es left) (e ∷ remove_entry test (set_value test es left))) t ∙ ap (λ (rest : List (K × List (ℕ × Option V))). e ∷ rest) (others_same test left es)
      ] refl
