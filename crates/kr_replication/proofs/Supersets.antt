-- A walk over keys in order, each looked up, is the walk over the entries of a map where every entry that gives anything has
-- its key among them.
use Rattle.std.proofs.Common.{◌≡◌, ◌∙◌, false, ◌||◌, cond, List, [], ◌∷◌, ◌++◌, refl, sym, ap, subst}
use Rattle.std.specs.Prelude.{Some, flat_map}
use Rattle.std.specs.declared.cmp.Ordering.{Ordering}
use Rattle.std.specs.declared.cmp.Ordering.TheVariants.{Less, Equal, Greater}
use Rattle.std.specs.Ordering.{is_eq, ordering_reverse}
use Rattle.std.specs.Cmp.{IsTotalOrder}
use Rattle.std.specs.BTreeMap.{is_at}
use Rattle.std.specs.List.{AllByRecursion, list_any}
use Rattle.std.specs.List.Sorted.{IsStrictlySortedBy}
use Rattle.std.specs.Map.{keys_of}
use Rattle.std.specs.Option.{option_map_or}
use Rattle.kr_defs.specs.Map.{IsMap, get}
use Rattle.kr_defs.proofs.Maps.{below_all, none_below}
use Rattle.kr_defs.proofs.Walks.{behind_apart}

module _ {K V X : Type 0} {R : K → K → Ordering} (o : IsTotalOrder R) (same : (x y : K) → R x y ≡ Equal → x ≡ y) (out : K → V → List X) where
  -- what the key gives
  abbrev pub at_key : List (K × V) → K → List X
  at_key es k = option_map_or (out k) (get R es k) []

  -- what the entry gives
  abbrev pub of_entry : K × V → List X
  of_entry e = out e.0 e.1

  -- an entry whose key isn't among these gives nothing
  abbrev pub IsCovered : List K → K × V → Type 0
  IsCovered ks e = list_any (is_at (R e.0)) ks ≡ false → out e.0 e.1 ≡ []

  nowhere : (ks : List K) → flat_map (at_key []) ks ≡ []
  nowhere [] = refl
  nowhere (k ∷ ks) = nowhere ks

  nothing : (es : List (K × V)) → AllByRecursion (IsCovered []) es → flat_map of_entry es ≡ []
  nothing [] a = refl
  nothing (e ∷ es) a = ap (λ xs. xs ++ flat_map of_entry es) (a.0 refl) ∙ nothing es a.1

  not_equal : (x : K) (ks : List K) → AllByRecursion (λ z. R x z ≡ Less) ks → list_any (is_at (R x)) ks ≡ false
  not_equal x [] a = refl
  not_equal x (k ∷ ks) a = ap (λ r. is_eq r || list_any (is_at (R x)) ks) a.0 ∙ not_equal x ks a.1

  -- keys behind an entry are looked up behind it
  later_keys : (e : K × V) (es : List (K × V)) (ks : List K) → AllByRecursion (λ z. R e.0 z ≡ Less) ks → flat_map (at_key (e ∷ es)) ks ≡ flat_map (at_key es) ks
  later_keys e es [] a = refl
  later_keys e es (k ∷ ks) a =
      ap (λ b. option_map_or (out k) (cond b (Some e.1) (get R es k)) [] ++ flat_map (at_key (e ∷ es)) ks) (behind_apart o e.0 k a.0)
      ∙ ap (λ xs. at_key es k ++ xs) (later_keys e es ks a.1)

  -- entries behind a key are covered without it
  covered_later : (k : K) (ks : List K) (es : List (K × V)) → AllByRecursion (λ z. R k z ≡ Less) (keys_of es) → AllByRecursion (IsCovered (k ∷ ks)) es → AllByRecursion (IsCovered ks) es
  covered_later k ks [] lt a = tt
  covered_later k ks (e ∷ es) lt a =
      ((λ none. a.0 (ap (λ b. b || list_any (is_at (R e.0)) ks) (behind_apart o k e.0 lt.0) ∙ none)), covered_later k ks es lt.1 a.1)

  abbrev Same : List K → Type 0
  Same ks = (es : List (K × V)) → IsMap R es → AllByRecursion (IsCovered ks) es → flat_map (at_key es) ks ≡ flat_map of_entry es

  same_more : (k : K) (ks : List K) → AllByRecursion (λ z. R k z ≡ Less) ks → Same ks → Same (k ∷ ks)
  unfolding IsStrictlySortedBy
  same_more k ks lt rest [] s a = nowhere (k ∷ ks)
  same_more k ks lt rest (e ∷ es) s a =
      elim (R k e.0) as (λ r. R k e.0 ≡ r → flat_map (at_key (e ∷ es)) (k ∷ ks) ≡ flat_map of_entry (e ∷ es)) [
        | Less ↦ λ is.
            let below : AllByRecursion (λ z. R k z ≡ Less) (keys_of (e ∷ es)) = (is, below_all o k e.0 (keys_of es) is s.0) in
            ap (λ found. option_map_or (out k) found [] ++ flat_map (at_key (e ∷ es)) ks) (none_below o (e ∷ es) k below)
            ∙ rest (e ∷ es) s (covered_later k ks (e ∷ es) below a)
        | Equal ↦ λ is.
            let one : k ≡ e.0 = same k e.0 is in
            let behind : AllByRecursion (λ z. R e.0 z ≡ Less) ks = subst (λ (x : K). AllByRecursion (λ z. R x z ≡ Less) ks) one lt in
            let below : AllByRecursion (λ z. R k z ≡ Less) (keys_of es) = subst (λ (x : K). AllByRecursion (λ z. R x z ≡ Less) (keys_of es)) (sym one) s.0 in
            ap (λ r. option_map_or (out k) (cond (is_eq r) (Some e.1) (get R es k)) [] ++ flat_map (at_key (e ∷ es)) ks) is
            ∙ (ap (λ x. out x e.1 ++ flat_map (at_key (e ∷ es)) ks) one
            ∙ ap (λ xs. out e.0 e.1 ++ xs) (later_keys e es ks behind ∙ rest es s.1 (covered_later k ks es below a.1)))
        | Greater ↦ λ is.
            let less : R e.0 k ≡ Less = o.antisymm e.0 k ∙ ap ordering_reverse is in
            let behind : AllByRecursion (λ z. R e.0 z ≡ Less) (k ∷ ks) = (less, below_all o e.0 k ks less lt) in
            later_keys e es (k ∷ ks) behind ∙ (same_more k ks lt rest es s.1 a.1 ∙ ap (λ xs. xs ++ flat_map of_entry es) (sym (a.0 (not_equal e.0 (k ∷ ks) behind))))
      ] refl

  pub superset : (ks : List K) → IsStrictlySortedBy R ks → Same ks
  unfolding IsStrictlySortedBy
  superset [] sorted es s a = sym (nothing es a)
  superset (k ∷ ks) sorted es s a = same_more k ks sorted.0 (superset ks sorted.1) es s a
