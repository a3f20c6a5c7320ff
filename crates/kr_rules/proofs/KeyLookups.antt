-- What stands at a key, after one is set or goes.
use Rattle.std.proofs.Common.{◌≡◌, ◌∙◌, true, cond, List, [], ◌∷◌, refl, sym, ap}
use Rattle.std.specs.Prelude.{Some, None}
use Rattle.std.specs.declared.cmp.Ordering.{Ordering}
use Rattle.std.specs.declared.cmp.Ordering.TheVariants.{Less, Equal, Greater}
use Rattle.std.specs.Ordering.{is_eq, eq_by_cmp, match_ordering}
use Rattle.std.specs.BTreeMap.{insert_entry}
use Rattle.std.specs.Cmp.{IsTotalOrder, eq_by_cmp_equiv}
use Rattle.std.specs.Map.{keys_of}
use Rattle.std.proofs.lemmas.Map.{lookup-remove_entry}
use Rattle.std.proofs.lemmas.Map.Keys.{IsDistinct-from_sorted}
use Rattle.kr_defs.specs.Map.{IsMap, get, insert, remove}
use Rattle.kr_defs.proofs.Walks.{get_other}

module _ {K V : Type 0} {R : K → K → Ordering} (o : IsTotalOrder R) where
  get_own : (es : List (K × V)) (k q : K) (v : V) → R q k ≡ Equal → get R (insert R es k v) q ≡ Some v
  get_own [] k q v is = rw is refl
  get_own (e ∷ es) k q v is =
      elim (R k e.0) as (λ r. R k e.0 ≡ r → get R (match_ordering r ((k, v) ∷ e ∷ es) ((e.0, v) ∷ es) (e ∷ insert_entry R es k v)) q ≡ Some v) [
        | Less ↦ λ at. rw is refl
        | Equal ↦ λ at. rw (o.congr q k e.0 is ∙ at) refl
        | Greater ↦ λ at. rw (o.congr q k e.0 is ∙ at) (get_own es k q v is)
      ] refl

  -- what stands at a key after one was set
  pub get_inserted : (es : List (K × V)) (k q : K) (v : V) → get R (insert R es k v) q ≡ cond (is_eq (R q k)) (Some v) (get R es q)
  get_inserted es k q v =
      elim (R q k) as (λ r. R q k ≡ r → get R (insert R es k v) q ≡ cond (is_eq r) (Some v) (get R es q)) [
        | Less ↦ λ is. get_other o es k q v (ap is_eq is)
        | Equal ↦ λ is. get_own es k q v is
        | Greater ↦ λ is. get_other o es k q v (ap is_eq is)
      ] refl

  -- the same after one went
  pub get_removed : (es : List (K × V)) (k q : K) → IsMap R es → get R (remove R es k) q ≡ cond (is_eq (R q k)) None (get R es q)
  get_removed es k q ordered =
      let laws = eq_by_cmp_equiv o in
      let is : get R (remove R es k) q ≡ cond (eq_by_cmp R k q) None (get R es q) =
      lookup-remove_entry {eq = eq_by_cmp R} laws (eq_by_cmp R k) (λ x y at_x. sym (laws.congr x k y (laws.symm x k ∙ at_x))) q es (IsDistinct-from_sorted R (keys_of es) ordered) in
      is ∙ ap (λ b. cond b None (get R es q)) (laws.symm k q)
