-- Walks over the entries of a map in the order of their keys: what is left, and what was passed.
use Rattle.std.proofs.Common.{◌≡◌, ◌∙◌, ◌<◌, true, false, cond, List, [], ◌∷◌, ◌++◌, length, refl, sym, ap, subst, append_assoc, arith}
use Rattle.std.specs.Prelude.{Option, Some, None, slice_get, ◌&&◌}
use Rattle.std.specs.declared.cmp.Ordering.{Ordering}
use Rattle.std.specs.declared.cmp.Ordering.TheVariants.{Less, Equal, Greater}
use Rattle.std.specs.Ordering.{is_lt, is_eq, match_ordering, ordering_reverse}
use Rattle.std.specs.Cmp.{IsTotalOrder}
use Rattle.std.specs.List.{AllByRecursion}
use Rattle.std.specs.List.Sorted.{IsStrictlySortedBy}
use Rattle.std.specs.Map.{keys_of}
use Rattle.std.specs.BTreeMap.{insert_entry}
use Rattle.std.proofs.lemmas.List.{append-nil}
use Rattle.std.proofs.lemmas.List.Elements.{All-from_recursion}
use Rattle.kr_defs.specs.Map.{IsMap, get, insert, above, next}
use Rattle.kr_defs.specs.MapLaws.{MapLaws}
use Rattle.kr_defs.proofs.Maps.{below_all}
use Rattle.kr_defs.proofs.Tests.{some_is}

mirrored : (r : Ordering) → r ≡ ordering_reverse r → r ≡ Equal
mirrored Less e = absurd cc
mirrored Equal e = refl
mirrored Greater e = absurd cc

-- no entry is left where there is no next one
pub walk_end : {X : Type 0} (xs : List X) → slice_get xs 0 ≡ None → xs ≡ []
walk_end [] e = refl
walk_end (x ∷ xs) e = absurd cc

module _ {K : Type 0} {R : K → K → Ordering} (o : IsTotalOrder R) where
  equal_both : (q k e : K) → R k e ≡ Equal → R q e ≡ R q k
  equal_both q k e is = o.antisymm q e ∙ (ap ordering_reverse (sym (o.congr k e q is)) ∙ sym (o.antisymm q k))

  -- a key that another is below
  pub behind_apart : (k q : K) → R k q ≡ Less → is_eq (R q k) ≡ false
  behind_apart k q lt = rw (o.antisymm q k ∙ ap ordering_reverse lt) refl

module _ {K V : Type 0} {R : K → K → Ordering} (o : IsTotalOrder R) where
  -- below all entries, all of them stand above
  above_whole : (k : K) (es : List (K × V)) → AllByRecursion (λ z. R k z ≡ Less) (keys_of es) → above R es (Some k) ≡ es
  above_whole k [] a = refl
  above_whole k (e ∷ es) a = rw a.0 (ap (λ xs. e ∷ xs) (above_whole k es a.1))

  above_first : (e : K × V) (es : List (K × V)) → IsMap R (e ∷ es) → above R (e ∷ es) (Some e.0) ≡ es
  unfolding IsStrictlySortedBy
  above_first e es s = rw (mirrored (R e.0 e.0) (o.antisymm e.0 e.0)) (above_whole e.0 es s.0)

  above_passed : (e : K × V) (es : List (K × V)) (k : K) → R e.0 k ≡ Less → above R (e ∷ es) (Some k) ≡ above R es (Some k)
  above_passed e es k lt = rw (o.antisymm k e.0 ∙ ap ordering_reverse lt) refl

  -- what holds of each key holds of the next one's
  pub found_among : (P : K → Type 0) (k : K) (es : List (K × V)) (e : K × V) → AllByRecursion P (keys_of es) → slice_get (above R es (Some k)) 0 ≡ Some e → P e.0
  found_among P k [] e a found = absurd cc
  found_among P k (d ∷ ds) e a found =
      elim (is_lt (R k d.0)) as (λ b. slice_get (cond (b && true) (d ∷ above R ds (Some k)) (above R ds (Some k))) 0 ≡ Some e → P e.0) [
        | true ↦ λ found. subst (λ (x : K × V). P x.0) (some_is d e found) a.0
        | false ↦ λ found. found_among P k ds e a.1 found
      ] found

  next_above : (k : K) (es : List (K × V)) (e : K × V) → IsMap R es → slice_get (above R es (Some k)) 0 ≡ Some e → above R es (Some k) ≡ e ∷ above R es (Some e.0)
  unfolding IsStrictlySortedBy
  next_above k [] e s found = absurd cc
  next_above k (d ∷ ds) e s found =
      let later : slice_get (above R ds (Some k)) 0 ≡ Some e → above R ds (Some k) ≡ e ∷ above R (d ∷ ds) (Some e.0) = λ found. next_above k ds e s.1 found ∙ ap (λ xs. e ∷ xs) (sym (above_passed d ds e.0 (found_among (λ z. R d.0 z ≡ Less) k ds e s.0 found))) in
      elim (R k d.0) as (λ r. R k d.0 ≡ r → slice_get (cond (is_lt r && true) (d ∷ above R ds (Some k)) (above R ds (Some k))) 0 ≡ Some e → cond (is_lt r && true) (d ∷ above R ds (Some k)) (above R ds (Some k)) ≡ e ∷ above R (d ∷ ds) (Some e.0)) [
        | Less ↦ λ is found. subst (λ (x : K × V). d ∷ above R ds (Some k) ≡ x ∷ above R (d ∷ ds) (Some x.0)) (some_is d e found) (ap (λ xs. d ∷ xs) (above_whole k ds (below_all o k d.0 (keys_of ds) is s.0) ∙ sym (above_first d ds s)))
        | Equal ↦ λ is found. later found
        | Greater ↦ λ is found. later found
      ] refl found

  -- the entries that are left begin with the next one
  pub walk_next : (es : List (K × V)) (after : Option K) (e : K × V) → IsMap R es → next R es after ≡ Some e → above R es after ≡ e ∷ above R es (Some e.0)
  walk_next [] None e s found = absurd cc
  walk_next (d ∷ ds) None e s found = subst (λ (x : K × V). d ∷ ds ≡ x ∷ above R (d ∷ ds) (Some x.0)) (some_is d e found) (ap (λ xs. d ∷ xs) (sym (above_first d ds s)))
  walk_next es (Some k) e s found = next_above k es e s found

  -- what a list of them gives, where each entry gives its own part
  pub walk_more : {Y : Type 0} (f : List (K × V) → List Y) → ((e : K × V) (es : List (K × V)) → f (e ∷ es) ≡ f (e ∷ []) ++ f es) → (es : List (K × V)) (after : Option K) (e : K × V) → IsMap R es → Some e ≡ next R es after → (so_far : List Y) → (so_far ++ f (e ∷ [])) ++ f (above R es (Some e.0)) ≡ so_far ++ f (above R es after)
  walk_more f parts es after e s found so_far = append_assoc so_far (f (e ∷ [])) (f (above R es (Some e.0))) ∙ ap (λ ys. so_far ++ ys) (sym (ap f (walk_next es after e s (sym found)) ∙ parts e (above R es (Some e.0))))

  pub walk_less : (es : List (K × V)) (after : Option K) (e : K × V) → IsMap R es → Some e ≡ next R es after → length (above R es (Some e.0)) < length (above R es after)
  walk_less es after e s found = let n = ap length (walk_next es after e s (sym found)) in omega (arith, n)

  -- at the end all is told
  pub walk_over : {Y : Type 0} (f : List (K × V) → List Y) → f [] ≡ [] → (es : List (K × V)) (after : Option K) → None ≡ next R es after → (so_far all : List Y) → so_far ++ f (above R es after) ≡ all → so_far ≡ all
  walk_over f empty es after none so_far all told = sym (append-nil so_far) ∙ (ap (λ ys. so_far ++ ys) (sym (ap f (walk_end (above R es after) (sym none)) ∙ empty)) ∙ told)

  -- what stands above a key has greater keys
  pub all_above : (k : K) (es : List (K × V)) → AllByRecursion (λ z. R k z ≡ Less) (keys_of (above R es (Some k)))
  all_above k [] = tt
  all_above k (d ∷ ds) =
      elim (R k d.0) as (λ r. R k d.0 ≡ r → AllByRecursion (λ z. R k z ≡ Less) (keys_of (cond (is_lt r && true) (d ∷ above R ds (Some k)) (above R ds (Some k))))) [
        | Less ↦ λ is. (is, all_above k ds)
        | Equal ↦ λ is. all_above k ds
        | Greater ↦ λ is. all_above k ds
      ] refl

  -- ---- values

  -- another key has its value as before
  pub get_other : (es : List (K × V)) (k q : K) (v : V) → is_eq (R q k) ≡ false → get R (insert R es k v) q ≡ get R es q
  get_other [] k q v apart = rw apart refl
  get_other (e ∷ es) k q v apart =
      elim (R k e.0) as (λ r. R k e.0 ≡ r → get R (match_ordering r ((k, v) ∷ e ∷ es) ((e.0, v) ∷ es) (e ∷ insert_entry R es k v)) q ≡ get R (e ∷ es) q) [
        | Less ↦ λ is. rw apart refl
        | Equal ↦ λ is. rw (equal_both o q k e.0 is, apart) refl
        | Greater ↦ λ is. ap (λ o. cond (is_eq (R q e.0)) (Some e.1) o) (get_other es k q v apart)
      ] refl

  own_later : (e : K × V) (es ds : List (K × V)) → AllByRecursion (λ z. R e.0 z ≡ Less) (keys_of ds) → AllByRecursion (λ d. get R es d.0 ≡ Some d.1) ds → AllByRecursion (λ d. get R (e ∷ es) d.0 ≡ Some d.1) ds
  own_later e es [] lt own = tt
  own_later e es (d ∷ ds) lt own = (rw (behind_apart o e.0 d.0 lt.0) own.0, own_later e es ds lt.1 own.1)

  -- in a map each entry is found under its key
  pub own_entries : (es : List (K × V)) → IsMap R es → AllByRecursion (λ e. get R es e.0 ≡ Some e.1) es
  unfolding IsStrictlySortedBy
  own_entries [] s = tt
  own_entries (e ∷ es) s = (rw (mirrored (R e.0 e.0) (o.antisymm e.0 e.0)) refl, own_later e es es s.0 (own_entries es s.1))

pub maps_hold : {K V : Type 0} (order : K → K → Ordering) (entries : List (K × V)) → MapLaws order entries
maps_hold {K} {V} order entries o s = record {
  walks = record {
    begins = refl;
    goes_on = λ after e found. walk_next o entries after e s found;
    ends = λ after none. walk_end (above order entries after) none;
  };
  found = All-from_recursion (λ (e : K × V). get order entries e.0 ≡ Some e.1) entries (own_entries o entries s);
  apart = λ key other value apart. get_other o entries key other value apart;
}
