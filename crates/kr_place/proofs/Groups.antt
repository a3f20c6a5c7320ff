-- Sorting and grouping keeps the brokers: the racks have each once, and no rack is empty.
use Rattle.std.proofs.Common.{◌≡◌, ℕ, ℤ, ◌+◌, ◌<◌, true, false, cond, List, [], ◌∷◌, ◌++◌, Option, None, Some, length, map, length-append, refl, sym, ◌∙◌, ap, arith}
use Rattle.std.specs.Prelude.{sum_by, unwrap_or, option_map, fold, All}
use Rattle.std.specs.declared.cmp.Ordering.TheVariants.{Less, Equal, Greater}
use Rattle.std.specs.BTreeMap.{is_at}
use Rattle.std.specs.Cmp.{IsTotalOrder, eq_by_cmp_equiv, int_eq_equiv}
use Rattle.std.specs.Cmp.Lexicographic.{options_total}
use Rattle.std.specs.List.{IsDistinct, AllByRecursion}
use Rattle.std.specs.List.Sorted.{IsStrictlySortedBy}
use Rattle.std.specs.Map.{keys_of, values_of}
use Rattle.std.specs.Ordering.{int_cmp, int_eq, is_eq, match_ordering, eq_by_cmp}
use Rattle.std.proofs.lemmas.Cmp.{nat_list_cmp_total}
use Rattle.std.proofs.lemmas.List.Elements.{recursion_from_All, All-from_recursion}
use Rattle.std.proofs.lemmas.List.Sums.{sum_by-cons, sum_by_push}
use Rattle.std.proofs.lemmas.Map.{lookup-remove_entry}
use Rattle.std.proofs.lemmas.Map.Entries.{sum_by-insert_entry, sum_by-remove_entry}
use Rattle.std.proofs.lemmas.Map.Keys.{IsDistinct-from_sorted}
use Rattle.std.proofs.lemmas.Map.Lookups.{exact_signed}
use Rattle.kr_defs.proofs.Maps.{IsMap-insert, IsMap-remove, All-insert, All-remove}
use Rattle.kr_defs.specs.Map.{IsMap, get}
use Rattle.kr_defs.specs.Map as entries
use Rattle.kr_defs.specs.Placed.{Rack, rack_order, by_id, into_rack, racks_of}

pub rack_total : IsTotalOrder rack_order
rack_total = options_total nat_list_cmp_total

-- ---- by id

apart : (x y : ℤ) → int_eq x y ≡ false → is_eq (int_cmp y x) ≡ false
apart x y differ =
    elim (int_cmp y x) as (λ r. int_cmp y x ≡ r → is_eq r ≡ false) [
      | Less ↦ λ is. refl
      | Equal ↦ λ is.
          let e : y ≡ x = exact_signed y x is in
          let same : int_eq x x ≡ true = int_eq_equiv.refl x in
          let other : int_eq x x ≡ false = ap (int_eq x) (sym e) ∙ differ in
          absurd cc
      | Greater ↦ λ is. refl
    ] refl

-- another key keeps its value
get-other : (es : List (ℤ × Rack)) (k : ℤ) (v : Rack) (q : ℤ) → is_eq (int_cmp q k) ≡ false → get int_cmp es q ≡ None → get int_cmp (entries.insert int_cmp es k v) q ≡ None
get-other [] k v q differ none = ap (λ b. cond b (Some v) None) differ
get-other (e ∷ es) k v q differ none =
    elim (is_eq (int_cmp q e.0)) as (λ b. is_eq (int_cmp q e.0) ≡ b → cond b (Some e.1) (get int_cmp es q) ≡ None → get int_cmp (entries.insert int_cmp (e ∷ es) k v) q ≡ None) [
      | true ↦ λ is found. absurd cc
      | false ↦ λ is found.
          elim (int_cmp k e.0) as (λ r. get int_cmp (match_ordering r ((k, v) ∷ e ∷ es) ((e.0, v) ∷ es) (e ∷ entries.insert int_cmp es k v)) q ≡ None) [
            | Less ↦ ap (λ b. cond b (Some v) (get int_cmp (e ∷ es) q)) differ ∙ none
            | Equal ↦ ap (λ b. cond b (Some v) (get int_cmp es q)) is ∙ found
            | Greater ↦ ap (λ b. cond b (Some e.1) (get int_cmp (entries.insert int_cmp es k v) q)) is ∙ get-other es k v q differ found
          ]
    ] refl none

pub all-other : (es : List (ℤ × Rack)) (k : ℤ) (v : Rack) (ids : List ℤ) → AllByRecursion (λ y. int_eq k y ≡ false) ids → AllByRecursion (λ y. get int_cmp es y ≡ None) ids
    → AllByRecursion (λ y. get int_cmp (entries.insert int_cmp es k v) y ≡ None) ids
all-other es k v [] differ none = tt
all-other es k v (y ∷ ids) differ none = (get-other es k v y (apart k y differ.0) none.0, all-other es k v ids differ.1 none.1)

module _ (f : ℤ → ℕ) where
  insert-sum : (es : List (ℤ × Rack)) (k : ℤ) (v : Rack) → get int_cmp es k ≡ None → sum_by f (keys_of (entries.insert int_cmp es k v)) ≡ sum_by f (keys_of es) + f k
  insert-sum [] k v none = refl
  insert-sum (e ∷ es) k v none =
      elim (int_cmp k e.0) as (λ r. cond (is_eq r) (Some e.1) (get int_cmp es k) ≡ None
      → sum_by f (keys_of (match_ordering r ((k, v) ∷ e ∷ es) ((e.0, v) ∷ es) (e ∷ entries.insert int_cmp es k v))) ≡ sum_by f (keys_of (e ∷ es)) + f k) [
        | Less ↦ λ found. let more = sum_by-cons f k (keys_of (e ∷ es)) in omega (arith, more)
        | Equal ↦ λ found. absurd cc
        | Greater ↦ λ found.
            let rest = insert-sum es k v found in
            let old = sum_by-cons f e.0 (keys_of es) in
            let new = sum_by-cons f e.0 (keys_of (entries.insert int_cmp es k v)) in
            omega (arith, rest, old, new)
      ] none

  fold-sum : (brokers sorted : List (ℤ × Rack)) → IsDistinct int_eq (map (λ (b : ℤ × Rack). b.0) brokers) → AllByRecursion (λ y. get int_cmp sorted y ≡ None) (map (λ (b : ℤ × Rack). b.0) brokers)
      → sum_by f (keys_of (fold (λ (es : List (ℤ × Rack)) (b : ℤ × Rack). entries.insert int_cmp es b.0 b.1) sorted brokers)) ≡ sum_by f (keys_of sorted) + sum_by f (map (λ (b : ℤ × Rack). b.0) brokers)
  unfolding IsDistinct
  fold-sum [] sorted distinct none = omega arith
  fold-sum (b ∷ brokers) sorted distinct none =
      let one = insert-sum sorted b.0 b.1 none.0 in
      let rest = fold-sum brokers (entries.insert int_cmp sorted b.0 b.1) distinct.1 (all-other sorted b.0 b.1 (map (λ (c : ℤ × Rack). c.0) brokers) distinct.0 none.1) in
      let all = sum_by-cons f b.0 (map (λ (c : ℤ × Rack). c.0) brokers) in
      omega (arith, one, rest, all)

abbrev pub nobody : List (ℤ × Rack)
nobody = []

pub none-empty : (ids : List ℤ) → AllByRecursion (λ y. get int_cmp nobody y ≡ None) ids
none-empty [] = tt
none-empty (y ∷ ids) = (refl, none-empty ids)

-- ---- by rack

pub get-gone : (racks : List (Rack × List ℤ)) (rack : Rack) → IsMap rack_order racks → get rack_order (entries.remove rack_order racks rack) rack ≡ None
get-gone racks rack ordered =
    let laws = eq_by_cmp_equiv rack_total in
    let is : get rack_order (entries.remove rack_order racks rack) rack ≡ cond (eq_by_cmp rack_order rack rack) None (get rack_order racks rack) =
    lookup-remove_entry {eq = eq_by_cmp rack_order} laws (eq_by_cmp rack_order rack) (λ x y at_x. sym (laws.congr x rack y (laws.symm x rack ∙ at_x))) rack racks (IsDistinct-from_sorted rack_order (keys_of racks) ordered) in
    is ∙ ap (λ b. cond b None (get rack_order racks rack)) (laws.refl rack)

filled-push : (xs : List ℤ) (x : ℤ) → 0 < length (xs ++ x ∷ [])
filled-push xs x = omega (arith, length-append xs (x ∷ []))

joined-filled : (racks : List (Rack × List ℤ)) (b : ℤ × Rack) → All (λ (e : Rack × List ℤ). 0 < length e.1) racks → All (λ (e : Rack × List ℤ). 0 < length e.1) (into_rack racks b)
joined-filled racks (id, rack) filled =
    let new : 0 < length (unwrap_or (get rack_order racks rack) [] ++ id ∷ []) = filled-push (unwrap_or (get rack_order racks rack) []) id in
    All-insert rack_order (λ (e : Rack × List ℤ). 0 < length e.1) (entries.remove rack_order racks rack) rack _ (λ j u was. new) new
    (All-remove rack_order (λ (e : Rack × List ℤ). 0 < length e.1) racks rack filled)

pub joined-map : (racks : List (Rack × List ℤ)) (b : ℤ × Rack) → IsMap rack_order racks → IsMap rack_order (into_rack racks b)
joined-map racks (id, rack) ordered = IsMap-insert rack_total (entries.remove rack_order racks rack) rack _ (IsMap-remove rack_total racks rack ordered)

fold-filled : (bs : List (ℤ × Rack)) (racks : List (Rack × List ℤ)) → All (λ (e : Rack × List ℤ). 0 < length e.1) racks → All (λ (e : Rack × List ℤ). 0 < length e.1) (fold into_rack racks bs)
fold-filled [] racks filled = filled
fold-filled (b ∷ bs) racks filled = fold-filled bs (into_rack racks b) (joined-filled racks b filled)

values-filled : (es : List (Rack × List ℤ)) → AllByRecursion (λ (e : Rack × List ℤ). 0 < length e.1) es → AllByRecursion (λ (r : List ℤ). 0 < length r) (values_of es)
values-filled [] filled = tt
values-filled (e ∷ es) filled = (filled.0, values-filled es filled.1)

-- no rack is empty
pub racks-filled : (brokers : List (ℤ × Rack)) → All (λ (r : List ℤ). 0 < length r) (racks_of brokers)
unfolding racks_of
racks-filled brokers =
    All-from_recursion (λ (r : List ℤ). 0 < length r) _ (values-filled _ (recursion_from_All (λ (e : Rack × List ℤ). 0 < length e.1) _ (fold-filled (by_id brokers) [] (All-from_recursion (λ (e : Rack × List ℤ). 0 < length e.1) [] tt))))

module _ (f : ℤ → ℕ) where
  sum-push : (o : Option (List ℤ)) (id : ℤ) → sum_by f (unwrap_or o [] ++ id ∷ []) ≡ unwrap_or (option_map (sum_by f) o) 0 + f id
  sum-push None id = refl
  sum-push (Some xs) id = sum_by_push f xs id

  joined-sum : (racks : List (Rack × List ℤ)) (b : ℤ × Rack) → IsMap rack_order racks → sum_by (sum_by f) (values_of (into_rack racks b)) ≡ sum_by (sum_by f) (values_of racks) + f b.0
  joined-sum racks (id, rack) ordered =
      let old : Option (List ℤ) = get rack_order racks rack in
      let less : List (Rack × List ℤ) = entries.remove rack_order racks rack in
      let ids : List ℤ = unwrap_or old [] ++ id ∷ [] in
      let without : sum_by (sum_by f) (values_of less) + unwrap_or (option_map (sum_by f) old) 0 ≡ sum_by (sum_by f) (values_of racks) = sum_by-remove_entry (sum_by f) (is_at (rack_order rack)) racks in
      let gone : unwrap_or (option_map (sum_by f) (get rack_order less rack)) 0 ≡ 0 = ap (λ o. unwrap_or (option_map (sum_by f) o) 0) (get-gone racks rack ordered) in
      let with_it : sum_by (sum_by f) (values_of (entries.insert rack_order less rack ids)) + unwrap_or (option_map (sum_by f) (get rack_order less rack)) 0 ≡ sum_by (sum_by f) (values_of less) + sum_by f ids =
      sum_by-insert_entry (sum_by f) rack_total less rack ids (IsMap-remove rack_total racks rack ordered) in
      let pushed = sum-push old id in
      omega (arith, without, gone, with_it, pushed)

  group-sum : (bs : List (ℤ × Rack)) (racks : List (Rack × List ℤ)) → IsMap rack_order racks → sum_by (sum_by f) (values_of (fold into_rack racks bs)) ≡ sum_by (sum_by f) (values_of racks) + sum_by f (keys_of bs)
  group-sum [] racks ordered = omega arith
  group-sum (b ∷ bs) racks ordered =
      let one = joined-sum racks b ordered in
      let rest = group-sum bs (into_rack racks b) (joined-map racks b ordered) in
      let all = sum_by-cons f b.0 (keys_of bs) in
      omega (arith, one, rest, all)

  -- the racks have each broker once
  pub racks-sum : (brokers : List (ℤ × Rack)) → IsDistinct int_eq (map (λ (b : ℤ × Rack). b.0) brokers) → sum_by (sum_by f) (racks_of brokers) ≡ sum_by f (map (λ (b : ℤ × Rack). b.0) brokers)
  unfolding racks_of IsStrictlySortedBy
  racks-sum brokers distinct =
      let sorted = fold-sum f brokers [] distinct (none-empty (map (λ (b : ℤ × Rack). b.0) brokers)) in
      let grouped = group-sum (by_id brokers) [] tt in
      omega (arith, sorted, grouped)
