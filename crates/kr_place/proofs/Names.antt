-- The racks by name are the racks that the visits go over.
use Rattle.std.proofs.Common.{◌≡◌, ℕ, ℤ, ◌<◌, Bool, true, false, cond, ◌||◌, ◌&&◌, List, [], ◌∷◌, ◌++◌, None, Some, length, map, refl, sym, ◌∙◌, ap, arith}
use Rattle.std.specs.Prelude.{sum_by, unwrap_or, fold, filter, min}
use Rattle.std.specs.declared.cmp.Ordering.{Ordering}
use Rattle.std.specs.declared.cmp.Ordering.TheVariants.{Less, Equal, Greater}
use Rattle.std.specs.Cmp.{eq_by_cmp_equiv}
use Rattle.std.specs.List.{IsDistinct, AllByRecursion, list_any, count_by}
use Rattle.std.specs.List.Sorted.{IsStrictlySortedBy}
use Rattle.std.specs.Map.{keys_of}
use Rattle.std.specs.Ordering.{int_cmp, int_eq, is_eq, match_ordering}
use Rattle.std.proofs.Math.Bool.{or_comm, or_assoc}
use Rattle.std.proofs.lemmas.List.Elements.{recursion_from_All}
use Rattle.std.proofs.lemmas.List.Folds.{list_any-append}
use Rattle.std.proofs.lemmas.List.Sums.{sum_by-cons, length-filter}
use Rattle.std.proofs.lemmas.Map.Entries.{length-keys_of}
use Rattle.std.proofs.lemmas.Map.Keys.{IsDistinct-from_sorted}
use Rattle.std.proofs.lemmas.Map.Made.{length-from_keys, IsDistinct-keys_filter}
use Rattle.kr_defs.specs.Map.{IsMap, get}
use Rattle.kr_defs.specs.Map as entries
use Rattle.kr_defs.specs.Placed.{Rack, rack_order, by_id, into_rack, racks_of, placed}
use Rattle.kr_place.specs.Spread.{ids_of, same_rack, rack_count, with_ids}
use Rattle.kr_place.proofs.RackCoverage.{has, placed-touched}
use Rattle.kr_place.proofs.Groups.{rack_total, all-other, none-empty, get-gone, joined-map, racks-filled}

-- ---- tests

or-none : (a : Bool) → a ≡ (a || false)
or-none true = refl
or-none false = refl

and-none : (a : Bool) → false ≡ (a && false)
and-none true = refl
and-none false = refl

kept : (a r s : Bool) → r ≡ s → (a || r) ≡ ((a && true) || s)
kept true r s e = refl
kept false r s e = e

dropped : (a r s : Bool) → r ≡ s → r ≡ ((a && false) || s)
dropped true r s e = e
dropped false r s e = e

regroup : (a y o s : Bool) → (a || (y && (o || s))) ≡ ((a || (y && o)) || (y && s))
regroup true y o s = refl
regroup false true o s = refl
regroup false false o s = refl

any-filter : {X K : Type 0} (g : X → K) (p : K → Bool) (t : X → Bool) (xs : List X) → list_any p (map g (filter t xs)) ≡ list_any (λ x. p (g x) && t x) xs
any-filter g p t [] = refl
any-filter g p t (x ∷ xs) =
    let rest = any-filter g p t xs in
    elim (t x) as (λ b. list_any p (map g (cond b (x ∷ filter t xs) (filter t xs))) ≡ ((p (g x) && b) || list_any (λ y. p (g y) && t y) xs)) [
      | true ↦ kept (p (g x)) _ _ rest
      | false ↦ dropped (p (g x)) _ _ rest
    ]

-- a new key
any-insert : {K V : Type 0} (R : K → K → Ordering) (p : K × V → Bool) (es : List (K × V)) (k : K) (v : V) → get R es k ≡ None → list_any p (entries.insert R es k v) ≡ (list_any p es || p (k, v))
any-insert R p [] k v none = or_comm (p (k, v)) false
any-insert R p (e ∷ es) k v none =
    elim (R k e.0) as (λ r. cond (is_eq r) (Some e.1) (get R es k) ≡ None → list_any p (match_ordering r ((k, v) ∷ e ∷ es) ((e.0, v) ∷ es) (e ∷ entries.insert R es k v)) ≡ ((p e || list_any p es) || p (k, v))) [
      | Less ↦ λ found. or_comm (p (k, v)) (p e || list_any p es)
      | Equal ↦ λ found. absurd cc
      | Greater ↦ λ found. ap (λ b. p e || b) (any-insert R p es k v found) ∙ sym (or_assoc (p e) (list_any p es) (p (k, v)))
    ] none

any-sorted : (p : ℤ × Rack → Bool) (brokers sorted : List (ℤ × Rack)) → IsDistinct int_eq (map (λ (b : ℤ × Rack). b.0) brokers) → AllByRecursion (λ y. get int_cmp sorted y ≡ None) (map (λ (b : ℤ × Rack). b.0) brokers)
    → list_any p (fold (λ (es : List (ℤ × Rack)) (b : ℤ × Rack). entries.insert int_cmp es b.0 b.1) sorted brokers) ≡ (list_any p sorted || list_any p brokers)
unfolding IsDistinct
any-sorted p [] sorted distinct none = or-none (list_any p sorted)
any-sorted p (b ∷ brokers) sorted distinct none =
    any-sorted p brokers (entries.insert int_cmp sorted b.0 b.1) distinct.1 (all-other sorted b.0 b.1 (map (λ (c : ℤ × Rack). c.0) brokers) distinct.0 none.1)
    ∙ ap (λ t. t || list_any p brokers) (any-insert int_cmp p sorted b.0 b.1 none.0) ∙ or_assoc (list_any p sorted) (p b) (list_any p brokers)

fold-map : (bs : List (ℤ × Rack)) (racks : List (Rack × List ℤ)) → IsMap rack_order racks → IsMap rack_order (fold into_rack racks bs)
fold-map [] racks ordered = ordered
fold-map (b ∷ bs) racks ordered = fold-map bs (into_rack racks b) (joined-map racks b ordered)

module _ (q : Rack) (sel : ℤ → Bool) where
  -- the rack is q, and one of its brokers passes
  abbrev at_q : Rack × List ℤ → Bool
  at_q e = same_rack q e.0 && list_any sel e.1

  any-remove : (es : List (Rack × List ℤ)) (k : Rack) → list_any at_q es ≡ (list_any at_q (entries.remove rack_order es k) || (same_rack q k && list_any sel (unwrap_or (get rack_order es k) [])))
  any-remove [] k = and-none (same_rack q k)
  any-remove (e ∷ es) k =
      let laws = eq_by_cmp_equiv rack_total in
      elim (is_eq (rack_order k e.0)) as (λ b. is_eq (rack_order k e.0) ≡ b
      → (at_q e || list_any at_q es) ≡ (list_any at_q (cond b es (e ∷ entries.remove rack_order es k)) || (same_rack q k && list_any sel (unwrap_or (cond b (Some e.1) (get rack_order es k)) [])))) [
        | true ↦ λ is.
            let same : same_rack q e.0 ≡ same_rack q k = laws.symm q e.0 ∙ sym (laws.congr k e.0 q is) ∙ laws.symm k q in
            ap (λ t. (t && list_any sel e.1) || list_any at_q es) same ∙ or_comm (same_rack q k && list_any sel e.1) (list_any at_q es)
        | false ↦ λ is.
            ap (λ t. at_q e || t) (any-remove es k) ∙ sym (or_assoc (at_q e) (list_any at_q (entries.remove rack_order es k)) (same_rack q k && list_any sel (unwrap_or (get rack_order es k) [])))
      ] refl

  any-joined : (racks : List (Rack × List ℤ)) (b : ℤ × Rack) → IsMap rack_order racks → list_any at_q (into_rack racks b) ≡ (list_any at_q racks || (same_rack q b.1 && sel b.0))
  any-joined racks (id, rack) ordered =
      let old : List ℤ = unwrap_or (get rack_order racks rack) [] in
      let less : List (Rack × List ℤ) = entries.remove rack_order racks rack in
      let pushed : list_any sel (old ++ id ∷ []) ≡ (list_any sel old || sel id) = list_any-append sel old (id ∷ []) ∙ ap (λ t. list_any sel old || t) (sym (or-none (sel id))) in
      any-insert rack_order at_q less rack (old ++ id ∷ []) (get-gone racks rack ordered)
      ∙ ap (λ t. list_any at_q less || (same_rack q rack && t)) pushed
      ∙ regroup (list_any at_q less) (same_rack q rack) (list_any sel old) (sel id)
      ∙ ap (λ t. t || (same_rack q rack && sel id)) (sym (any-remove racks rack))

  any-grouped : (bs : List (ℤ × Rack)) (racks : List (Rack × List ℤ)) → IsMap rack_order racks → list_any at_q (fold into_rack racks bs) ≡ (list_any at_q racks || list_any (λ (b : ℤ × Rack). same_rack q b.1 && sel b.0) bs)
  any-grouped [] racks ordered = or-none (list_any at_q racks)
  any-grouped (b ∷ bs) racks ordered =
      any-grouped bs (into_rack racks b) (joined-map racks b ordered)
      ∙ ap (λ t. t || list_any (λ (c : ℤ × Rack). same_rack q c.1 && sel c.0) bs) (any-joined racks b ordered)
      ∙ or_assoc (list_any at_q racks) (same_rack q b.1 && sel b.0) (list_any (λ (c : ℤ × Rack). same_rack q c.1 && sel c.0) bs)

sum-map : {X Y : Type 0} (f : Y → ℕ) (g : X → Y) (xs : List X) → sum_by f (map g xs) ≡ sum_by (λ x. f (g x)) xs
sum-map f g [] = refl
sum-map f g (x ∷ xs) =
    let rest = sum-map f g xs in
    let left = sum_by-cons f (g x) (map g xs) in
    let right = sum_by-cons (λ y. f (g y)) x xs in
    omega (arith, rest, left, right)

-- the racks of the brokers that pass are those with one that passes
rack_count-is : (sel : ℤ → Bool) (brokers : List (ℤ × Rack)) → IsDistinct int_eq (ids_of brokers) → rack_count (filter (λ (b : ℤ × Rack). sel b.0) brokers) ≡ count_by (list_any sel) (racks_of brokers)
unfolding rack_count racks_of IsStrictlySortedBy
rack_count-is sel brokers distinct =
    let es : List (Rack × List ℤ) = fold into_rack [] (by_id brokers) in
    let ordered : IsMap rack_order es = fold-map (by_id brokers) [] tt in
    let t : Rack × List ℤ → Bool = λ e. list_any sel e.1 in
    let keys : List Rack = keys_of (filter t es) in
    let names : List Rack = map (λ (b : ℤ × Rack). b.1) (filter (λ (b : ℤ × Rack). sel b.0) brokers) in
    let apart : IsDistinct same_rack keys = IsDistinct-keys_filter same_rack t es (IsDistinct-from_sorted rack_order (keys_of es) ordered) in
    let one_list : (q : Rack) → list_any (same_rack q) keys ≡ list_any (same_rack q) names = λ q.
    any-filter (λ (e : Rack × List ℤ). e.0) (same_rack q) t es ∙ any-grouped q sel (by_id brokers) [] tt
    ∙ any-sorted (λ (b : ℤ × Rack). same_rack q b.1 && sel b.0) brokers [] distinct (none-empty (ids_of brokers)) ∙ sym (any-filter (λ (b : ℤ × Rack). b.1) (same_rack q) (λ (b : ℤ × Rack). sel b.0) brokers) in
    sym (length-from_keys (eq_by_cmp_equiv rack_total) keys names apart one_list) ∙ length-keys_of (filter t es) ∙ length-filter t es ∙ sym (sum-map (λ (ids : List ℤ). cond (list_any sel ids) 1 0) (λ (e : Rack × List ℤ). e.1) es)

filter-all : (brokers : List (ℤ × Rack)) → filter (λ (b : ℤ × Rack). true) brokers ≡ brokers
filter-all [] = refl
filter-all (b ∷ brokers) = ap (λ (bs : List (ℤ × Rack)). b ∷ bs) (filter-all brokers)

count-all : (racks : List (List ℤ)) → AllByRecursion (λ (r : List ℤ). 0 < length r) racks → count_by (list_any (λ (x : ℤ). true)) racks ≡ length racks
count-all [] filled = refl
count-all ([] ∷ racks) filled = let none : 0 < length {A = ℤ} [] = filled.0 in absurd (omega arith)
count-all ((x ∷ xs) ∷ racks) filled =
    let rest = count-all racks filled.1 in
    let all = sum_by-cons (λ (r : List ℤ). cond (list_any (λ (y : ℤ). true) r) 1 0) (x ∷ xs) racks in
    omega (arith, rest, all)

-- the definition's racks are as many as the names
racks-named : (brokers : List (ℤ × Rack)) → IsDistinct int_eq (ids_of brokers) → length (racks_of brokers) ≡ rack_count brokers
racks-named brokers distinct =
    sym (count-all (racks_of brokers) (recursion_from_All (λ (r : List ℤ). 0 < length r) (racks_of brokers) (racks-filled brokers)))
    ∙ sym (rack_count-is (λ x. true) brokers distinct) ∙ ap rack_count (filter-all brokers)

pub placed-racks : (brokers : List (ℤ × Rack)) (start factor : ℕ) → IsDistinct int_eq (ids_of brokers) → rack_count (with_ids brokers (placed brokers start factor)) ≡ min factor (rack_count brokers)
placed-racks brokers start factor distinct =
    rack_count-is (has (placed brokers start factor)) brokers distinct ∙ placed-touched brokers start factor distinct ∙ ap (min factor) (racks-named brokers distinct)
