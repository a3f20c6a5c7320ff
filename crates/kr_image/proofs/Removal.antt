-- The entries of one owner go, key by key.
use Rattle.std.proofs.Common.{◌≡◌, ℕ, ◌+◌, Bool, true, false, cond, not, List, [], ◌∷◌, refl, sym, ap, subst, ◌∙◌, arith}
use Rattle.std.specs.Prelude.{Option, Some, None, is_some, filter, count_by, slice_get, ◌&&◌}
use Rattle.std.specs.Option.{option_map}
use Rattle.std.specs.BTreeMap.Range.{range_contains, entries_between}
use Rattle.std.specs.declared.ops.Bound.TheVariants.{Excluded}
use Rattle.std.specs.declared.cmp.Ordering.{Ordering}
use Rattle.std.specs.declared.cmp.Ordering.TheVariants.{Less, Equal, Greater}
use Rattle.std.specs.Ordering.{is_eq, is_le, is_lt, ordering_reverse}
use Rattle.std.specs.Cmp.{IsTotalOrder}
use Rattle.std.specs.List.{AllByRecursion}
use Rattle.std.specs.List.Sorted.{IsStrictlySortedBy}
use Rattle.std.specs.Map.{keys_of}
use Rattle.std.proofs.lemmas.List.Sums.{sum_by-cons}
use Rattle.kr_defs.specs.Map as map
use Rattle.kr_defs.proofs.EntryCounts.{is_equal}
use Rattle.kr_defs.proofs.Maps.{none_below}
use Rattle.kr_defs.proofs.Tests.{both, some_is}
use Rattle.kr_image.proofs.Index.{self_equal}

is_less : (r : Ordering) → is_lt r ≡ true → r ≡ Less
is_less Less h = refl
is_less Equal h = absurd cc
is_less Greater h = absurd cc

is_greater : (r : Ordering) → not (is_le r) ≡ true → r ≡ Greater
is_greater Less h = absurd cc
is_greater Equal h = absurd cc
is_greater Greater h = refl

-- ---- keys of which something holds

both_all : {K : Type 0} (P Q S : K → Type 0) → ((y : K) → P y → Q y → S y) → (ks : List K) → AllByRecursion P ks → AllByRecursion Q ks → AllByRecursion S ks
both_all P Q S step [] p q = tt
both_all P Q S step (k ∷ ks) p q = (step k p.0 q.0, both_all P Q S step ks p.1 q.1)

-- ---- between two keys

abbrev is_between : {K : Type 0} → (K → K → Ordering) → K → K → K → Bool
is_between R after end y = range_contains R (Excluded after) (Excluded end) y

module _ {K : Type 0} {R : K → K → Ordering} (o : IsTotalOrder R) where
  apart : (x e : K) → R x e ≡ Less → is_eq (R e x) ≡ true → ⊥
  apart x e less equal = let back : R e x ≡ Greater = o.antisymm e x ∙ ap ordering_reverse less in let same = is_equal (R e x) equal in absurd cc

  module _ (after end : K) where
    within_both : (y : K) → R after y ≡ Less → R y end ≡ Less → is_between R after end y ≡ true
    within_both y low high = let back : R end y ≡ Greater = o.antisymm end y ∙ ap ordering_reverse high in ap (λ r. is_lt r && not (is_le (R end y))) low ∙ ap (λ r. is_lt Less && not (is_le r)) back

    from_both : (y : K) → is_between R after end y ≡ true → (R after y ≡ Less) × (R y end ≡ Less)
    from_both y is =
        let parts = both (is_lt (R after y)) (not (is_le (R end y))) is in
        (is_less (R after y) parts.0, o.antisymm y end ∙ ap ordering_reverse (is_greater (R end y) parts.1))

    not_theirs : (own : K → Bool) (y : K) → (own y ≡ true → (R after y ≡ Less) × (R y end ≡ Less)) → is_between R after end y ≡ false → own y ≡ false
    not_theirs own y between out = elim (own y) as (λ b. (b ≡ true → (R after y ≡ Less) × (R y end ≡ Less)) → b ≡ false) [
      | true ↦ λ between. let p = between refl in let t = within_both y p.0 p.1 in absurd cc
      | false ↦ λ between. refl
    ] between

module _ {K V : Type 0} where
  -- the entry of a key that was found
  record Found (key : K) (first : Option (K × V)) : Type 0 where
    pub entry : K × V
    pub found : first ≡ Some entry
    pub is : entry.0 ≡ key

  some_key : (key : K) (first : Option (K × V)) → Some key ≡ option_map (λ (e : K × V). e.0) first → Found key first
  some_key key None h = absurd cc
  some_key key (Some e) h = record { entry = e; found = refl; is = sym (some_is key e.0 h) }

  no_key : (first : Option (K × V)) → None ≡ option_map (λ (e : K × V). e.0) first → first ≡ None
  no_key None h = refl
  no_key (Some e) h = absurd cc

  all_without : (R : K → K → Ordering) (P : K → Type 0) (es : List (K × V)) (k : K) → AllByRecursion P (keys_of es) → AllByRecursion P (keys_of (map.remove R es k))
  all_without R P [] k a = tt
  all_without R P (e ∷ es) k a =
      elim (is_eq (R k e.0)) as (λ b. AllByRecursion P (keys_of (cond b es (e ∷ map.remove R es k)))) [
        | true ↦ a.1
        | false ↦ (a.0, all_without R P es k a.1)
      ]

  pub without_absent : (R : K → K → Ordering) (es : List (K × V)) (k : K) → map.contains R es k ≡ false → map.remove R es k ≡ es
  without_absent R [] k absent = refl
  without_absent R (e ∷ es) k absent =
      elim (is_eq (R k e.0)) as (λ b. is_some (cond b (Some e.1) (map.get R es k)) ≡ false → cond b es (e ∷ map.remove R es k) ≡ e ∷ es) [
        | true ↦ λ absent. absurd cc
        | false ↦ λ absent. ap (λ (rest : List (K × V)). e ∷ rest) (without_absent R es k absent)
      ] absent

  first_passes : (test : K → Bool) (es : List (K × V)) (e : K × V) → slice_get (filter (λ (x : K × V). test x.0) es) 0 ≡ Some e → test e.0 ≡ true
  first_passes test [] e h = absurd cc
  first_passes test (x ∷ es) e h =
      elim (test x.0) as (λ b. test x.0 ≡ b → slice_get (cond b (x ∷ filter (λ (x : K × V). test x.0) es) (filter (λ (x : K × V). test x.0) es)) 0 ≡ Some e → test e.0 ≡ true) [
        | true ↦ λ is h. let same : x ≡ e = some_is x e h in subst (λ (y : K × V). test y.0 ≡ true) same is
        | false ↦ λ is h. first_passes test es e h
      ] refl h

  first_has : (P : K → Type 0) (test : K → Bool) (es : List (K × V)) (e : K × V) → AllByRecursion P (keys_of es) → slice_get (filter (λ (x : K × V). test x.0) es) 0 ≡ Some e → P e.0
  first_has P test [] e a h = absurd cc
  first_has P test (x ∷ es) e a h =
      elim (test x.0) as (λ b. slice_get (cond b (x ∷ filter (λ (x : K × V). test x.0) es) (filter (λ (x : K × V). test x.0) es)) 0 ≡ Some e → P e.0) [
        | true ↦ λ h. let same : x ≡ e = some_is x e h in subst (λ (y : K × V). P y.0) same a.0
        | false ↦ λ h. first_has P test es e a.1 h
      ] h

  module _ {R : K → K → Ordering} (o : IsTotalOrder R) where
    -- the first entry above a key is there
    first_there : (test : K × V → Bool) (es : List (K × V)) (e : K × V) → slice_get (filter test es) 0 ≡ Some e → map.contains R es e.0 ≡ true
    first_there test [] e h = absurd cc
    first_there test (x ∷ es) e h =
        elim (test x) as (λ b. slice_get (cond b (x ∷ filter test es) (filter test es)) 0 ≡ Some e → map.contains R (x ∷ es) e.0 ≡ true) [
          | true ↦ λ h. let same : x ≡ e = some_is x e h in let equal : R e.0 x.0 ≡ Equal = ap (λ (y : K × V). R e.0 y.0) same ∙ self_equal o e.0 in ap (λ r. is_some (cond (is_eq r) (Some x.1) (map.get R es e.0))) equal
          | false ↦ λ h. let there = first_there test es e h in elim (is_eq (R e.0 x.0)) as (λ b. is_some (cond b (Some x.1) (map.get R es e.0)) ≡ true) [ true ↦ refl | false ↦ there ]
        ] h

    -- a key that went has no value
    pub gone_for_good : (es : List (K × V)) (k : K) → map.IsMap R es → map.contains R (map.remove R es k) k ≡ false
    unfolding IsStrictlySortedBy
    gone_for_good [] k s = refl
    gone_for_good (e ∷ es) k s =
        elim (is_eq (R k e.0)) as (λ b. is_eq (R k e.0) ≡ b → map.contains R (cond b es (e ∷ map.remove R es k)) k ≡ false) [
          | true ↦ λ is. ap is_some (none_below o es k (both_all (λ z. R e.0 z ≡ Less) (λ z. R e.0 z ≡ Less) (λ z. R k z ≡ Less) (λ z p q. o.congr k e.0 z (is_equal (R k e.0) is) ∙ p) (keys_of es) s.0 s.0))
          | false ↦ λ is. ap (λ b. is_some (cond b (Some e.1) (map.get R (map.remove R es k) k))) is ∙ gone_for_good es k s.1
        ] refl

    -- without the first that passes, those that pass stand above it
    later_ones : (test : K → Bool) (es : List (K × V)) (e : K × V) → map.IsMap R es → slice_get (filter (λ (x : K × V). test x.0) es) 0 ≡ Some e → AllByRecursion (λ y. test y ≡ true → R e.0 y ≡ Less) (keys_of (map.remove R es e.0))
    unfolding IsStrictlySortedBy
    later_ones test [] e s h = absurd cc
    later_ones test (x ∷ es) e s h =
        elim (test x.0) as (λ b. test x.0 ≡ b → slice_get (cond b (x ∷ filter (λ (x : K × V). test x.0) es) (filter (λ (x : K × V). test x.0) es)) 0 ≡ Some e → AllByRecursion (λ y. test y ≡ true → R e.0 y ≡ Less) (keys_of (map.remove R (x ∷ es) e.0))) [
          | true ↦ λ is h.
              let same : x ≡ e = some_is x e h in
              let equal : R e.0 x.0 ≡ Equal = ap (λ (y : K × V). R e.0 y.0) same ∙ self_equal o e.0 in
              let above : AllByRecursion (λ y. R e.0 y ≡ Less) (keys_of es) = subst (λ (k : K × V). AllByRecursion (λ y. R k.0 y ≡ Less) (keys_of es)) same s.0 in
              subst (λ r. AllByRecursion (λ y. test y ≡ true → R e.0 y ≡ Less) (keys_of (cond (is_eq r) es (x ∷ map.remove R es e.0)))) (sym equal)
              (both_all (λ y. R e.0 y ≡ Less) (λ y. R e.0 y ≡ Less) (λ y. test y ≡ true → R e.0 y ≡ Less) (λ y p q is. p) (keys_of es) above above)
          | false ↦ λ is h.
              elim (is_eq (R e.0 x.0)) as (λ b. is_eq (R e.0 x.0) ≡ b → AllByRecursion (λ y. test y ≡ true → R e.0 y ≡ Less) (keys_of (cond b es (x ∷ map.remove R es e.0)))) [
                | true ↦ λ equal. absurd (apart o x.0 e.0 (first_has (λ z. R x.0 z ≡ Less) test es e s.0 h) equal)
                | false ↦ λ equal. ((λ passes. absurd cc), later_ones test es e s.1 h)
              ] refl
        ] refl h

module _ {K V : Type 0} (R : K → K → Ordering) (own : K → Bool) where
  abbrev others : List (K × V) → List (K × V)
  others es = filter (λ (e : K × V). not (own e.0)) es

  module _ (k : K) (congr : (x : K) → is_eq (R k x) ≡ true → own x ≡ true) where
    -- without one of them the others are the same
    pub others-gone : (es : List (K × V)) → others (map.remove R es k) ≡ others es
    others-gone [] = refl
    others-gone (e ∷ es) =
        elim (is_eq (R k e.0)) as (λ b. is_eq (R k e.0) ≡ b → others (cond b es (e ∷ map.remove R es k)) ≡ others (e ∷ es)) [
          | true ↦ λ is. sym (ap (λ b. cond (not b) (e ∷ others es) (others es)) (congr e.0 is))
          | false ↦ λ is. ap (λ (rest : List (K × V)). cond (not (own e.0)) (e ∷ rest) rest) (others-gone es)
        ] refl

    pub count-gone : (es : List (K × V)) → map.contains R es k ≡ true → count_by (λ (e : K × V). own e.0) (map.remove R es k) + 1 ≡ count_by (λ (e : K × V). own e.0) es
    count-gone [] there = cc
    count-gone (e ∷ es) there =
        let all = sum_by-cons (λ (e : K × V). cond (own e.0) 1 0) e es in
        let kept = sum_by-cons (λ (e : K × V). cond (own e.0) 1 0) e (map.remove R es k) in
        elim (is_eq (R k e.0)) as (λ b. is_eq (R k e.0) ≡ b → is_some (cond b (Some e.1) (map.get R es k)) ≡ true → count_by (λ (e : K × V). own e.0) (cond b es (e ∷ map.remove R es k)) + 1 ≡ count_by (λ (e : K × V). own e.0) (e ∷ es)) [
          | true ↦ λ is there. let one : ◌≡◌ {A = ℕ} (cond (own e.0) 1 0) 1 = ap (λ b. cond b 1 0) (congr e.0 is) in omega (arith, all, one)
          | false ↦ λ is there. let less = count-gone es there in omega (arith, less, all, kept)
        ] refl there

  -- without the key, whether or not it is there, and what goes with it
  pub others-without : (es : List (K × V)) (k : K) → ((x : K) → is_eq (R k x) ≡ true → own x ≡ true) → count_by (λ (e : K × V). own e.0) (map.remove R es k) + cond (map.contains R es k) 1 0 ≡ count_by (λ (e : K × V). own e.0) es
  others-without es k congr =
      elim (map.contains R es k) as (λ b. map.contains R es k ≡ b → count_by (λ (e : K × V). own e.0) (map.remove R es k) + cond b 1 0 ≡ count_by (λ (e : K × V). own e.0) es) [
        | true ↦ λ there. count-gone k congr es there
        | false ↦ λ absent. let same = without_absent R es k absent in rw same (omega arith)
      ] refl

  -- where none is theirs, the others are all
  all_others : (es : List (K × V)) → AllByRecursion (λ x. own x ≡ false) (keys_of es) → others es ≡ es
  all_others [] a = refl
  all_others (e ∷ es) a = ap (λ b. cond (not b) (e ∷ others es) (others es)) a.0 ∙ ap (λ (rest : List (K × V)). e ∷ rest) (all_others es a.1)

  -- theirs stand above the one key and below the other
  abbrev pub AreBetween : K → K → List (K × V) → Type 0
  AreBetween after end es = AllByRecursion (λ y. own y ≡ true → (R after y ≡ Less) × (R y end ≡ Less)) (keys_of es)

  module _ (o : IsTotalOrder R) (after end : K) where
    none_theirs : (es : List (K × V)) → AreBetween after end es → slice_get (entries_between R (Excluded after) (Excluded end) es) 0 ≡ None → AllByRecursion (λ y. own y ≡ false) (keys_of es)
    none_theirs [] a none = tt
    none_theirs (e ∷ es) a none =
        elim (is_between R after end e.0) as (λ b. is_between R after end e.0 ≡ b → slice_get (cond b (e ∷ entries_between R (Excluded after) (Excluded end) es) (entries_between R (Excluded after) (Excluded end) es)) 0 ≡ None → AllByRecursion (λ y. own y ≡ false) (keys_of (e ∷ es))) [
          | true ↦ λ is none. absurd cc
          | false ↦ λ is none. (not_theirs o after end own e.0 a.0 is, none_theirs es a.1 none)
        ] refl none

    -- where none stands between, the others are all
    pub none_between : (es : List (K × V)) → AreBetween after end es → None ≡ option_map (λ (e : K × V). e.0) (slice_get (entries_between R (Excluded after) (Excluded end) es) 0) → others es ≡ es
    none_between es a none = all_others es (none_theirs es a (no_key _ none))

    -- the first key between the two goes: theirs stand above it then
    pub record Goes (key : K) (es : List (K × V)) : Type 0 where
      pub there : map.contains R es key ≡ true
      pub above : R after key ≡ Less
      pub below : R key end ≡ Less
      pub rest : AreBetween key end (map.remove R es key)

    goes_first : (es : List (K × V)) (e : K × V) → map.IsMap R es → AreBetween after end es → slice_get (entries_between R (Excluded after) (Excluded end) es) 0 ≡ Some e → Goes e.0 es
    goes_first es e ordered a first =
        let between = from_both o after end e.0 (first_passes (is_between R after end) es e first) in
        record {
          there = first_there o (λ (x : K × V). is_between R after end x.0) es e first;
          above = between.0;
          below = between.1;
          rest = both_all
              (λ y. own y ≡ true → (R after y ≡ Less) × (R y end ≡ Less))
              (λ y. is_between R after end y ≡ true → R e.0 y ≡ Less)
              (λ y. own y ≡ true → (R e.0 y ≡ Less) × (R y end ≡ Less))
              (λ y p q is. let both' = p is in (q (within_both o after end y both'.0 both'.1), both'.1))
              (keys_of (map.remove R es e.0))
              (all_without R _ es e.0 a)
              (later_ones o (is_between R after end) es e ordered first);
        }

    pub goes : (es : List (K × V)) (key : K) → map.IsMap R es → AreBetween after end es → Some key ≡ option_map (λ (e : K × V). e.0) (slice_get (entries_between R (Excluded after) (Excluded end) es) 0) → Goes key es
    goes es key ordered a found =
        let entry = some_key key _ found in
        subst (λ (k : K). Goes k es) entry.is (goes_first es entry.entry ordered a entry.found)
