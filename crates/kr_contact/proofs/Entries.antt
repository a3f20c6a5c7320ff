-- What a search finds among entries in order of their ids, and what an edit there makes of look-ups.
use Rattle.std.proofs.Common.{◌≡◌, ◌∙◌, ◌<◌, ◌≤◌, ◌+◌, ℕ, ℤ, suc, zero, Bool, true, false, cond, List, [], ◌∷◌, ◌++◌, length, take, drop, get_or, refl, sym, ap, subst, arith}
use Rattle.std.specs.Prelude.{Option, Some, None, Result, Ok, Err, IfOk, IfErr, IsOk, is_ok}
use Rattle.std.specs.Cmp.{int_cmp_total}
use Rattle.std.specs.List.{AllByRecursion, AllWithin, HoldsAt, insert, remove}
use Rattle.std.specs.List.Sorted.{IsBinarySearchResult, IsNonDecreasingBy, IsPartitionPoint, IsSearchInRange, IsStrictlySortedBy}
use Rattle.std.specs.Map.{keys_of, lookup}
use Rattle.std.specs.Ordering.{int_cmp, int_eq, is_eq, is_lt, ordering_index, ordering_reverse}
use Rattle.std.specs.declared.cmp.Ordering.TheVariants.{Less, Equal, Greater}
use Rattle.std.proofs.lemmas.Bool.Decides.{Decides-int_eq}
use Rattle.std.proofs.lemmas.List.Sorted.{searchable_from_sorted}
use Rattle.std.proofs.lemmas.Map.Keys.{Less-from_sorted}
use Rattle.kr_contact.specs.declared.nodes.Place.{Place}
use Rattle.kr_contact.specs.Entries.{AreOrdered, IsGapAt, IsEntryAt}

abbrev Entry : Type 0
Entry = ℤ × Place

-- ---- ids

abbrev Below : ℤ → List Entry → Type 0
Below b es = AllByRecursion (λ k. int_cmp k b ≡ Less) (keys_of es)

abbrev Above : ℤ → List Entry → Type 0
Above b es = AllByRecursion (λ k. int_cmp b k ≡ Less) (keys_of es)

turned : (b k : ℤ) → int_cmp k b ≡ Greater → int_cmp b k ≡ Less
turned b k more = int_cmp_total.antisymm b k ∙ ap ordering_reverse more

not_less : (b k : ℤ) → int_cmp k b ≡ Less → int_eq b k ≡ false
not_less b k less = ap is_eq (int_cmp_total.antisymm b k ∙ ap ordering_reverse less)

same_id : (b q : ℤ) → int_eq b q ≡ true → b ≡ q
same_id b q is = (Decides-int_eq b q).0 is

own_id : (b : ℤ) → int_eq b b ≡ true
own_id b = (Decides-int_eq b b).1 refl

turned_eq : (b q : ℤ) → int_eq b q ≡ false → int_eq q b ≡ false
turned_eq b q is =
    elim (int_eq q b) as (λ t. int_eq q b ≡ t → t ≡ false) [
      | true ↦ λ there. sym (own_id b) ∙ (ap (int_eq b) (sym (same_id q b there)) ∙ is)
      | false ↦ λ there. refl
    ] refl

-- ---- look-ups

none_below : (b : ℤ) (front back : List Entry) → Below b front → lookup (int_eq b) (front ++ back) ≡ lookup (int_eq b) back
none_below b [] back a = refl
none_below b (e ∷ front) back a = ap (λ t. cond t (Some e.1) (lookup (int_eq b) (front ++ back))) (not_less b e.0 a.0) ∙ none_below b front back a.1

none_above : (b : ℤ) (back : List Entry) → Above b back → lookup (int_eq b) back ≡ None
none_above b [] a = refl
none_above b (e ∷ back) a = ap (λ t. cond t (Some e.1) (lookup (int_eq b) back)) (ap is_eq a.0) ∙ none_above b back a.1

found_here : (b : ℤ) (place : Place) (front back : List Entry) → Below b front → lookup (int_eq b) (front ++ (b, place) ∷ back) ≡ Some place
found_here b place front back below =
    none_below b front ((b, place) ∷ back) below ∙ ap (λ t. cond t (Some place) (lookup (int_eq b) back)) (own_id b)

found_nowhere : (b : ℤ) (front back : List Entry) → Below b front → Above b back → lookup (int_eq b) (front ++ back) ≡ None
found_nowhere b front back below above = none_below b front back below ∙ none_above b back above

other_found : (q b : ℤ) (place : Place) (front back : List Entry) → int_eq q b ≡ false → lookup (int_eq q) (front ++ (b, place) ∷ back) ≡ lookup (int_eq q) (front ++ back)
other_found q b place [] back apart = ap (λ t. cond t (Some place) (lookup (int_eq q) back)) apart
other_found q b place (e ∷ front) back apart = ap (λ o. cond (int_eq q e.0) (Some e.1) o) (other_found q b place front back apart)

-- by whether it is the broker that is looked for
module _ (b q : ℤ) (place : Place) (front back : List Entry) (below : Below b front) (above : Above b back) where
  abbrev with_it : List Entry
  with_it = front ++ (b, place) ∷ back

  pub taken_out : lookup (int_eq q) (front ++ back) ≡ cond (int_eq b q) None (lookup (int_eq q) with_it)
  taken_out = elim (int_eq b q) as (λ t. int_eq b q ≡ t → lookup (int_eq q) (front ++ back) ≡ cond t None (lookup (int_eq q) with_it)) [
    | true ↦ λ is. subst (λ (x : ℤ). lookup (int_eq x) (front ++ back) ≡ None) (same_id b q is) (found_nowhere b front back below above)
    | false ↦ λ is. sym (other_found q b place front back (turned_eq b q is))
  ] refl

  pub put_in : lookup (int_eq q) with_it ≡ cond (int_eq b q) (Some place) (lookup (int_eq q) (front ++ back))
  put_in = elim (int_eq b q) as (λ t. int_eq b q ≡ t → lookup (int_eq q) with_it ≡ cond t (Some place) (lookup (int_eq q) (front ++ back))) [
    | true ↦ λ is. subst (λ (x : ℤ). lookup (int_eq x) with_it ≡ Some place) (same_id b q is) (found_here b place front back below)
    | false ↦ λ is. other_found q b place front back (turned_eq b q is)
  ] refl

-- ---- order

all_without : (P : ℤ → Type 0) (front : List Entry) (x : Entry) (back : List Entry) → AllByRecursion P (keys_of (front ++ x ∷ back)) → P x.0 × AllByRecursion P (keys_of (front ++ back))
all_without P [] x back a = a
all_without P (e ∷ front) x back a = let rest = all_without P front x back a.1 in (rest.0, (a.0, rest.1))

all_with : (P : ℤ → Type 0) (front : List Entry) (x : Entry) (back : List Entry) → P x.0 → AllByRecursion P (keys_of (front ++ back)) → AllByRecursion P (keys_of (front ++ x ∷ back))
all_with P [] x back one a = (one, a)
all_with P (e ∷ front) x back one a = (a.0, all_with P front x back one a.1)

record AreSplit (front : List Entry) (x : Entry) (back : List Entry) : Type 0 where
  below : Below x.0 front
  above : Above x.0 back
  without : AreOrdered (front ++ back)

split : (front : List Entry) (x : Entry) (back : List Entry) → AreOrdered (front ++ x ∷ back) → AreSplit front x back
unfolding IsStrictlySortedBy
split [] x back s = record { below = tt; above = s.0; without = s.1 }
split (e ∷ front) x back s =
    let first = all_without (λ k. int_cmp e.0 k ≡ Less) front x back s.0 in
    let rest = split front x back s.1 in
    record { below = (first.0, rest.below); above = rest.above; without = (first.1, rest.without) }

ordered_with : (front : List Entry) (x : Entry) (back : List Entry) → Below x.0 front → Above x.0 back → AreOrdered (front ++ back) → AreOrdered (front ++ x ∷ back)
unfolding IsStrictlySortedBy
ordered_with [] x back below above s = (above, s)
ordered_with (e ∷ front) x back below above s = (all_with (λ k. int_cmp e.0 k ≡ Less) front x back below.0 s.0, ordered_with front x back below.1 above s.1)

-- ---- where a search ends

get-key : (es : List Entry) (k : ℕ) (d : Entry) → get_or (keys_of es) k d.0 ≡ (get_or es k d).0
get-key [] k d = refl
get-key (e ∷ es) zero d = refl
get-key (e ∷ es) (suc k) d = get-key es k d

length-keys : (es : List Entry) → length (keys_of es) ≡ length es
length-keys [] = refl
length-keys (e ∷ es) = ap (λ n. suc n) (length-keys es)

rising_pair : (es : List Entry) (k : ℕ) (d : Entry) → AreOrdered es → k + 1 < length es → is_lt (int_cmp (get_or es (k + 1) d).0 (get_or es k d).0) ≡ false
rising_pair es k d s lt =
    let up : int_cmp (get_or es k d).0 (get_or es (k + 1) d).0 ≡ Less = rw (← get-key es k d, ← get-key es (k + 1) d) (Less-from_sorted int_cmp (keys_of es) k (k + 1) d.0 s (omega arith) (omega (arith, length-keys es))) in
    ap is_lt (int_cmp_total.antisymm (get_or es (k + 1) d).0 (get_or es k d).0 ∙ ap ordering_reverse up)

pub searchable : (es : List Entry) (b : ℤ) → AreOrdered es → IsNonDecreasingBy (λ e. ordering_index (int_cmp e.0 b)) es
searchable es b s = searchable_from_sorted int_cmp_total (λ (e : Entry). e.0) es b (λ k d low lt. rising_pair es k d s lt)

pub stands : (es : List Entry) (b : ℤ) (at : ℕ) → at < length es → HoldsAt (λ e. int_cmp e.0 b ≡ Equal) es at → IsEntryAt es b at
stands [] b at lt h = absurd (omega arith)
stands (e ∷ es) b zero lt h = record {
  front = [];
  place = e.1;
  back = es;
  is = ap (λ (x : ℤ). (x, e.1) ∷ es) (same_id e.0 b (ap is_eq (h e)));
  at_is = refl;
}
stands (e ∷ es) b (suc at) lt h =
    let rest = stands es b at (omega arith) h in
    record { front = e ∷ rest.front; place = rest.place; back = rest.back; is = ap (λ (xs : List Entry). e ∷ xs) rest.is; at_is = ap (λ n. suc n) rest.at_is }

all_above : (es : List Entry) (b : ℤ) → ((k : ℕ) (d : Entry) → k < length es → int_cmp (get_or es k d).0 b ≡ Greater) → Above b es
all_above [] b h = tt
all_above (e ∷ es) b h = (turned b e.0 (h 0 e (omega arith)), all_above es b (λ k d lt. h (suc k) d (omega arith)))

falls_by : (es : List Entry) (b : ℤ) (at : ℕ) → at ≤ length es → ((k : ℕ) (d : Entry) → k < at → int_cmp (get_or es k d).0 b ≡ Less) → ((k : ℕ) (d : Entry) → at ≤ k → k < length es → int_cmp (get_or es k d).0 b ≡ Greater) → IsGapAt es b at
falls_by [] b at le low high = record { front = []; back = []; is = refl; at_is = omega arith; below = tt; above = tt }
falls_by (e ∷ es) b zero le low high = record { front = []; back = e ∷ es; is = refl; at_is = refl; below = tt; above = all_above (e ∷ es) b (λ k d lt. high k d (omega arith) lt) }
falls_by (e ∷ es) b (suc at) le low high =
    let rest = falls_by es b at (omega arith) (λ k d lt. low (suc k) d (omega arith)) (λ k d from lt. high (suc k) d (omega arith) (omega arith)) in
    record {
      front = e ∷ rest.front;
      back = rest.back;
      is = ap (λ (xs : List Entry). e ∷ xs) rest.is;
      at_is = ap (λ n. suc n) rest.at_is;
      below = (low 0 e (omega arith), rest.below);
      above = rest.above;
    }

pub falls : (es : List Entry) (b : ℤ) (at : ℕ) → at ≤ length es → IsPartitionPoint (λ e. int_cmp e.0 b ≡ Less) (λ e. int_cmp e.0 b ≡ Greater) es at → IsGapAt es b at
falls es b at le p = falls_by es b at le (λ k d lt. p.0 k d (omega arith) lt) p.1

-- ---- what is read, and edits

take-front : (front back : List Entry) → take (length front) (front ++ back) ≡ front
take-front [] back = refl
take-front (e ∷ front) back = ap (λ (xs : List Entry). e ∷ xs) (take-front front back)

drop-front : (front back : List Entry) → drop (length front) (front ++ back) ≡ back
drop-front [] back = refl
drop-front (e ∷ front) back = drop-front front back

drop-one : (front : List Entry) (x : Entry) (back : List Entry) → drop (suc (length front)) (front ++ x ∷ back) ≡ back
drop-one [] x back = refl
drop-one (e ∷ front) x back = drop-one front x back

get-front : (front : List Entry) (x : Entry) (back : List Entry) (d : Entry) → get_or (front ++ x ∷ back) (length front) d ≡ x
get-front [] x back d = refl
get-front (e ∷ front) x back d = get-front front x back d

got : (es front : List Entry) (x : Entry) (back : List Entry) (at : ℕ) (d : Entry) → es ≡ front ++ x ∷ back → at ≡ length front → get_or es at d ≡ x
got es front x back at d is at_is =
    ap (λ (xs : List Entry). get_or xs at d) is ∙ (ap (λ n. get_or (front ++ x ∷ back) n d) at_is ∙ get-front front x back d)

removed_at : (es front : List Entry) (x : Entry) (back : List Entry) (at : ℕ) → es ≡ front ++ x ∷ back → at ≡ length front → remove es at ≡ front ++ back
removed_at es front x back at is at_is =
    ap (λ (xs : List Entry). remove xs at) is
    ∙ (ap (λ n. remove (front ++ x ∷ back) n) at_is
    ∙ (ap (λ (xs : List Entry). xs ++ drop (suc (length front)) (front ++ x ∷ back)) (take-front front (x ∷ back)) ∙ ap (λ (xs : List Entry). front ++ xs) (drop-one front x back)))

inserted_at : (es front back : List Entry) (x : Entry) (at : ℕ) → es ≡ front ++ back → at ≡ length front → insert es at x ≡ front ++ x ∷ back
inserted_at es front back x at is at_is =
    ap (λ (xs : List Entry). insert xs at x) is
    ∙ (ap (λ n. insert (front ++ back) n x) at_is
    ∙ (ap (λ (xs : List Entry). xs ++ x ∷ drop (length front) (front ++ back)) (take-front front back) ∙ ap (λ (xs : List Entry). front ++ x ∷ xs) (drop-front front back)))

module _ (es : List Entry) (b : ℤ) (at : ℕ) (ordered : AreOrdered es) (s : IsEntryAt es b at) where
  parts : AreSplit s.front (b, s.place) s.back
  parts = split s.front (b, s.place) s.back (subst AreOrdered s.is ordered)

  place_at : (d : Entry) → get_or es at d ≡ (b, s.place)
  place_at d = got es s.front (b, s.place) s.back at d s.is s.at_is

  -- the place that is read there
  pub found : (x : Entry) → x ≡ get_or es at x → Some x.1 ≡ lookup (int_eq b) es
  found x read = ap (λ (e : Entry). Some e.1) (read ∙ place_at x) ∙ (sym (found_here b s.place s.front s.back parts.below) ∙ ap (lookup (int_eq b)) (sym s.is))

  removed : remove es at ≡ s.front ++ s.back
  removed = removed_at es s.front (b, s.place) s.back at s.is s.at_is

  pub ordered_left : AreOrdered (remove es at)
  ordered_left = subst AreOrdered (sym removed) parts.without

  pub left : (q : ℤ) → lookup (int_eq q) (remove es at) ≡ cond (int_eq b q) None (lookup (int_eq q) es)
  left q =
      ap (lookup (int_eq q)) removed
      ∙ (taken_out b q s.place s.front s.back parts.below parts.above ∙ ap (λ (xs : List Entry). cond (int_eq b q) None (lookup (int_eq q) xs)) (sym s.is))

module _ (es : List Entry) (b : ℤ) (at : ℕ) (f : IsGapAt es b at) where
  pub absent : None ≡ lookup (int_eq b) es
  absent = sym (ap (lookup (int_eq b)) f.is ∙ found_nowhere b f.front f.back f.below f.above)

  pub none_taken : (q : ℤ) → lookup (int_eq q) es ≡ cond (int_eq b q) None (lookup (int_eq q) es)
  none_taken q = elim (int_eq b q) as (λ t. int_eq b q ≡ t → lookup (int_eq q) es ≡ cond t None (lookup (int_eq q) es)) [
    | true ↦ λ is. subst (λ (x : ℤ). lookup (int_eq x) es ≡ None) (same_id b q is) (sym absent)
    | false ↦ λ is. refl
  ] refl

  module _ (place : Place) where
    inserted : insert es at (b, place) ≡ f.front ++ (b, place) ∷ f.back
    inserted = inserted_at es f.front f.back (b, place) at f.is f.at_is

    pub ordered_more : AreOrdered es → AreOrdered (insert es at (b, place))
    ordered_more s = subst AreOrdered (sym inserted) (ordered_with f.front (b, place) f.back f.below f.above (subst AreOrdered f.is s))

    pub more : (q : ℤ) → lookup (int_eq q) (insert es at (b, place)) ≡ cond (int_eq b q) (Some place) (lookup (int_eq q) es)
    more q =
        ap (lookup (int_eq q)) inserted
        ∙ (put_in b q place f.front f.back f.below f.above ∙ ap (λ (xs : List Entry). cond (int_eq b q) (Some place) (lookup (int_eq q) xs)) (sym f.is))

-- an entry that stands there isn't fresh
pub not_fresh : (es : List Entry) (b : ℤ) (at : ℕ) → AreOrdered es → IsEntryAt es b at → lookup (int_eq b) es ≡ None → ⊥
not_fresh es b at ordered s none =
    let parts = split s.front (b, s.place) s.back (subst AreOrdered s.is ordered) in
    let both : Some s.place ≡ None = sym (found_here b s.place s.front s.back parts.below) ∙ (ap (lookup (int_eq b)) (sym s.is) ∙ none) in absurd cc

-- ---- a search

pub record Searched (es : List Entry) (b : ℤ) (r : Result ℕ ℕ) : Type 0 where
  pub found : IfOk r (λ at. IsEntryAt es b at)
  pub within : IfOk r (λ at. at < length es)
  pub absent : IfErr r (λ at. IsGapAt es b at)
  pub bound : IfErr r (λ at. at ≤ length es)

pub searched : (es : List Entry) (b : ℤ) (r : Result ℕ ℕ) → AreOrdered es → IsSearchInRange r (length es) → IsBinarySearchResult (λ e. int_cmp e.0 b) es r → Searched es b r
searched es b (Ok at) ordered lt equal = record { found = stands es b at lt equal; within = lt; absent = tt; bound = tt }
searched es b (Err at) ordered le parted = record { found = tt; within = tt; absent = falls es b at le (parted (searchable es b ordered)); bound = le }

-- with room, an insert succeeds
pub inserted_so : {X E : Type 0} (r : Result X E) (new old put : List Entry) → new ≡ cond (is_ok r) put old → IsOk r → new ≡ put
inserted_so (Ok x) new old put is ok = is
inserted_so (Err e) new old put is ok = absurd (let never = ok in cc)

-- no entries are in order
pub none_ordered : (es : List Entry) → es ≡ [] → AreOrdered es
unfolding IsStrictlySortedBy
none_ordered es is = subst AreOrdered (sym is) tt
