-- The items of an array, put one behind the other.
use Rattle.std.proofs.Common.{◌≡◌, ◌∙◌, ℕ, suc, ◌+◌, ◌<◌, ◌≤◌, List, [], ◌∷◌, ◌++◌, length, get_or, drop, append-nil, append_assoc, Option, Some, None, Result, Ok, Err, refl, sym, ap}
use Rattle.std.specs.Prelude.{option_and_then, option_map, unwrap_or}
use Rattle.std.specs.List.{flat_map}
use Rattle.std.proofs.lemmas.Grind.{flat_map-append}
use Rattle.std.proofs.lemmas.List.{at_drop_more, drop_all}
use Rattle.serde_json.specs.Data.{Data}
use Rattle.serde_json.specs.Find.{as_array}
use Rattle.serde_json.specs.View.{items_view, view}
use Rattle.serde_json.specs.declared.value.Value.{Value}
use Rattle.kr_wire.specs.Spelling.{count}
use Rattle.kr_request_json.specs.declared.fault.PartFault.{PartFault}
use Rattle.kr_request_json.specs.declared.fault.PartFault.TheVariants as parts
use Rattle.kr_request_json.specs.Inputs.{JsonInput, array_input, each}
use Rattle.kr_request_json.specs.inner.Steps.{Lacks, PutsInput, PutsItems}
use Rattle.kr_request_json.proofs.Fields.{joined}

module _ {X : Type 0} (one : Data → Option X) where
  -- the values before, and those of the items
  abbrev pub with_front : List X → Option (List X) → Option (List X)
  with_front front found = option_map (λ xs. front ++ xs) found

  none_before : (found : Option (List X)) → with_front [] found ≡ found
  none_before None = refl
  none_before (Some xs) = refl

  regroup : (front : List X) (x : X) (found : Option (List X)) → with_front front (option_map (λ xs. x ∷ xs) found) ≡ with_front (front ++ x ∷ []) found
  regroup front x None = refl
  regroup front x (Some xs) = ap (λ (l : List X). Some l) (sym (append_assoc front (x ∷ []) xs))

  counted : (n : ℕ) (x : Option X) (others : Option (List X)) (xs : List X) → ((ys : List X) → others ≡ Some ys → length ys ≡ n) → option_and_then (λ y. option_map (λ ys. y ∷ ys) others) x ≡ Some xs → length xs ≡ suc n
  counted n None others xs long is = absurd cc
  counted n (Some x) None xs long is = absurd cc
  counted n (Some x) (Some ys) xs long is = ap (λ (o : Option (List X)). length (unwrap_or o [])) (sym is) ∙ ap suc (long ys refl)

  pub as_many : (vs : List Value) (xs : List X) → each one (items_view vs) ≡ Some xs → length xs ≡ length vs
  as_many [] xs is = ap (λ (o : Option (List X)). length (unwrap_or o [])) (sym is)
  as_many (v ∷ vs) xs is = counted (length vs) (one (view v)) (each one (items_view vs)) xs (as_many vs) is

-- the values of some items were put
pub record PutSome (f : JsonInput) (items : List Value) (i : ℕ) (before out : List ℕ) : Type 0 where
  pub front : List f.Value
  pub is : with_front f.of_json front (each f.of_json (items_view (drop i items))) ≡ each f.of_json (items_view items)
  pub wrote : out ≡ before ++ flat_map f.bytes front

module _ (f : JsonInput) (items : List Value) where
  pub begun : (before : List ℕ) → PutSome f items 0 before before
  begun before = record { front = []; is = none_before f.of_json (each f.of_json (items_view items)); wrote = sym (append-nil before) }

  module _ (i : ℕ) (before out : List ℕ) (so_far : PutSome f items i before out) (v : Value) where
    step : i < length items → v ≡ get_or items i v → each f.of_json (items_view (drop i items)) ≡ each f.of_json (items_view (v ∷ drop (i + 1) items))
    step low same = at_drop_more (λ (l : List Value). each f.of_json (items_view l)) items i v low ∙ ap (λ (w : Value). each f.of_json (items_view (w ∷ drop (i + 1) items))) (sym same)

    pub one_more : (after : List ℕ) → i < length items → v ≡ get_or items i v → PutsInput f (view v) (Ok tt) out after → PutSome f items (i + 1) before after
    one_more after low same put =
        let rest = each f.of_json (items_view (drop (i + 1) items)) in
        let now : each f.of_json (items_view (drop i items)) ≡ option_map (λ xs. put.value ∷ xs) rest = step low same ∙ rw put.is refl in
        record {
          front = so_far.front ++ put.value ∷ [];
          is = sym (regroup f.of_json so_far.front put.value rest) ∙ (ap (λ (o : Option (List f.Value)). with_front f.of_json so_far.front o) (sym now) ∙ so_far.is);
          wrote = joined before out after (flat_map f.bytes so_far.front) (f.bytes put.value) so_far.wrote put.wrote
              ∙ ap (λ (l : List ℕ). before ++ l) (sym (flat_map-append f.bytes so_far.front (put.value ∷ []) ∙ ap (λ (l : List ℕ). flat_map f.bytes so_far.front ++ l) (append-nil (f.bytes put.value))));
        }

    pub one_refused : (fault : PartFault) → i < length items → v ≡ get_or items i v → Lacks fault (f.of_json (view v)) → Lacks fault (each f.of_json (items_view items))
    one_refused parts.BadField low same refused =
        let now : each f.of_json (items_view (drop i items)) ≡ None = step low same ∙ rw refused refl in
        sym so_far.is ∙ rw now refl
    one_refused parts.NoMemory low same refused = tt

  pub all_put : (i : ℕ) (before out : List ℕ) → PutSome f items i before out → length items ≤ i → PutsItems f (items_view items) (Ok tt) before out
  all_put i before out so_far past =
      let none : drop i items ≡ [] = drop_all i items past in
      let found : with_front f.of_json so_far.front (each f.of_json (items_view (drop i items))) ≡ Some so_far.front = rw none (ap (λ (l : List f.Value). Some l) (append-nil so_far.front)) in
      record { value = so_far.front; is = sym so_far.is ∙ found; wrote = so_far.wrote }

  pub list_put : (d : Data) (result : Result (Unit {0}) PartFault) (before mid after : List ℕ) → as_array d ≡ Some (items_view items) → mid ≡ before ++ count (length items)
      → PutsItems f (items_view items) result mid after → PutsInput (array_input f) d result before after
  list_put d (Ok done) before mid after found counted put = record {
    value = put.value;
    is = rw (found, put.is) refl;
    wrote = joined before mid after (count (length put.value)) (flat_map f.bytes put.value)
        (counted ∙ ap (λ (n : ℕ). before ++ count n) (sym (as_many f.of_json items put.value put.is))) put.wrote;
  }
  list_put d (Err parts.BadField) before mid after found counted put = rw (found, put) refl
  list_put d (Err parts.NoMemory) before mid after found counted put = tt

  pub no_array : (d : Data) → as_array d ≡ None → (array_input f).of_json d ≡ None
  no_array d none = rw none refl
