-- A value is put for one key.
use Rattle.std.proofs.Common.{◌≡◌, ◌<◌, List, [], ◌∷◌, Option, Some, None, Bool, true, false, cond, not, ℕ, refl, sym, subst, ◌∙◌, ap, arith, nat_le, nat_eq, ◌||◌, ◌&&◌, is_some}
use Rattle.std.specs.List.{AllByRecursion}
use Rattle.std.specs.List.Sorted.{IsStrictlySortedBy}
use Rattle.std.specs.declared.cmp.Ordering.{Ordering}
use Rattle.std.specs.declared.cmp.Ordering.TheVariants.{Less, Equal, Greater}
use Rattle.std.specs.Ordering.{is_eq, match_ordering, ordering_reverse}
use Rattle.std.specs.Cmp.{IsTotalOrder}
use Rattle.std.specs.Map.{keys_of, lookup, set_value, remove_entry}
use Rattle.std.specs.BTreeMap.{is_at, insert_entry}
use Rattle.std.proofs.lemmas.Bool.{or_left}
use Rattle.std.proofs.lemmas.Map.{none_passes_from_lookup}
use Rattle.std.proofs.lemmas.Map.Lookups.{CmpEqualImpliesEq}
use Rattle.kr_defs.specs.Map.{IsMap}
use Rattle.kr_defs.proofs.Maps.{below_all, none_below}
use Rattle.kr_defs.proofs.Tests.{some_is}
use Rattle.kr_defs.proofs.OrderedInserts.{insert-between}
use Rattle.kr_timeline.specs.Chains.{value_at, is_written, written, IsTidy, standing, map_of, Versions, AreFalling, AreTidy, put, HasVersion, Writes}
use Rattle.kr_timeline.proofs.Versions.{each, of_left, tidy_map, present-written, same-written, all-written, falls-written, all-again, tidy-written}
use Rattle.kr_timeline.proofs.Entries.{IsOne, one, all_both, same-set, all-set, all-found}
use Rattle.kr_timeline.proofs.Standing.{keys-standing, none-standing}

last_true : (a b c : Bool) → b ≡ true → c ≡ true → a || (b && c) ≡ true
last_true a b c h i = grind arith

at_key : {K : Type 0} (R : K → K → Ordering) (key k : K) (number : ℕ) (a : Bool) → is_eq (R key k) ≡ true → a || (nat_eq number number && is_eq (R key k)) ≡ true
at_key R key k number a h = let same : nat_eq number number ≡ true = grind arith in last_true a (nat_eq number number) (is_eq (R key k)) same h

same_key : {K : Type 0} {R : K → K → Ordering} → IsTotalOrder R → (key : K) → is_eq (R key key) ≡ true
same_key {R} o key = elim (R key key) as (λ r. r ≡ ordering_reverse r → is_eq r ≡ true) [ Less ↦ λ h. cc | Equal ↦ λ h. refl | Greater ↦ λ h. cc ] (o.antisymm key key)

-- the newest version has the number
listed_first : {V : Type 0} (listed : ℕ → Bool) (number : ℕ) (chain : List (ℕ × Option V)) → is_written number chain ≡ true → AllByRecursion (λ (v : ℕ × Option V). not (nat_eq v.0 number) || listed v.0 ≡ true) chain → listed number ≡ true
listed_first listed number [] h a = absurd cc
listed_first listed number (v ∷ older) h a =
    let same : v.0 ≡ number = grind arith in
    ap listed (sym same) ∙ sym (ap (λ b. not b || listed v.0) h) ∙ a.0

module _ {K V : Type 0} where
  pub remove-none : (test : K → Bool) (es : List (K × V)) → lookup test es ≡ None → remove_entry test es ≡ es
  remove-none test [] h = refl
  remove-none test (e ∷ es) h = elim (test e.0) as (λ b. cond b (Some e.1) (lookup test es) ≡ None → cond b es (e ∷ remove_entry test es) ≡ e ∷ es) [ true ↦ λ is. cc | false ↦ λ is. ap (λ (rest : List (K × V)). e ∷ rest) (remove-none test es is) ] h

  remove-set : (test : K → Bool) (m : ℕ) (chain left : List (ℕ × Option V)) (es : List (K × List (ℕ × Option V))) → IsOne test es → lookup test es ≡ Some chain → value_at m left ≡ None → map_of m (set_value test es left) ≡ remove_entry test (map_of m es)
  remove-set test m chain left [] s h none = refl
  remove-set test m chain left (e ∷ es) s h none =
      elim (test e.0) as (λ b. test e.0 ≡ b → cond b (Some e.1) (lookup test es) ≡ Some chain → map_of m (cond b ((e.0, left) ∷ es) (e ∷ set_value test es left)) ≡ remove_entry test (standing e.0 (value_at m e.1) (map_of m es))) [
        | true ↦ λ t is. ap (λ (x : Option V). standing e.0 x (map_of m es)) none ∙
            elim (value_at m e.1) as (λ x. map_of m es ≡ remove_entry test (standing e.0 x (map_of m es))) [
              | None ↦ sym (remove-none test (map_of m es) (none-standing test m es (s.0 t)))
              | Some value ↦ sym (ap (λ b. cond b (map_of m es) ((e.0, value) ∷ remove_entry test (map_of m es))) t)
            ]
        | false ↦ λ t is.
            elim (value_at m e.1) as (λ x. standing e.0 x (map_of m (set_value test es left)) ≡ remove_entry test (standing e.0 x (map_of m es))) [
              | None ↦ remove-set test m chain left es s.1 is none
              | Some value ↦ ap (λ (rest : List (K × V)). (e.0, value) ∷ rest) (remove-set test m chain left es s.1 is none) ∙ sym (ap (λ b. cond b (map_of m es) ((e.0, value) ∷ remove_entry test (map_of m es))) t)
            ]
      ] refl h

  insert-first : {R : K → K → Ordering} → IsTotalOrder R → (key : K) (value : V) (m : ℕ) (es : List (K × List (ℕ × Option V))) → AllByRecursion (λ z. R key z ≡ Less) (keys_of es) → insert_entry R (map_of m es) key value ≡ (key, value) ∷ map_of m es
  insert-first {R} o key value m es a = insert-between o [] (map_of m es) key value tt (keys-standing (λ z. R key z ≡ Less) m es a)

  insert-set : {R : K → K → Ordering} → IsTotalOrder R → CmpEqualImpliesEq R → (key : K) (value : V) (m : ℕ) (chain left : List (ℕ × Option V)) (es : List (K × List (ℕ × Option V))) → IsMap R es → lookup (is_at (R key)) es ≡ Some chain
      → value_at m left ≡ Some value → map_of m (set_value (is_at (R key)) es left) ≡ insert_entry R (map_of m es) key value
  unfolding IsStrictlySortedBy
  insert-set o exact key value m chain left [] s h here = cc
  insert-set {R} o exact key value m chain left (e ∷ es) s h here =
      elim (R key e.0) as (λ r. R key e.0 ≡ r → cond (is_eq r) (Some e.1) (lookup (is_at (R key)) es) ≡ Some chain
      → map_of m (cond (is_eq r) ((e.0, left) ∷ es) (e ∷ set_value (is_at (R key)) es left)) ≡ insert_entry R (standing e.0 (value_at m e.1) (map_of m es)) key value) [
        | Less ↦ λ r is. let nowhere : lookup (is_at (R key)) es ≡ None = none_below o es key (below_all o key e.0 (keys_of es) r s.0) in cc
        | Equal ↦ λ r is. ap (λ (x : Option V). standing e.0 x (map_of m es)) here ∙
            elim (value_at m e.1) as (λ x. (e.0, value) ∷ map_of m es ≡ insert_entry R (standing e.0 x (map_of m es)) key value) [
              | None ↦ let same : e.0 ≡ key = sym (exact key e.0 r) in
                  ap (λ k. (k, value) ∷ map_of m es) same ∙ sym (insert-first o key value m es (subst (λ k. AllByRecursion (λ z. R k z ≡ Less) (keys_of es)) same s.0))
              | Some old ↦ sym (ap (λ q. match_ordering q ((key, value) ∷ (e.0, old) ∷ map_of m es) ((e.0, value) ∷ map_of m es) ((e.0, old) ∷ insert_entry R (map_of m es) key value)) r)
            ]
        | Greater ↦ λ r is.
            elim (value_at m e.1) as (λ x. standing e.0 x (map_of m (set_value (is_at (R key)) es left)) ≡ insert_entry R (standing e.0 x (map_of m es)) key value) [
              | None ↦ insert-set o exact key value m chain left es s.1 is here
              | Some old ↦ ap (λ (rest : List (K × V)). (e.0, old) ∷ rest) (insert-set o exact key value m chain left es s.1 is here)
                  ∙ sym (ap (λ q. match_ordering q ((key, value) ∷ (e.0, old) ∷ map_of m es) ((e.0, value) ∷ map_of m es) ((e.0, old) ∷ insert_entry R (map_of m es) key value)) r)
            ]
      ] refl h

  same-new : (R : K → K → Ordering) (key : K) (m : ℕ) (chain : List (ℕ × Option V)) (es : List (K × List (ℕ × Option V))) → lookup (is_at (R key)) es ≡ None → value_at m chain ≡ None → map_of m (insert_entry R es key chain) ≡ map_of m es
  same-new R key m chain [] h none = ap (λ (x : Option V). standing key x []) none
  same-new R key m chain (e ∷ es) h none =
      elim (R key e.0) as (λ r. cond (is_eq r) (Some e.1) (lookup (is_at (R key)) es) ≡ None → map_of m (match_ordering r ((key, chain) ∷ e ∷ es) ((e.0, chain) ∷ es) (e ∷ insert_entry R es key chain)) ≡ map_of m (e ∷ es)) [
        | Less ↦ λ is. ap (λ (x : Option V). standing key x (map_of m (e ∷ es))) none
        | Equal ↦ λ is. cc
        | Greater ↦ λ is. ap (λ (rest : List (K × V)). standing e.0 (value_at m e.1) rest) (same-new R key m chain es is none)
      ] h

  insert-new : {R : K → K → Ordering} → IsTotalOrder R → (key : K) (value : V) (m : ℕ) (chain : List (ℕ × Option V)) (es : List (K × List (ℕ × Option V))) → IsMap R es → lookup (is_at (R key)) es ≡ None → value_at m chain ≡ Some value
      → map_of m (insert_entry R es key chain) ≡ insert_entry R (map_of m es) key value
  unfolding IsStrictlySortedBy
  insert-new o key value m chain [] s h here = ap (λ (x : Option V). standing key x []) here
  insert-new {R} o key value m chain (e ∷ es) s h here =
      elim (R key e.0) as (λ r. R key e.0 ≡ r → cond (is_eq r) (Some e.1) (lookup (is_at (R key)) es) ≡ None
      → map_of m (match_ordering r ((key, chain) ∷ e ∷ es) ((e.0, chain) ∷ es) (e ∷ insert_entry R es key chain)) ≡ insert_entry R (map_of m (e ∷ es)) key value) [
        | Less ↦ λ r is. ap (λ (x : Option V). standing key x (map_of m (e ∷ es))) here ∙ sym (insert-first o key value m (e ∷ es) (r, below_all o key e.0 (keys_of es) r s.0))
        | Equal ↦ λ r is. cc
        | Greater ↦ λ r is.
            elim (value_at m e.1) as (λ x. standing e.0 x (map_of m (insert_entry R es key chain)) ≡ insert_entry R (standing e.0 x (map_of m es)) key value) [
              | None ↦ insert-new o key value m chain es s.1 is here
              | Some old ↦ ap (λ (rest : List (K × V)). (e.0, old) ∷ rest) (insert-new o key value m chain es s.1 is here)
                  ∙ sym (ap (λ q. match_ordering q ((key, value) ∷ (e.0, old) ∷ map_of m es) ((e.0, value) ∷ map_of m es) ((e.0, old) ∷ insert_entry R (map_of m es) key value)) r)
            ]
      ] refl h

  all-others : (P Q : K × List (ℕ × Option V) → Type 0) (es : List (K × List (ℕ × Option V))) → ((e : K × List (ℕ × Option V)) → P e → Q e) → AllByRecursion P es → AllByRecursion Q es
  all-others P Q [] h a = tt
  all-others P Q (e ∷ es) h a = (h e a.0, all-others P Q es h a.1)

  all-new : (R : K → K → Ordering) (P Q : K × List (ℕ × Option V) → Type 0) (key : K) (chain : List (ℕ × Option V)) (es : List (K × List (ℕ × Option V))) → lookup (is_at (R key)) es ≡ None → Q (key, chain) → ((e : K × List (ℕ × Option V)) → P e → Q e)
      → AllByRecursion P es → AllByRecursion Q (insert_entry R es key chain)
  all-new R P Q key chain [] h here others a = (here, tt)
  all-new R P Q key chain (e ∷ es) h here others a =
      elim (R key e.0) as (λ r. cond (is_eq r) (Some e.1) (lookup (is_at (R key)) es) ≡ None → AllByRecursion Q (match_ordering r ((key, chain) ∷ e ∷ es) ((e.0, chain) ∷ es) (e ∷ insert_entry R es key chain))) [
        | Less ↦ λ is. (here, (others e a.0, all-others P Q es others a.1))
        | Equal ↦ λ is. cc
        | Greater ↦ λ is. (others e a.0, all-new R P Q key chain es is here others a.1)
      ] h

  put-over : {R : K → K → Ordering} → IsTotalOrder R → CmpEqualImpliesEq R → (key : K) (value : Option V) (m : ℕ) (chain left : List (ℕ × Option V)) (es : List (K × List (ℕ × Option V))) → IsMap R es → lookup (is_at (R key)) es ≡ Some chain
      → value_at m left ≡ value → map_of m (set_value (is_at (R key)) es left) ≡ put R (map_of m es) key value
  put-over {R} o exact key None m chain left es s h here = remove-set (is_at (R key)) m chain left es (one o key es s) h here
  put-over {R} o exact key (Some value) m chain left es s h here = insert-set o exact key value m chain left es s h here

  put-new : {R : K → K → Ordering} → IsTotalOrder R → (key : K) (value : Option V) (m : ℕ) (chain : List (ℕ × Option V)) (es : List (K × List (ℕ × Option V))) → IsMap R es → lookup (is_at (R key)) es ≡ None
      → value_at m chain ≡ value → map_of m (insert_entry R es key chain) ≡ put R (map_of m es) key value
  put-new {R} o key None m chain es s h here = same-new R key m chain es h here ∙ sym (remove-none (is_at (R key)) (map_of m es) (none-standing (is_at (R key)) m es (none_passes_from_lookup (is_at (R key)) es h)))
  put-new {R} o key (Some value) m chain es s h here = insert-new o key value m chain es s h here

  -- ---- what it means for all chains

  -- the key has the value from the number on
  pub record Wrote (R : K → K → Ordering) (number : ℕ) (key : K) (value : Option V) (before after : List (K × List (ℕ × Option V))) : Type 0 where
    pub present : map_of number after ≡ put R (map_of number before) key value
    pub same : (m : ℕ) → m < number → map_of m after ≡ map_of m before
    pub within : (passes : K → ℕ → Bool) → Versions passes before → Versions (λ k n. passes k n || (nat_eq n number && is_eq (R key k))) after
    pub falls : AreFalling before → Versions (λ _ n. nat_le n number) before → AreFalling after
    pub tidy : (listed : K → ℕ → Bool) → AreTidy listed before → AreTidy (λ k n. listed k n || (nat_eq n number && is_eq (R key k))) after
    pub again : HasVersion (λ k. is_eq (R key k)) number before → (passes : K → ℕ → Bool) → Versions passes before → Versions passes after
    pub tidy_again : HasVersion (λ k. is_eq (R key k)) number before → (listed : K → ℕ → Bool) → Versions (λ k n. not (nat_eq n number) || listed k n) before → AreTidy listed before → AreTidy listed after

  wrote_over : {R : K → K → Ordering} → IsTotalOrder R → CmpEqualImpliesEq R → (number : ℕ) (key : K) (value : Option V) (chain : List (ℕ × Option V)) (es after : List (K × List (ℕ × Option V))) → IsMap R es → lookup (is_at (R key)) es ≡ Some chain
      → after ≡ set_value (is_at (R key)) es (written number value chain) → Wrote R number key value es after
  wrote_over {R} o exact number key value chain es after s found is = rw is (record {
    present = put-over o exact key value number chain (written number value chain) es s found (present-written number value chain);
    same = λ m lt. same-set (is_at (R key)) m chain (written number value chain) es found (same-written number m value chain lt);
    within = λ passes a. all-set (is_at (R key)) _ _ chain (written number value chain) es found (one o key es s)
        (λ e t h. each _ _ e.1 (λ v p. or_left _ _ p) h)
        (λ k t h. all-written (λ (v : ℕ × Option V). passes k v.0 || (nat_eq v.0 number && is_eq (R key k)) ≡ true) number value chain (at_key R key k number (passes k number) t) (each _ _ chain (λ v p. or_left _ _ p) h)) a;
    falls = λ f a. all-set (is_at (R key)) _ _ chain (written number value chain) es found (one o key es s) (λ e t h. h) (λ k t h. falls-written number value chain (all-found (is_at (R key)) (AllByRecursion (λ (v : ℕ × Option V). nat_le v.0 number ≡ true)) chain es found a) h) f;
    tidy = λ listed a. all-set (is_at (R key)) (λ (e : K × List (ℕ × Option V)). IsTidy (listed e.0) e.1) (λ (e : K × List (ℕ × Option V)). IsTidy (λ n. listed e.0 n || (nat_eq n number && is_eq (R key e.0))) e.1) chain (written number value chain) es found (one o key es s)
        (λ e t h. tidy_map (listed e.0) (λ n. listed e.0 n || (nat_eq n number && is_eq (R key e.0))) e.1 (λ n l. or_left _ _ l) h)
        (λ k t h. tidy-written (λ n. listed k n || (nat_eq n number && is_eq (R key k))) number value chain (at_key R key k number (listed k number) t)
        (of_left (IsTidy (λ n. listed k n || (nat_eq n number && is_eq (R key k)))) chain (tidy_map (listed k) (λ n. listed k n || (nat_eq n number && is_eq (R key k))) chain (λ n l. or_left _ _ l) h))) a;
    again = λ has passes a.
        let same : has.chain ≡ chain = some_is has.chain chain (sym has.found ∙ found) in
        all-set (is_at (R key)) _ _ chain (written number value chain) es found (one o key es s) (λ e t h. h) (λ k t h. all-again (passes k) number value chain (rw (← same) has.first) h) a;
    tidy_again = λ has listed p a.
        let same : has.chain ≡ chain = some_is has.chain chain (sym has.found ∙ found) in
        all-set (is_at (R key)) (λ (e : K × List (ℕ × Option V)). AllByRecursion (λ (v : ℕ × Option V). not (nat_eq v.0 number) || listed e.0 v.0 ≡ true) e.1 × IsTidy (listed e.0) e.1) (λ (e : K × List (ℕ × Option V)). IsTidy (listed e.0) e.1) chain (written number value chain) es found (one o key es s)
        (λ e t h. h.1)
        (λ k t h. tidy-written (listed k) number value chain (listed_first (listed k) number chain (rw (← same) has.first) h.0) (of_left (IsTidy (listed k)) chain h.1))
        (all_both (λ (e : K × List (ℕ × Option V)). AllByRecursion (λ (v : ℕ × Option V). not (nat_eq v.0 number) || listed e.0 v.0 ≡ true) e.1) (λ (e : K × List (ℕ × Option V)). IsTidy (listed e.0) e.1) es p a);
  })

  wrote_new : {R : K → K → Ordering} → IsTotalOrder R → CmpEqualImpliesEq R → (number : ℕ) (key : K) (value : Option V) (es after : List (K × List (ℕ × Option V))) → IsMap R es → lookup (is_at (R key)) es ≡ None
      → after ≡ insert_entry R es key ((number, value) ∷ []) → Wrote R number key value es after
  wrote_new {R} o exact number key value es after s nowhere is = rw is (record {
    present = put-new o key value number ((number, value) ∷ []) es s nowhere (present-written number value []);
    same = λ m lt. same-new R key m ((number, value) ∷ []) es nowhere (same-written number m value [] lt);
    within = λ passes a. all-new R _ _ key ((number, value) ∷ []) es nowhere (at_key R key key number (passes key number) (same_key o key), tt) (λ e h. each _ _ e.1 (λ v p. or_left _ _ p) h) a;
    falls = λ f a. all-new R _ _ key ((number, value) ∷ []) es nowhere (tt, tt) (λ e h. h) f;
    tidy = λ listed a. all-new R (λ (e : K × List (ℕ × Option V)). IsTidy (listed e.0) e.1) (λ (e : K × List (ℕ × Option V)). IsTidy (λ n. listed e.0 n || (nat_eq n number && is_eq (R key e.0))) e.1) key ((number, value) ∷ []) es nowhere
        (or_left _ (is_some value) (at_key R key key number (listed key number) (same_key o key)))
        (λ e h. tidy_map (listed e.0) (λ n. listed e.0 n || (nat_eq n number && is_eq (R key e.0))) e.1 (λ n l. or_left _ _ l) h) a;
    again = λ has passes a. let e = sym has.found ∙ nowhere in cc;
    tidy_again = λ has listed p a. let e = sym has.found ∙ nowhere in cc;
  })

  pub wrote : {R : K → K → Ordering} → IsTotalOrder R → CmpEqualImpliesEq R → (number : ℕ) (key : K) (value : Option V) (es after : List (K × List (ℕ × Option V))) → IsMap R es → Writes R number key value es after → Wrote R number key value es after
  wrote {R} o exact number key value es after s w =
      elim (lookup (is_at (R key)) es) as (λ x. lookup (is_at (R key)) es ≡ x → Wrote R number key value es after) [
        | None ↦ λ h. wrote_new o exact number key value es after s h (w.new h)
        | Some chain ↦ λ h. wrote_over o exact number key value chain es after s h (w.over chain h)
      ] refl
