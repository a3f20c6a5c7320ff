-- How many entries a map has, and a sum over them, as the text of settings, after one is set or goes.
use Rattle.std.proofs.Common.{◌≡◌, ◌≤◌, ℕ, ℤ, suc, ◌+◌, true, false, cond, List, [], ◌∷◌, length, refl, sym, ap, ◌∙◌, arith}
use Rattle.std.specs.Prelude.{Option, Some, None, is_some, sum_by, unwrap_or}
use Rattle.std.specs.Option.{option_map}
use Rattle.std.specs.declared.cmp.Ordering.{Ordering}
use Rattle.std.specs.declared.cmp.Ordering.TheVariants.{Less, Equal, Greater}
use Rattle.std.specs.Ordering.{is_eq, int_cmp, match_ordering, ordering_then}
use Rattle.std.specs.BTreeMap.{insert_entry}
use Rattle.std.specs.Cmp.{IsTotalOrder}
use Rattle.std.specs.List.Sorted.{IsStrictlySortedBy}
use Rattle.std.specs.Map.{keys_of}
use Rattle.std.proofs.lemmas.Bool.Decides.{Decides-int_eq}
use Rattle.std.proofs.lemmas.List.Sums.{sum_by-cons}
use Rattle.std.proofs.lemmas.Map.Lookups.{exact_bytes}
use Rattle.kr_defs.specs.declared.record.ConfigKey.{ConfigKey}
use Rattle.kr_defs.specs.Image.{config_text, entry_text}
use Rattle.kr_defs.specs.Map.{IsMap, config_order, contains, get, insert, remove, text_order}
use Rattle.kr_defs.proofs.ImageParts.{config_total}
use Rattle.kr_defs.proofs.Maps.{below_all, length-set, none_below, then_equal}

module _ {K V : Type 0} (R : K → K → Ordering) where
  pub length-new : (es : List (K × V)) (k : K) (v : V) → contains R es k ≡ false → length (insert R es k v) ≡ length es + 1
  length-new [] k v none = refl
  length-new (e ∷ es) k v none =
      elim (R k e.0) as (λ r. is_some (cond (is_eq r) (Some e.1) (get R es k)) ≡ false → length (match_ordering r ((k, v) ∷ e ∷ es) ((e.0, v) ∷ es) (e ∷ insert_entry R es k v)) ≡ length (e ∷ es) + 1) [
        | Less ↦ λ none. omega arith
        | Equal ↦ λ none. cc
        | Greater ↦ λ none. let more = length-new es k v none in omega (arith, more)
      ] none

  pub length-gone : (es : List (K × V)) (k : K) → contains R es k ≡ true → length (remove R es k) + 1 ≡ length es
  length-gone [] k there = cc
  length-gone (e ∷ es) k there =
      elim (is_eq (R k e.0)) as (λ b. is_some (cond b (Some e.1) (get R es k)) ≡ true → length (cond b es (e ∷ remove R es k)) + 1 ≡ length (e ∷ es)) [
        | true ↦ λ there. omega arith
        | false ↦ λ there. let less = length-gone es k there in omega (arith, less)
      ] there

  pub length-absent : (es : List (K × V)) (k : K) → contains R es k ≡ false → length (remove R es k) ≡ length es
  length-absent [] k none = refl
  length-absent (e ∷ es) k none =
      elim (is_eq (R k e.0)) as (λ b. is_some (cond b (Some e.1) (get R es k)) ≡ false → length (cond b es (e ∷ remove R es k)) ≡ length (e ∷ es)) [
        | true ↦ λ none. cc
        | false ↦ λ none. ap suc (length-absent es k none)
      ] none

  pub sum-gone : (f : K × V → ℕ) (congr : (x y : K) (v : V) → R x y ≡ Equal → f (x, v) ≡ f (y, v)) (es : List (K × V)) (k : K) → sum_by f (remove R es k) + unwrap_or (option_map (λ old. f (k, old)) (get R es k)) 0 ≡ sum_by f es
  sum-gone f congr [] k = refl
  sum-gone f congr (e ∷ es) k =
      let less = sum-gone f congr es k in
      let all = sum_by-cons f e es in
      let kept = sum_by-cons f e (remove R es k) in
      elim (R k e.0) as (λ r. R k e.0 ≡ r → sum_by f (cond (is_eq r) es (e ∷ remove R es k)) + unwrap_or (option_map (λ old. f (k, old)) (cond (is_eq r) (Some e.1) (get R es k))) 0 ≡ sum_by f (e ∷ es)) [
        | Less ↦ λ is. omega (arith, less, all, kept)
        | Equal ↦ λ is. let same = congr k e.0 e.1 is in omega (arith, all, same)
        | Greater ↦ λ is. omega (arith, less, all, kept)
      ] refl

-- a key that stands has a value
stands : {V : Type 0} (o : Option V) → is_some o ≡ true → (v : V) × (o ≡ Some v)
stands None h = absurd cc
stands (Some v) h = (v, refl)

module _ {K V : Type 0} {R : K → K → Ordering} (o : IsTotalOrder R) where
  pub length-old : (es : List (K × V)) (k : K) (v : V) → IsMap R es → contains R es k ≡ true → length (insert R es k v) ≡ length es
  length-old es k v ordered there = let old = stands (get R es k) there in length-set o es k old.0 v ordered old.1

  -- a sum over the entries, where the key takes the value
  pub sum-set : (f : K × V → ℕ) (congr : (x y : K) (v : V) → R x y ≡ Equal → f (x, v) ≡ f (y, v)) (es : List (K × V)) (k : K) (v : V) → IsMap R es
      → sum_by f (insert R es k v) + unwrap_or (option_map (λ old. f (k, old)) (get R es k)) 0 ≡ sum_by f es + f (k, v)
  unfolding IsStrictlySortedBy
  sum-set f congr [] k v s = let one = sum_by-cons f (k, v) [] in omega (arith, one)
  sum-set f congr (e ∷ es) k v s =
      let all = sum_by-cons f e es in
      let first = sum_by-cons f (k, v) (e ∷ es) in
      let there = sum_by-cons f (e.0, v) es in
      let later = sum_by-cons f e (insert R es k v) in
      let more = sum-set f congr es k v s.1 in
      elim (R k e.0) as (λ r. R k e.0 ≡ r → sum_by f (match_ordering r ((k, v) ∷ e ∷ es) ((e.0, v) ∷ es) (e ∷ insert_entry R es k v)) + unwrap_or (option_map (λ old. f (k, old)) (cond (is_eq r) (Some e.1) (get R es k))) 0 ≡ sum_by f (e ∷ es) + f (k, v)) [
        | Less ↦ λ is. let none : get R es k ≡ None = none_below o es k (below_all o k e.0 (keys_of es) is s.0) in
            let nothing : unwrap_or (option_map (λ (old : V). f (k, old)) (get R es k)) 0 ≡ 0 = ap (λ (g : Option V). unwrap_or (option_map (λ old. f (k, old)) g) 0) none in
            omega (arith, all, first, nothing)
        | Equal ↦ λ is. let same = congr k e.0 e.1 is in let same' = congr k e.0 v is in omega (arith, all, there, same, same')
        | Greater ↦ λ is. omega (arith, all, later, more)
      ] refl

-- ---- the text of settings

pub is_equal : (r : Ordering) → is_eq r ≡ true → r ≡ Equal
is_equal Less h = absurd cc
is_equal Equal h = refl
is_equal Greater h = absurd cc

abbrev key_of : ℤ → List ℕ → List ℕ → ConfigKey
key_of kind name key = record { kind = kind; name = name; key = key }

-- keys that order alike are the same
pub config_same : (k x : ConfigKey) → is_eq (config_order k x) ≡ true → k ≡ x
config_same k x equal =
    let parts = then_equal (int_cmp k.kind x.kind) (ordering_then (text_order k.name x.name) (text_order k.key x.key)) (is_equal (config_order k x) equal) in
    let rest = then_equal (text_order k.name x.name) (text_order k.key x.key) parts.1 in
    let kinds : k.kind ≡ x.kind = (Decides-int_eq k.kind x.kind).0 (ap is_eq parts.0) in
    let names : k.name ≡ x.name = exact_bytes k.name x.name rest.0 in
    let keys : k.key ≡ x.key = exact_bytes k.key x.key rest.1 in
    ap (λ (a : ℤ). key_of a k.name k.key) kinds ∙ (ap (λ (b : List ℕ). key_of x.kind b k.key) names ∙ ap (λ (c : List ℕ). key_of x.kind x.name c) keys)

same_text : (x y : ConfigKey) (v : List ℕ) → config_order x y ≡ Equal → entry_text x v ≡ entry_text y v
same_text x y v equal = ap (λ (k : ConfigKey). entry_text k v) (config_same x y (ap is_eq equal))

-- the text of a setting that is there, and none of one that isn't, goes with it
pub text_gone : (es : List (ConfigKey × List ℕ)) (k : ConfigKey) → config_text (remove config_order es k) + unwrap_or (option_map (λ value. entry_text k value) (get config_order es k)) 0 ≡ config_text es
text_gone es k = sum-gone config_order (λ e. entry_text e.0 e.1) same_text es k

pub text_set : (es : List (ConfigKey × List ℕ)) (k : ConfigKey) (v : List ℕ) → IsMap config_order es
    → config_text (insert config_order es k v) + unwrap_or (option_map (λ value. entry_text k value) (get config_order es k)) 0 ≡ config_text es + entry_text k v
text_set es k v ordered = sum-set config_total (λ e. entry_text e.0 e.1) same_text es k v ordered

-- a setting that is there has no more text than all
pub text_within : (es : List (ConfigKey × List ℕ)) (k : ConfigKey) (v : List ℕ) → Some v ≡ get config_order es k → entry_text k v ≤ config_text es
text_within es k v there =
    let all = text_gone es k in
    let one : unwrap_or (option_map (λ value. entry_text k value) (get config_order es k)) 0 ≡ entry_text k v = ap (λ (o : Option (List ℕ)). unwrap_or (option_map (λ value. entry_text k value) o) 0) (sym there) in
    omega (arith, all, one)

pub ruleset texts = (text_gone, text_set, text_within)

pub ruleset counting = (length-new, length-old, length-gone, length-absent)
