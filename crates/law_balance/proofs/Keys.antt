-- Keys of partitions, and maps of them.
use Rattle.std.proofs.Common.{◌≡◌, ◌∙◌, Bool, true, false, cond, ℕ, ℤ, List, [], ◌∷◌, refl, sym, ap, subst}
use Rattle.std.specs.Prelude.{Some, None}
use Rattle.std.specs.declared.cmp.Ordering.{Ordering}
use Rattle.std.specs.declared.cmp.Ordering.TheVariants.{Less, Equal, Greater}
use Rattle.std.specs.Cmp.{Equal-is}
use Rattle.std.specs.List.{AllByRecursion}
use Rattle.std.specs.List.Sorted.{IsStrictlySortedBy}
use Rattle.std.specs.Map.{keys_of}
use Rattle.std.specs.Ordering.{int_cmp, is_eq, match_ordering, nat_cmp, ordering_reverse}
use Rattle.std.specs.BTreeMap.{insert_entry}
use Rattle.std.proofs.lemmas.Map.Lookups.{exact_pairs, exact_signed, exact_unsigned}
use Rattle.kr_defs.specs.declared.partition.Partition.{Partition}
use Rattle.kr_defs.specs.Map.{IsMap, get, partition_order}
use Rattle.kr_defs.proofs.ImageParts.{partition_total}
use Rattle.kr_defs.proofs.Maps.{none_below}
use Rattle.kr_defs.proofs.Tests.{some_is}

abbrev pub Key : Type 0
Key = ℕ × ℤ

abbrev pub Entries : Type 0
Entries = List (Key × Partition)

same_is : (o : Ordering) → is_eq (ordering_reverse o) ≡ is_eq o
same_is Less = refl
same_is Equal = refl
same_is Greater = refl

pub other_way : (x y : Key) → is_eq (partition_order x y) ≡ false → is_eq (partition_order y x) ≡ false
other_way x y apart = ap is_eq (partition_total.antisymm y x) ∙ (same_is (partition_order x y) ∙ apart)

equal_itself : (o : Ordering) → o ≡ ordering_reverse o → is_eq o ≡ true
equal_itself Less h = absurd cc
equal_itself Equal h = refl
equal_itself Greater h = absurd cc

pub own_key : (k : Key) → is_eq (partition_order k k) ≡ true
own_key k = equal_itself (partition_order k k) (partition_total.antisymm k k)

pub same_key : (x y : Key) → is_eq (partition_order x y) ≡ true → x ≡ y
same_key x y same = exact_pairs nat_cmp int_cmp exact_unsigned exact_signed x y ((Equal-is (partition_order x y)).0 same)

pub get_same : (es : Entries) (k : Key) (v : Partition) → get partition_order (insert_entry partition_order es k v) k ≡ Some v
get_same [] k v = rw (own_key k) refl
get_same (e ∷ es) k v =
    elim (partition_order k e.0) as (λ r. partition_order k e.0 ≡ r → get partition_order (match_ordering r ((k, v) ∷ e ∷ es) ((e.0, v) ∷ es) (e ∷ insert_entry partition_order es k v)) k ≡ Some v) [
      | Less ↦ λ is. rw (own_key k) refl
      | Equal ↦ λ is. rw is refl
      | Greater ↦ λ is. rw is (get_same es k v)
    ] refl

none_there : (es : Entries) (k : Key) (e : Key × Partition) (v : Partition) → partition_order k e.0 ≡ Less → get partition_order es k ≡ None → get partition_order (e ∷ es) k ≡ Some v → ⊥
none_there es k e v less none some = let is : cond (is_eq (partition_order k e.0)) (Some e.1) (get partition_order es k) ≡ None = ap (λ r. cond (is_eq r) (Some e.1) (get partition_order es k)) less ∙ none in absurd cc

below_too : (k x : Key) (ks : List Key) → partition_order k x ≡ Less → AllByRecursion (λ z. partition_order x z ≡ Less) ks → AllByRecursion (λ z. partition_order k z ≡ Less) ks
below_too k x [] less all = tt
below_too k x (z ∷ ks) less all = (partition_total.trans k x z less all.0, below_too k x ks less all.1)

-- what is put under a key that is there leaves the keys
pub keys_stay : (es : Entries) (k : Key) (old v : Partition) → IsMap partition_order es → get partition_order es k ≡ Some old → keys_of (insert_entry partition_order es k v) ≡ keys_of es
unfolding IsStrictlySortedBy
keys_stay [] k old v s there = absurd cc
keys_stay (e ∷ es) k old v s there =
    elim (partition_order k e.0) as (λ r. partition_order k e.0 ≡ r → keys_of (match_ordering r ((k, v) ∷ e ∷ es) ((e.0, v) ∷ es) (e ∷ insert_entry partition_order es k v)) ≡ e.0 ∷ keys_of es) [
      | Less ↦ λ is. absurd (none_there es k e old is (none_below partition_total es k (below_too k e.0 (keys_of es) is s.0)) there)
      | Equal ↦ λ is. refl
      | Greater ↦ λ is. ap (λ ks. e.0 ∷ ks) (keys_stay es k old v s.1 (ap (λ r. cond (is_eq r) (Some e.1) (get partition_order es k)) (sym is) ∙ there))
    ] refl

-- what is true of all entries is true of the one at a key
pub entry_at : (P : Key × Partition → Type 0) (es : Entries) (k : Key) (v : Partition) → AllByRecursion P es → get partition_order es k ≡ Some v → P (k, v)
entry_at P [] k v all is = absurd cc
entry_at P (e ∷ es) k v all is =
    elim (is_eq (partition_order k e.0)) as (λ b. is_eq (partition_order k e.0) ≡ b → cond b (Some e.1) (get partition_order es k) ≡ Some v → P (k, v)) [
      | true ↦ λ same is.
          subst (λ (p : Partition). P (k, p)) (some_is e.1 v is)
          (subst (λ (q : Key). P (q, e.1)) (sym (same_key k e.0 same)) all.0)
      | false ↦ λ apart is. entry_at P es k v all.1 is
    ] refl is
