-- An index goes on to list the partitions of a map while they change.
use Rattle.std.proofs.Common.{◌≡◌, ◌∙◌, ℕ, ℤ, Bool, true, false, ◌&&◌, ◌||◌, cond, List, [], ◌∷◌, refl, sym, ap, subst}
use Rattle.std.specs.Prelude.{Option, Some, None, All}
use Rattle.std.specs.declared.cmp.Ordering.TheVariants.{Less, Equal, Greater}
use Rattle.std.specs.Ordering.{is_eq, int_cmp, match_ordering, nat_cmp}
use Rattle.std.specs.BTreeMap.{insert_entry}
use Rattle.std.specs.BTreeSet.{insert_key}
use Rattle.std.specs.List.{AllByRecursion}
use Rattle.std.specs.Option.{option_map_or}
use Rattle.std.proofs.lemmas.Cmp.{int_ranked, ranked, tied_itself}
use Rattle.std.proofs.lemmas.List.Elements.{All-from_recursion, recursion_from_All}
use Rattle.kr_defs.specs.declared.partition.Partition.{Partition}
use Rattle.kr_defs.specs.Ids.{has}
use Rattle.kr_defs.specs.Map.{get, insert, partition_order, remove}
use Rattle.kr_defs.proofs.ImageParts.{partition_total}
use Rattle.kr_defs.proofs.Maps.{All-remove, then_equal}
use Rattle.kr_defs.proofs.Tests.{or_right}
use Rattle.kr_replicas.proofs.Listed.{among_more}
use Rattle.kr_replicas.specs.BrokerPartitions.{AreAtLeast, Grows, IsListedFor, KeepsKeys, Lists, has_replica, holds_key, lists_key, keys_or_none}

abbrev Key : Type 0
Key = ℕ × ℤ

abbrev Entry : Type 0
Entry = Key × Partition

abbrev Listed : Type 0
Listed = List (ℤ × List Key)

-- ---- equal keys

same_pair : (a b : ℕ) (c d : ℤ) → a ≡ b → c ≡ d → ◌≡◌ {A = ℕ × ℤ} (a, c) (b, d)
same_pair a b c d p q =
    let first : ℕ → ℕ × ℤ = λ n. (n, c) in
    let second : ℤ → ℕ × ℤ = λ z. (b, z) in
    ap first p ∙ ap second q

pub same_partition : (x y : Key) → partition_order x y ≡ Equal → x ≡ y
same_partition x y is =
    let parts = then_equal (nat_cmp x.0 y.0) (int_cmp x.1 y.1) is in
    same_pair x.0 y.0 x.1 y.1 (ranked x.0 y.0 Equal (sym parts.0)) (int_ranked x.1 y.1 Equal (sym parts.1))

-- ---- of one broker

abbrev IsListed : Listed → ℤ → Entry → Type 0
IsListed listed broker e = has e.1.replicas broker ≡ true → lists_key listed broker e.0 ≡ true

all_more : (before after : Listed) (broker : ℤ) → Grows before after → (es : List Entry) → AllByRecursion (IsListed before broker) es → AllByRecursion (IsListed after broker) es
all_more before after broker grows [] a = tt
all_more before after broker grows (e ∷ es) a = ((λ there. grows broker e.0 (a.0 there)), all_more before after broker grows es a.1)

all_set : (listed : Listed) (broker : ℤ) (key : Key) (p : Partition) → IsListed listed broker (key, p) → (es : List Entry) → AllByRecursion (IsListed listed broker) es → AllByRecursion (IsListed listed broker) (insert partition_order es key p)
all_set listed broker key p own [] a = (own, tt)
all_set listed broker key p own (e ∷ es) a =
    elim (partition_order key e.0) as (λ r. partition_order key e.0 ≡ r → AllByRecursion (IsListed listed broker) (match_ordering r ((key, p) ∷ e ∷ es) ((e.0, p) ∷ es) (e ∷ insert_entry partition_order es key p))) [
      | Less ↦ λ is. (own, a)
      | Equal ↦ λ is. (subst (λ (k : Key). IsListed listed broker (k, p)) (same_partition key e.0 is) own, a.1)
      | Greater ↦ λ is. (a.0, all_set listed broker key p own es a.1)
    ] refl

-- ---- of all brokers

pub lists_none : (listed : Listed) → Lists listed []
lists_none listed broker = All-from_recursion (IsListed listed broker) [] tt

-- an index that lists more lists them too
pub lists_more : (before after : Listed) (es : List Entry) → Grows before after → Lists before es → Lists after es
lists_more before after es grows lists broker =
    All-from_recursion (IsListed after broker) es (all_more before after broker grows es (recursion_from_All (IsListed before broker) es (lists broker)))

-- the key is listed for the partition's replicas
pub listed_for : (before after : Listed) (key : Key) (replicas : List ℤ) → IsListedFor replicas key before after → (broker : ℤ) → has replicas broker ≡ true → lists_key after broker key ≡ true
listed_for before after key replicas added broker there =
    added broker key
    ∙ (ap (λ c. lists_key before broker key || (c && is_eq (partition_order key key))) there
    ∙ (ap (λ r. lists_key before broker key || is_eq r) (tied_itself partition_total key) ∙ or_right (lists_key before broker key) true refl))

-- a partition whose key is listed for its replicas takes its place
pub lists_set : (listed : Listed) (es : List Entry) (key : Key) (p : Partition) → ((broker : ℤ) → has p.replicas broker ≡ true → lists_key listed broker key ≡ true) → Lists listed es → Lists listed (insert partition_order es key p)
lists_set listed es key p own lists broker =
    All-from_recursion (IsListed listed broker) (insert partition_order es key p) (all_set listed broker key p (own broker) es (recursion_from_All (IsListed listed broker) es (lists broker)))

pub lists_gone : (listed : Listed) (es : List Entry) (key : Key) → Lists listed es → Lists listed (remove partition_order es key)
lists_gone listed es key lists broker = All-remove partition_order (IsListed listed broker) es key (lists broker)

-- what is listed for a broker is at least the keys of its partitions
pub at_least : (listed : Listed) (broker : ℤ) (o : Option (List Key)) (es : List Entry) → Lists listed es → o ≡ get int_cmp listed broker → AreAtLeast (keys_or_none o) (has_replica broker) es
at_least listed broker None es lists found =
    subst (λ (o : Option (List Key)). All (λ (e : Entry). has e.1.replicas broker ≡ true → option_map_or (λ keys. holds_key keys e.0) o false ≡ true) es) (sym found) (lists broker)
at_least listed broker (Some keys) es lists found =
    subst (λ (o : Option (List Key)). All (λ (e : Entry). has e.1.replicas broker ≡ true → option_map_or (λ keys. holds_key keys e.0) o false ≡ true) es) (sym found) (lists broker)

-- ---- keys of the partitions that pass a test

pub least_none : (keys : List Key) (test : Partition → Bool) → AreAtLeast keys test []
least_none keys test = All-from_recursion (λ (e : Entry). test e.1 ≡ true → holds_key keys e.0 ≡ true) [] tt

least_all : (before after : List Key) (test : Partition → Bool) → KeepsKeys before after → (es : List Entry) → AllByRecursion (λ (e : Entry). test e.1 ≡ true → holds_key before e.0 ≡ true) es → AllByRecursion (λ (e : Entry). test e.1 ≡ true → holds_key after e.0 ≡ true) es
least_all before after test more [] a = tt
least_all before after test more (e ∷ es) a = ((λ passes. more e.0 (a.0 passes)), least_all before after test more es a.1)

pub least_more : (before after : List Key) (test : Partition → Bool) (es : List Entry) → KeepsKeys before after → AreAtLeast before test es → AreAtLeast after test es
least_more before after test es more least =
    All-from_recursion (λ (e : Entry). test e.1 ≡ true → holds_key after e.0 ≡ true) es (least_all before after test more es (recursion_from_All (λ (e : Entry). test e.1 ≡ true → holds_key before e.0 ≡ true) es least))

least_in_place : (keys : List Key) (test : Partition → Bool) (key : Key) (p : Partition) → (test p ≡ true → holds_key keys key ≡ true) → (es : List Entry) → AllByRecursion (λ (e : Entry). test e.1 ≡ true → holds_key keys e.0 ≡ true) es
    → AllByRecursion (λ (e : Entry). test e.1 ≡ true → holds_key keys e.0 ≡ true) (insert partition_order es key p)
least_in_place keys test key p own [] a = (own, tt)
least_in_place keys test key p own (e ∷ es) a =
    elim (partition_order key e.0) as (λ r. partition_order key e.0 ≡ r → AllByRecursion (λ (e : Entry). test e.1 ≡ true → holds_key keys e.0 ≡ true) (match_ordering r ((key, p) ∷ e ∷ es) ((e.0, p) ∷ es) (e ∷ insert_entry partition_order es key p))) [
      | Less ↦ λ is. (own, a)
      | Equal ↦ λ is. (subst (λ (k : Key). test p ≡ true → holds_key keys k ≡ true) (same_partition key e.0 is) own, a.1)
      | Greater ↦ λ is. (a.0, least_in_place keys test key p own es a.1)
    ] refl

pub least_set : (keys : List Key) (test : Partition → Bool) (es : List Entry) (key : Key) (p : Partition) → (test p ≡ true → holds_key keys key ≡ true) → AreAtLeast keys test es → AreAtLeast keys test (insert partition_order es key p)
least_set keys test es key p own least =
    let P : Entry → Type 0 = λ e. test e.1 ≡ true → holds_key keys e.0 ≡ true in
    All-from_recursion P (insert partition_order es key p) (least_in_place keys test key p own es (recursion_from_All P es least))

pub least_gone : (keys : List Key) (test : Partition → Bool) (es : List Entry) (key : Key) → AreAtLeast keys test es → AreAtLeast keys test (remove partition_order es key)
least_gone keys test es key least = All-remove partition_order (λ (e : Entry). test e.1 ≡ true → holds_key keys e.0 ≡ true) es key least

-- a key that is put among others
pub among_itself : (keys : List Key) (key : Key) → holds_key (insert_key partition_order keys key) key ≡ true
among_itself keys key = among_more keys key key ∙ (ap (λ r. holds_key keys key || is_eq r) (tied_itself partition_total key) ∙ or_right (holds_key keys key) true refl)

pub more_keys : (keys : List Key) (added : Key) → KeepsKeys keys (insert_key partition_order keys added)
more_keys keys added key there = among_more keys added key ∙ ap (λ b. b || is_eq (partition_order key added)) there
