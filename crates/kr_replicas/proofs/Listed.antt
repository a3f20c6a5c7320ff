-- What is listed once a key is added for a broker.
use Rattle.std.proofs.Common.{◌≡◌, ◌∙◌, ℕ, ℤ, Bool, true, false, ◌&&◌, ◌||◌, cond, List, [], ◌∷◌, refl, sym, ap, subst}
use Rattle.std.specs.Prelude.{Option, Some, None}
use Rattle.std.specs.declared.cmp.Ordering.{Ordering}
use Rattle.std.specs.declared.cmp.Ordering.TheVariants.{Less, Equal, Greater}
use Rattle.std.specs.Ordering.{is_eq, int_cmp, int_eq, match_ordering, ordering_reverse}
use Rattle.std.specs.BTreeMap.{insert_entry, is_at}
use Rattle.std.specs.BTreeSet.{insert_key}
use Rattle.std.specs.List.{list_any}
use Rattle.std.specs.Map.{set_value}
use Rattle.std.specs.Option.{option_map_or}
use Rattle.std.proofs.lemmas.Cmp.{eq_by_cmp_equiv, int_cmp_total}
use Rattle.std.proofs.lemmas.Map.{lookup-set_value}
use Rattle.kr_defs.specs.Ids.{has}
use Rattle.kr_defs.specs.Map.{get, insert, partition_order}
use Rattle.kr_defs.proofs.IdLists.{id_itself, same_id}
use Rattle.kr_defs.proofs.ImageParts.{partition_total}
use Rattle.kr_defs.proofs.Walks.{get_other}
use Rattle.kr_replicas.specs.BrokerPartitions.{Grows, IsListedFor, holds_key, lists_key, with_key}

abbrev Key : Type 0
Key = ℕ × ℤ

abbrev Listed : Type 0
Listed = List (ℤ × List Key)

-- ---- tests

or_last : (a b c : Bool) → (a || (b || c)) ≡ ((b || c) || a)
or_last true true c = refl
or_last true false true = refl
or_last true false false = refl
or_last false true c = refl
or_last false false true = refl
or_last false false false = refl

or_inside : (b c a : Bool) → (b || (c || a)) ≡ ((b || c) || a)
or_inside true c a = refl
or_inside false c a = refl

or_again : (b c : Bool) → (b || c) ≡ ((b || c) || b)
or_again true c = refl
or_again false true = refl
or_again false false = refl

or_none : (a : Bool) → (a || false) ≡ a
or_none true = refl
or_none false = refl

or_more : (m x r s : Bool) → ((m || ((x || false) && s)) || (r && s)) ≡ (m || ((x || r) && s))
or_more true x r s = refl
or_more false true r true = refl
or_more false true true false = refl
or_more false true false false = refl
or_more false false r s = refl

and_none : (a : Bool) → (a && false) ≡ false
and_none true = refl
and_none false = refl

-- ---- one set

same_key : (key added k : Key) → partition_order added k ≡ Equal → partition_order key added ≡ partition_order key k
same_key key added k equal =
    let o = partition_total in
    o.antisymm key added ∙ (ap ordering_reverse (o.congr added k key equal) ∙ sym (o.antisymm key k))

pub among_more : (keys : List Key) (added key : Key) → holds_key (insert_key partition_order keys added) key ≡ (holds_key keys key || is_eq (partition_order key added))
among_more [] added key = or_none (is_eq (partition_order key added))
among_more (k ∷ ks) added key =
    let test = is_eq (partition_order key added) in
    let first = is_eq (partition_order key k) in
    elim (partition_order added k) as (λ r. partition_order added k ≡ r → list_any (is_at (partition_order key)) (match_ordering r (added ∷ k ∷ ks) (k ∷ ks) (k ∷ insert_key partition_order ks added)) ≡ ((first || holds_key ks key) || test)) [
      | Less ↦ λ is. or_last test first (holds_key ks key)
      | Equal ↦ λ is. or_again first (holds_key ks key) ∙ ap (λ r. (first || holds_key ks key) || is_eq r) (sym (same_key key added k is))
      | Greater ↦ λ is. ap (λ b. first || b) (among_more ks added key) ∙ or_inside first (holds_key ks key) test
    ] refl

-- ---- one broker

same_test : (broker x y : ℤ) → is_eq (int_cmp broker x) ≡ true → is_eq (int_cmp broker y) ≡ is_eq (int_cmp x y)
same_test broker x y h = ap (λ z. is_eq (int_cmp z y)) (same_id broker x h)

abbrev has_key : Key → Option (List Key) → Bool
has_key key found = option_map_or (λ keys. holds_key keys key) found false

eq_back : (r : Ordering) → is_eq (ordering_reverse r) ≡ is_eq r
eq_back Less = refl
eq_back Equal = refl
eq_back Greater = refl

get_here : (listed : Listed) (broker : ℤ) (keys : List Key) → get int_cmp (insert int_cmp listed broker keys) broker ≡ Some keys
get_here [] broker keys = ap (λ c. cond c (Some keys) None) (id_itself broker)
get_here (e ∷ es) broker keys =
    elim (int_cmp broker e.0) as (λ r. int_cmp broker e.0 ≡ r → get int_cmp (match_ordering r ((broker, keys) ∷ e ∷ es) ((e.0, keys) ∷ es) (e ∷ insert_entry int_cmp es broker keys)) broker ≡ Some keys) [
      | Less ↦ λ is. ap (λ c. cond c (Some keys) (get int_cmp (e ∷ es) broker)) (id_itself broker)
      | Equal ↦ λ is. ap (λ r. cond (is_eq r) (Some keys) (get int_cmp es broker)) is
      | Greater ↦ λ is. ap (λ r. cond (is_eq r) (Some e.1) (get int_cmp (insert_entry int_cmp es broker keys) broker)) is ∙ get_here es broker keys
    ] refl

-- another broker's keys stay
get_inserted : (listed : Listed) (broker b : ℤ) (keys : List Key) → get int_cmp (insert int_cmp listed broker keys) b ≡ cond (int_eq broker b) (Some keys) (get int_cmp listed b)
get_inserted listed broker b keys =
    elim (int_eq broker b) as (λ c. int_eq broker b ≡ c → get int_cmp (insert int_cmp listed broker keys) b ≡ cond c (Some keys) (get int_cmp listed b)) [
      | true ↦ λ is. subst (λ (z : ℤ). get int_cmp (insert int_cmp listed broker keys) z ≡ Some keys) (same_id broker b is) (get_here listed broker keys)
      | false ↦ λ is. get_other int_cmp_total listed broker b keys (ap is_eq (int_cmp_total.antisymm b broker) ∙ (eq_back (int_cmp broker b) ∙ is))
    ] refl

listed_there : (listed : Listed) (broker : ℤ) (added : Key) (keys : List Key) → get int_cmp listed broker ≡ Some keys → IsListedFor (broker ∷ []) added listed (set_value (is_at (int_cmp broker)) listed (insert_key partition_order keys added))
listed_there listed broker added keys there b key =
    let test = is_eq (partition_order key added) in
    ap (has_key key) (lookup-set_value (eq_by_cmp_equiv int_cmp_total) (is_at (int_cmp broker)) (same_test broker) b (insert_key partition_order keys added) listed (rw there refl))
    ∙ elim (int_eq broker b) as (λ c. int_eq broker b ≡ c → has_key key (cond c (Some (insert_key partition_order keys added)) (get int_cmp listed b)) ≡ (has_key key (get int_cmp listed b) || ((c || false) && test))) [
      | true ↦ λ is.
          let found : get int_cmp listed b ≡ Some keys = subst (λ (z : ℤ). get int_cmp listed z ≡ Some keys) (same_id broker b is) there in
          among_more keys added key ∙ ap (λ o. has_key key o || test) (sym found)
      | false ↦ λ is. sym (or_none (has_key key (get int_cmp listed b)))
    ] refl

listed_new : (listed : Listed) (broker : ℤ) (added : Key) → get int_cmp listed broker ≡ None → IsListedFor (broker ∷ []) added listed (insert int_cmp listed broker (added ∷ []))
listed_new listed broker added none b key =
    let test = is_eq (partition_order key added) in
    ap (has_key key) (get_inserted listed broker b (added ∷ []))
    ∙ elim (int_eq broker b) as (λ c. int_eq broker b ≡ c → has_key key (cond c (Some (added ∷ [])) (get int_cmp listed b)) ≡ (has_key key (get int_cmp listed b) || ((c || false) && test))) [
      | true ↦ λ is.
          let absent : get int_cmp listed b ≡ None = subst (λ (z : ℤ). get int_cmp listed z ≡ None) (same_id broker b is) none in
          or_none test ∙ ap (λ o. has_key key o || test) (sym absent)
      | false ↦ λ is. sym (or_none (has_key key (get int_cmp listed b)))
    ] refl

pub listed_with_key : (listed : Listed) (broker : ℤ) (added : Key) → IsListedFor (broker ∷ []) added listed (with_key added listed broker)
unfolding with_key
listed_with_key listed broker added =
    elim (get int_cmp listed broker) as (λ o. get int_cmp listed broker ≡ o → IsListedFor (broker ∷ []) added listed (option_map_or (λ keys. set_value (is_at (int_cmp broker)) listed (insert_key partition_order keys added)) o (insert int_cmp listed broker (added ∷ [])))) [
      | None ↦ λ is. listed_new listed broker added is
      | Some keys ↦ λ is. listed_there listed broker added keys is
    ] refl

pub grows_for : (brokers : List ℤ) (added : Key) (before after : Listed) → IsListedFor brokers added before after → Grows before after
grows_for brokers added before after is b key there = is b key ∙ ap (λ c. c || (has brokers b && is_eq (partition_order key added))) there

pub listed_once : (listed after : Listed) (broker : ℤ) (added : Key) → after ≡ with_key added listed broker → IsListedFor (broker ∷ []) added listed after
listed_once listed after broker added is = subst (IsListedFor (broker ∷ []) added listed) (sym is) (listed_with_key listed broker added)

pub grows_once : (listed after : Listed) (broker : ℤ) (added : Key) → after ≡ with_key added listed broker → Grows listed after
grows_once listed after broker added is = grows_for (broker ∷ []) added listed after (listed_once listed after broker added is)

-- ---- several brokers

-- what is listed, and what is once the key is listed for these too
abbrev pub listed_with : List ℤ → Key → Listed → ℤ → Key → Bool
listed_with brokers added listed broker key = lists_key listed broker key || (has brokers broker && is_eq (partition_order key added))

abbrev pub Left : List ℤ → Key → Listed → List ℤ → Listed → Type 0
Left brokers added before rest now = (broker : ℤ) (key : Key) → listed_with rest added now broker key ≡ listed_with brokers added before broker key

pub left_more : (brokers : List ℤ) (added : Key) (before now then : Listed) (broker : ℤ) (rest : List ℤ) → IsListedFor (broker ∷ []) added now then → Left brokers added before (broker ∷ rest) now → Left brokers added before rest then
left_more brokers added before now then broker rest is left b key =
    let test = is_eq (partition_order key added) in
    ap (λ c. c || (has rest b && test)) (is b key) ∙ (or_more (lists_key now b key) (int_eq broker b) (has rest b) test ∙ left b key)

pub left_none : (brokers : List ℤ) (added : Key) (before now : Listed) → Left brokers added before [] now → IsListedFor brokers added before now
left_none brokers added before now left b key = sym (or_none (lists_key now b key)) ∙ left b key

pub grows_then : (a b c : Listed) → Grows a b → Grows b c → Grows a c
grows_then a b c one two broker key there = two broker key (one broker key there)

pub grows_itself : (a : Listed) → Grows a a
grows_itself a broker key there = there
