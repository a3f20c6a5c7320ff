-- The changes of the partitions whose keys are listed are those of all, where the others aren't changed.
use Rattle.std.proofs.Common.{◌≡◌, ◌∙◌, ℕ, ℤ, Bool, true, false, not, ◌&&◌, ◌||◌, cond, List, [], ◌∷◌, ◌++◌, refl, sym, ap, subst, negsuc, pos}
use Rattle.std.specs.Prelude.{◌==◌, Option, Some, None, All, IsTrue, filter, find, flat_map, fold, map, int_lt}
use Rattle.std.specs.declared.cmp.Ordering.TheVariants.{Less, Equal, Greater}
use Rattle.std.specs.declared.ops.Bound.TheVariants.{Excluded, Included}
use Rattle.std.specs.Ordering.{is_eq, is_lt, int_cmp, match_ordering, nat_cmp, ordering_then}
use Rattle.std.specs.BTreeMap.{insert_entry, is_at}
use Rattle.std.specs.BTreeMap.Range.{range_contains}
use Rattle.std.specs.List.{AllByRecursion, cons_option, list_any}
use Rattle.std.specs.List.Sorted.{IsStrictlySortedBy}
use Rattle.std.specs.Map.{keys_of, values_of}
use Rattle.std.specs.Option.{option_map, option_map_or}
use Rattle.std.proofs.lemmas.Cmp.{nat_cmp_total, ranked, tied_itself}
use Rattle.std.proofs.lemmas.List.{append-nil}
use Rattle.std.proofs.lemmas.List.Elements.{filter_map-append, recursion_from_All}
use Rattle.std.proofs.lemmas.Map.Lookups.{exact_bytes}
use Rattle.kr_defs.specs.declared.limits.TheConstants.{LAST_INDEX}
use Rattle.kr_defs.specs.declared.partition.Partition.{Partition}
use Rattle.kr_defs.specs.declared.partition.PartitionChange.{PartitionChange}
use Rattle.kr_defs.specs.declared.record.Record.{Record}
use Rattle.kr_defs.specs.declared.record.Record.TheVariants as kinds
use Rattle.kr_defs.specs.Ids.{has, is_distinct, is_within}
use Rattle.kr_defs.specs.Image.{Image, IsValid, are_distinct, is_index, topic_name}
use Rattle.kr_defs.specs.Map.{IsMap, get, insert, partition_order, text_order}
use Rattle.kr_defs.specs.Partition.{is_natural, is_well_formed}
use Rattle.kr_defs.specs.Walk.{Walked, change_of, changes_of, of_topic, walk, walk_topic, walked}
use Rattle.kr_calls.specs.TakingOut.{taking_out}
use Rattle.kr_defs.proofs.Changes.{formed_parts}
use Rattle.kr_defs.proofs.IdLists.{all_at}
use Rattle.kr_defs.proofs.ImageParts.{partition_total, text_total}
use Rattle.kr_defs.proofs.Maps.{IsMap-insert}
use Rattle.kr_defs.proofs.Tests.{both, neither, not_equal, not_true, or_right, some_is}
use Rattle.kr_defs.proofs.TopicWalks.{equal_ids, same_topic}
use Rattle.kr_defs.proofs.Walks.{own_entries}
use Rattle.kr_replicas.specs.BrokerPartitions.{AreAtLeast, has_replica, holds_key}
use Rattle.kr_replicas.proofs.Partitions.{same_partition}
use Rattle.kr_replication.specs.ListedWalks.{ConcernsOnly, keys_of_topic, last_key, names_of_keys, records_of_keys, records_of_names, with_topic_name}
use Rattle.kr_replication.proofs.Supersets.{IsCovered, superset}
use Rattle.kr_store.specs.Images.{topic_of}

abbrev Key : Type 0
Key = ℕ × ℤ

abbrev Entry : Type 0
Entry = Key × Partition

abbrev Named : Type 0
Named = List ℕ × ℕ

-- ---- equal keys

same_text : (x y : List ℕ) → text_order x y ≡ Equal → x ≡ y
same_text x y is = exact_bytes x y is

-- ---- the keys of a topic

abbrev is_of : ℕ → Key → Bool
is_of id key = range_contains partition_order (Excluded (id, negsuc 0)) (Included (last_key id)) key

in_topic : (id : ℕ) (key : Key) → is_of id key ≡ true → (key.0 == id) ≡ true
in_topic id key h =
    elim (nat_cmp id key.0) as (λ r. nat_cmp id key.0 ≡ r → (is_lt (ordering_then r (int_cmp (negsuc 0) key.1)) && not (is_lt (ordering_then r (int_cmp LAST_INDEX key.1)))) ≡ true → (key.0 == id) ≡ true) [
      | Less ↦ λ is h. absurd cc
      | Equal ↦ λ is h. equal_ids key.0 id (sym (ranked id key.0 Equal (sym is)))
      | Greater ↦ λ is h. absurd cc
    ] refl h

first_index : (n : ℤ) → is_index n ≡ true → int_cmp (negsuc 0) n ≡ Less
first_index (pos n) h = refl
first_index (negsuc n) h = absurd cc

not_above : (b c : Bool) → b ≡ false → is_lt (cond b Less (cond c Greater Equal)) ≡ false
not_above true c h = absurd cc
not_above false true h = refl
not_above false false h = refl

last_index : (n : ℤ) → is_index n ≡ true → is_lt (int_cmp LAST_INDEX n) ≡ false
last_index n h = not_above (int_lt LAST_INDEX n) (int_lt n LAST_INDEX) (not_true (int_lt LAST_INDEX n) (both (is_natural n) (not (int_lt LAST_INDEX n)) h).1)

own_key : (x : ℕ) (index : ℤ) → is_index index ≡ true → is_of x (x, index) ≡ true
own_key x index h =
    ap (λ r. is_lt (ordering_then r (int_cmp (negsuc 0) index)) && not (is_lt (ordering_then r (int_cmp LAST_INDEX index)))) (tied_itself nat_cmp_total x)
    ∙ (ap (λ r. is_lt r && not (is_lt (int_cmp LAST_INDEX index))) (first_index index h) ∙ ap (λ b. not b) (last_index index h))

from_topic : (id : ℕ) (key : Key) → (key.0 == id) ≡ true → is_index key.1 ≡ true → is_of id key ≡ true
from_topic id key is h = subst (λ (x : ℕ). is_of x key ≡ true) (same_topic key.0 id is) (own_key key.0 key.1 h)

among_kept : (test : Key → Bool) (keys : List Key) (key : Key) → holds_key keys key ≡ true → test key ≡ true → holds_key (filter test keys) key ≡ true
among_kept test [] key h t = absurd cc
among_kept test (k ∷ ks) key h t =
    let kept : holds_key ks key ≡ true → holds_key (filter test (k ∷ ks)) key ≡ true = λ h.
    elim (test k) as (λ b. holds_key (cond b (k ∷ filter test ks) (filter test ks)) key ≡ true) [
      | true ↦ or_right (is_eq (partition_order key k)) (holds_key (filter test ks) key) (among_kept test ks key h t)
      | false ↦ among_kept test ks key h t
    ]
    in
    elim (partition_order key k) as (λ r. partition_order key k ≡ r → (is_eq r || holds_key ks key) ≡ true → holds_key (filter test (k ∷ ks)) key ≡ true) [
      | Less ↦ λ is h. kept h
      | Equal ↦ λ is h.
          let passes : test k ≡ true = subst (λ (z : Key). test z ≡ true) (same_partition key k is) t in
          ap (λ b. holds_key (cond b (k ∷ filter test ks) (filter test ks)) key) passes ∙ ap (λ r. is_eq r || holds_key (filter test ks) key) is
      | Greater ↦ λ is h. kept h
    ] refl h

all_kept : (P : Key → Type 0) (test : Key → Bool) (keys : List Key) → AllByRecursion P keys → AllByRecursion P (filter test keys)
all_kept P test [] a = tt
all_kept P test (k ∷ ks) a =
    elim (test k) as (λ b. AllByRecursion P (cond b (k ∷ filter test ks) (filter test ks))) [
      | true ↦ (a.0, all_kept P test ks a.1)
      | false ↦ all_kept P test ks a.1
    ]

sorted_kept : (test : Key → Bool) (keys : List Key) → IsStrictlySortedBy partition_order keys → IsStrictlySortedBy partition_order (filter test keys)
unfolding IsStrictlySortedBy
sorted_kept test [] s = tt
sorted_kept test (k ∷ ks) s =
    elim (test k) as (λ b. IsStrictlySortedBy partition_order (cond b (k ∷ filter test ks) (filter test ks))) [
      | true ↦ (all_kept (λ z. partition_order k z ≡ Less) test ks s.0, sorted_kept test ks s.1)
      | false ↦ sorted_kept test ks s.1
    ]

all_pass : (P : Key → Type 0) (test : Key → Bool) (keys : List Key) → ((k : Key) → test k ≡ true → P k) → AllByRecursion P (filter test keys)
all_pass P test [] f = tt
all_pass P test (k ∷ ks) f =
    elim (test k) as (λ b. test k ≡ b → AllByRecursion P (cond b (k ∷ filter test ks) (filter test ks))) [
      | true ↦ λ is. (f k is, all_pass P test ks f)
      | false ↦ λ is. all_pass P test ks f
    ] refl

-- ---- names of topics

module _ (topics : List Named) where
  abbrev has_name : List Named → List ℕ → Bool
  has_name names name = list_any (is_at (text_order name)) (keys_of names)

  abbrev step : List Named → Key → Option (List ℕ) → List Named
  step names k found = option_map_or (λ topic. insert text_order names topic.name k.0) (option_map (λ name. topic_of name k.0) found) names

  insert_all : (P : Named → Type 0) (names : List Named) (name : List ℕ) (id : ℕ) → AllByRecursion P names → P (name, id) → AllByRecursion P (insert text_order names name id)
  insert_all P [] name id a h = (h, tt)
  insert_all P (e ∷ es) name id a h =
      elim (text_order name e.0) as (λ r. text_order name e.0 ≡ r → AllByRecursion P (match_ordering r ((name, id) ∷ e ∷ es) ((e.0, id) ∷ es) (e ∷ insert_entry text_order es name id))) [
        | Less ↦ λ is. (h, a)
        | Equal ↦ λ is. (subst (λ (n : List ℕ). P (n, id)) (same_text name e.0 is) h, a.1)
        | Greater ↦ λ is. (a.0, insert_all P es name id a.1 h)
      ] refl

  found_in : (P : Named → Type 0) (ts : List Named) (id : ℕ) (name : List ℕ) → AllByRecursion P ts → topic_name ts id ≡ Some name → P (name, id)
  found_in P [] id name a found = absurd cc
  found_in P (t ∷ ts) id name a found =
      elim (t.1 == id) as (λ b. (t.1 == id) ≡ b → option_map (λ (e : Named). e.0) (cond b (Some t) (find (λ e. e.1 == id) ts)) ≡ Some name → P (name, id)) [
        | true ↦ λ is found. subst (λ (n : List ℕ). P (n, id)) (some_is t.0 name found) (subst (λ (i : ℕ). P (t.0, i)) (same_topic t.1 id is) a.0)
        | false ↦ λ is found. found_in P ts id name a.1 found
      ] refl found

  names_all : (P : Named → Type 0) → AllByRecursion P topics → (keys : List Key) (names : List Named) → AllByRecursion P names → AllByRecursion P (fold (with_topic_name topics) names keys)
  names_all P of [] names a = a
  names_all P of (k ∷ ks) names a =
      names_all P of ks (with_topic_name topics names k) (elim (topic_name topics k.0) as (λ o. topic_name topics k.0 ≡ o → AllByRecursion P (step names k o)) [
        | None ↦ λ is. a
        | Some name ↦ λ is. insert_all P names name k.0 a (found_in P topics k.0 name of is)
      ] refl)

  names_ordered : (keys : List Key) (names : List Named) → IsMap text_order names → IsMap text_order (fold (with_topic_name topics) names keys)
  names_ordered [] names s = s
  names_ordered (k ∷ ks) names s =
      names_ordered ks (with_topic_name topics names k) (elim (topic_name topics k.0) as (λ o. IsMap text_order (step names k o)) [
        | None ↦ s
        | Some name ↦ IsMap-insert text_total names name k.0 s
      ])

  stays : (names : List Named) (k : List ℕ) (id : ℕ) (name : List ℕ) → has_name names name ≡ true → has_name (insert text_order names k id) name ≡ true
  stays [] k id name h = absurd cc
  stays (e ∷ es) k id name h =
      elim (text_order k e.0) as (λ r. has_name (match_ordering r ((k, id) ∷ e ∷ es) ((e.0, id) ∷ es) (e ∷ insert_entry text_order es k id)) name ≡ true) [
        | Less ↦ or_right (is_eq (text_order name k)) (has_name (e ∷ es) name) h
        | Equal ↦ h
        | Greater ↦ elim (is_eq (text_order name e.0)) as (λ b. (b || has_name es name) ≡ true → (b || has_name (insert_entry text_order es k id) name) ≡ true) [
          | true ↦ λ h. refl
          | false ↦ λ h. stays es k id name h
        ] h
      ]

  added : (names : List Named) (k : List ℕ) (id : ℕ) → has_name (insert text_order names k id) k ≡ true
  added [] k id = ap (λ r. is_eq r || false) (tied_itself text_total k)
  added (e ∷ es) k id =
      elim (text_order k e.0) as (λ r. text_order k e.0 ≡ r → has_name (match_ordering r ((k, id) ∷ e ∷ es) ((e.0, id) ∷ es) (e ∷ insert_entry text_order es k id)) k ≡ true) [
        | Less ↦ λ is. ap (λ r. is_eq r || has_name (e ∷ es) k) (tied_itself text_total k)
        | Equal ↦ λ is. ap (λ r. is_eq r || has_name es k) is
        | Greater ↦ λ is. or_right (is_eq (text_order k e.0)) (has_name (insert_entry text_order es k id) k) (added es k id)
      ] refl

  names_stay : (keys : List Key) (names : List Named) (name : List ℕ) → has_name names name ≡ true → has_name (fold (with_topic_name topics) names keys) name ≡ true
  names_stay [] names name h = h
  names_stay (k ∷ ks) names name h =
      names_stay ks (with_topic_name topics names k) name (elim (topic_name topics k.0) as (λ o. has_name (step names k o) name ≡ true) [
        | None ↦ h
        | Some other ↦ stays names other k.0 name h
      ])

  listed_named : (keys : List Key) (names : List Named) (key : Key) (name : List ℕ) → holds_key keys key ≡ true → topic_name topics key.0 ≡ Some name → has_name (fold (with_topic_name topics) names keys) name ≡ true
  listed_named [] names key name h named = absurd cc
  listed_named (k ∷ ks) names key name h named =
      elim (partition_order key k) as (λ r. partition_order key k ≡ r → (is_eq r || holds_key ks key) ≡ true → has_name (fold (with_topic_name topics) (with_topic_name topics names k) ks) name ≡ true) [
        | Less ↦ λ is h. listed_named ks (with_topic_name topics names k) key name h named
        | Equal ↦ λ is h.
            let own : topic_name topics k.0 ≡ Some name = subst (λ (z : Key). topic_name topics z.0 ≡ Some name) (same_partition key k is) named in
            names_stay ks (with_topic_name topics names k) name (ap (λ o. has_name (step names k o) name) own ∙ added names name k.0)
        | Greater ↦ λ is h. listed_named ks (with_topic_name topics names k) key name h named
      ] refl h

named_later : (t : Named) (ts us : List Named) → list_any (λ other. other == t.1) (values_of us) ≡ false → AllByRecursion (λ u. topic_name ts u.1 ≡ Some u.0) us → AllByRecursion (λ u. topic_name (t ∷ ts) u.1 ≡ Some u.0) us
named_later t ts [] absent named = tt
named_later t ts (u ∷ us) absent named =
    let n = neither (u.1 == t.1) (list_any (λ other. other == t.1) (values_of us)) absent in
    (ap (λ b. option_map (λ (e : Named). e.0) (cond b (Some t) (find (λ e. e.1 == u.1) ts))) (not_equal u.1 t.1 n.0) ∙ named.0, named_later t ts us n.1 named.1)

own_names : (ts : List Named) → are_distinct (values_of ts) ≡ true → AllByRecursion (λ t. topic_name ts t.1 ≡ Some t.0) ts
own_names [] distinct = tt
own_names (t ∷ ts) distinct =
    let d = both (not (list_any (λ other. other == t.1) (values_of ts))) (are_distinct (values_of ts)) distinct in
    (ap (λ b. option_map (λ (e : Named). e.0) (cond b (Some t) (find (λ e. e.1 == t.1) ts))) (equal_ids t.1 t.1 refl), named_later t ts ts (not_true (list_any (λ other. other == t.1) (values_of ts)) d.0) (own_names ts d.1))

-- ---- changes

module _ (change : Walked → Option PartitionChange) (image : Image) (test : Partition → Bool) (keys : List Key) (valid : IsValid image) (sorted : IsStrictlySortedBy partition_order keys) (least : AreAtLeast keys test image.partitions) (concerns : ConcernsOnly test change) where
  abbrev ps : List Entry
  ps = image.partitions

  abbrev out : List ℕ → ℕ → Key → Partition → List Record
  out name id key p = cond (key.0 == id) (cons_option (change_of change (walked name (key, p))) []) []

  one_more : (o : Option Record) (rs : List Record) → cons_option o [] ++ rs ≡ cons_option o rs
  one_more None rs = refl
  one_more (Some r) rs = refl

  walked_topic : (name : List ℕ) (id : ℕ) (es : List Entry) → flat_map (λ (e : Entry). out name id e.0 e.1) es ≡ changes_of change (map (walked name) (of_topic id es))
  walked_topic name id [] = refl
  walked_topic name id (e ∷ es) =
      let rest = changes_of change (map (walked name) (of_topic id es)) in
      elim (e.0.0 == id) as (λ b. cond b (cons_option (change_of change (walked name e)) []) [] ++ flat_map (λ (e : Entry). out name id e.0 e.1) es ≡ changes_of change (map (walked name) (cond b (e ∷ of_topic id es) (of_topic id es)))) [
        | true ↦ ap (λ rs. cons_option (change_of change (walked name e)) [] ++ rs) (walked_topic name id es) ∙ one_more (change_of change (walked name e)) rest
        | false ↦ walked_topic name id es
      ]

  abbrev at : List ℕ → ℕ → Key → List Record
  at name id k = option_map_or (out name id k) (get partition_order ps k) []

  looked_up : (name : List ℕ) (id : ℕ) (ks : List Key) → AllByRecursion (λ k. (k.0 == id) ≡ true) ks → records_of_keys change image name ks ≡ flat_map (at name id) ks
  looked_up name id [] a = refl
  looked_up name id (k ∷ ks) a =
      ap (λ b. option_map_or (λ (p : Partition). cond b (cons_option (change_of change (walked name (k, p))) []) []) (get partition_order ps k) [] ++ records_of_keys change image name ks) (sym a.0)
      ∙ ap (λ rs. at name id k ++ rs) (looked_up name id ks a.1)

  abbrev Least : List Entry → Type 0
  Least es = AllByRecursion (λ (e : Entry). test e.1 ≡ true → holds_key keys e.0 ≡ true) es

  abbrev Formed : List Entry → Type 0
  Formed es = AllByRecursion (λ (e : Entry). IsTrue (is_well_formed e.1)) es

  least_all : Least ps
  least_all = recursion_from_All (λ (e : Entry). test e.1 ≡ true → holds_key keys e.0 ≡ true) ps least

  formed_all : Formed ps
  formed_all = recursion_from_All (λ (e : Entry). IsTrue (is_well_formed e.1)) ps valid.partitions.well_formed

  no_change : (e : Entry) (name : List ℕ) (rs : List Record) → is_well_formed e.1 ≡ true → test e.1 ≡ false → cons_option (change_of change (walked name e)) rs ≡ rs
  no_change e name rs formed absent = ap (λ (o : Option PartitionChange). cons_option (option_map (λ c. kinds.PartitionChange e.0.1 e.0.0 c) o) rs) (concerns (walked name e) formed absent)

  covered : (name : List ℕ) (id : ℕ) (es : List Entry) → Least es → AllByRecursion (λ (e : Entry). IsTrue (is_index e.0.1)) es → Formed es → AllByRecursion (IsCovered partition_total same_partition (out name id) (keys_of_topic id keys)) es
  covered name id [] l i f = tt
  covered name id (e ∷ es) l i f = (
    (λ none. elim (e.0.0 == id) as (λ b. (e.0.0 == id) ≡ b → cond b (cons_option (change_of change (walked name e)) []) [] ≡ []) [
      | true ↦ λ is. elim (test e.1) as (λ c. test e.1 ≡ c → cons_option (change_of change (walked name e)) [] ≡ []) [
        | true ↦ λ there. let apart : false ≡ true = sym none ∙ among_kept (is_of id) keys e.0 (l.0 there) (from_topic id e.0 is i.0) in absurd cc
        | false ↦ λ absent. no_change e name [] f.0 absent
      ] refl
      | false ↦ λ is. refl
    ] refl),
    covered name id es l.1 i.1 f.1,
  )

  pub topic_changes : (name : List ℕ) (id : ℕ) → records_of_keys change image name (keys_of_topic id keys) ≡ changes_of change (walk_topic ps (name, id))
  topic_changes name id =
      let ks = keys_of_topic id keys in
      looked_up name id ks (all_pass (λ k. (k.0 == id) ≡ true) (is_of id) keys (in_topic id))
      ∙ (superset partition_total same_partition (out name id) ks (sorted_kept (is_of id) keys sorted) ps valid.partitions.ordered
      (covered name id ps least_all (recursion_from_All (λ (e : Entry). IsTrue (is_index e.0.1)) ps valid.partitions.indexes) formed_all)
      ∙ walked_topic name id ps)

  -- ---- all topics

  abbrev of_name : List ℕ → ℕ → List Record
  of_name name id = changes_of change (walk_topic ps (name, id))

  walked_topics : (ts : List Named) → flat_map (λ (t : Named). of_name t.0 t.1) ts ≡ changes_of change (flat_map (walk_topic ps) ts)
  walked_topics [] = refl
  walked_topics (t ∷ ts) =
      ap (λ rs. changes_of change (walk_topic ps t) ++ rs) (walked_topics ts) ∙ sym (filter_map-append (change_of change) (walk_topic ps t) (flat_map (walk_topic ps) ts))

  abbrev at_name : List ℕ → List Record
  at_name name = option_map_or (of_name name) (get text_order image.topics name) []

  walked_names : (names : List Named) → AllByRecursion (λ (t : Named). get text_order image.topics t.0 ≡ Some t.1) names → records_of_names change image keys names ≡ flat_map at_name (keys_of names)
  walked_names [] a = refl
  walked_names (t ∷ ts) a =
      ap (λ rs. rs ++ records_of_names change image keys ts) (topic_changes t.0 t.1)
      ∙ (ap (λ found. option_map_or (of_name t.0) found [] ++ records_of_names change image keys ts) (sym a.0)
      ∙ ap (λ rs. at_name t.0 ++ rs) (walked_names ts a.1))

  abbrev names : List Named
  names = names_of_keys image.topics keys

  silent : (name : List ℕ) (id : ℕ) → topic_name image.topics id ≡ Some name → has_name image.topics names name ≡ false → (es : List Entry) → Least es → Formed es → changes_of change (map (walked name) (of_topic id es)) ≡ []
  silent name id named none [] l f = refl
  silent name id named none (e ∷ es) l f =
      let rest = silent name id named none es l.1 f.1 in
      elim (e.0.0 == id) as (λ b. (e.0.0 == id) ≡ b → changes_of change (map (walked name) (cond b (e ∷ of_topic id es) (of_topic id es))) ≡ []) [
        | true ↦ λ is. elim (test e.1) as (λ c. test e.1 ≡ c → cons_option (change_of change (walked name e)) (changes_of change (map (walked name) (of_topic id es))) ≡ []) [
          | true ↦ λ there.
              let own : topic_name image.topics e.0.0 ≡ Some name = subst (λ (i : ℕ). topic_name image.topics i ≡ Some name) (sym (same_topic e.0.0 id is)) named in
              let apart : false ≡ true = sym none ∙ listed_named image.topics keys [] e.0 name (l.0 there) own in absurd cc
          | false ↦ λ absent. no_change e name (changes_of change (map (walked name) (of_topic id es))) f.0 absent ∙ rest
        ] refl
        | false ↦ λ is. rest
      ] refl

  covered_names : (ts : List Named) → AllByRecursion (λ (t : Named). topic_name image.topics t.1 ≡ Some t.0) ts → AllByRecursion (IsCovered text_total same_text of_name (keys_of names)) ts
  covered_names [] a = tt
  covered_names (t ∷ ts) a = ((λ none. silent t.0 t.1 a.0 none ps least_all formed_all), covered_names ts a.1)

  pub listed_changes : records_of_names change image keys names ≡ changes_of change (walk image)
  unfolding IsStrictlySortedBy
  listed_changes =
      let topics = image.topics in
      walked_names names (names_all topics (λ (t : Named). get text_order topics t.0 ≡ Some t.1) (own_entries text_total topics valid.topics.ordered) keys [] tt)
      ∙ (superset text_total same_text of_name (keys_of names) (names_ordered topics keys [] tt) topics valid.topics.ordered (covered_names topics (own_names topics valid.topics.distinct))
      ∙ walked_topics topics)

-- ---- where nothing is listed

pub nothing_changes : (change : Walked → Option PartitionChange) (image : Image) (test : Partition → Bool) (records : List Record) → IsValid image → AreAtLeast [] test image.partitions → ConcernsOnly test change → records ≡ records ++ changes_of change (walk image)
unfolding IsStrictlySortedBy
nothing_changes change image test records valid least concerns =
    sym (append-nil records) ∙ ap (λ rs. records ++ rs) (listed_changes change image test [] valid tt least concerns)

-- ---- of a broker that is taken out

none_within : (ids replicas : List ℤ) (broker : ℤ) → is_within ids replicas ≡ true → has replicas broker ≡ false → has ids broker ≡ false
none_within ids replicas broker within absent =
    elim (has ids broker) as (λ b. has ids broker ≡ b → b ≡ false) [
      | true ↦ λ there. let apart : false ≡ true = sym absent ∙ all_at (has replicas) ids broker within there in absurd cc
      | false ↦ λ _. refl
    ] refl

pub taking_concerns : (minimum : ℤ) (image : Image) (broker : ℤ) (restarted : Bool) → ConcernsOnly (has_replica broker) (taking_out minimum image broker restarted)
taking_concerns minimum image broker restarted w formed absent =
    let parts = formed_parts w.partition formed in
    let synced = none_within w.partition.in_sync w.partition.replicas broker parts.inside absent in
    let eligible = none_within w.partition.eligible w.partition.replicas broker (both (is_distinct w.partition.eligible) (is_within w.partition.eligible w.partition.replicas) parts.stand.eligible_part).1 absent in
    elim restarted as (λ r. taking_out minimum image broker r w ≡ None) [
      | true ↦ rw (synced, eligible) refl
      | false ↦ rw synced refl
    ]
