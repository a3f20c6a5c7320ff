-- What is true of the five maps of an image stays true.
use Rattle.std.proofs.Common.{◌≡◌, ◌⊎◌, inl, inr, ⊎_elim, ℕ, suc, ◌+◌, ◌≤◌, Bool, true, false, cond, List, [], ◌∷◌, length, refl, sym, ap, subst, ◌∙◌, arith, ℤ}
use Rattle.std.specs.Prelude.{filter, Option, Some, None, IsTrue, not, ◌&&◌, ◌||◌, is_some, option_map, find, nat_le, nat_lt, ◌==◌, int_lt, pos}
use Rattle.std.specs.declared.cmp.Ordering.{Ordering}
use Rattle.std.specs.declared.cmp.Ordering.TheVariants.{Less, Equal, Greater}
use Rattle.std.specs.Ordering.{is_eq, match_ordering, int_cmp, nat_cmp}
use Rattle.std.specs.Cmp.{IsTotalOrder}
use Rattle.std.specs.Cmp.Lexicographic.{nat_list_cmp_total}
use Rattle.std.proofs.lemmas.Cmp.{int_cmp_total, nat_cmp_total}
use Rattle.std.specs.List.{AllByRecursion, list_any}
use Rattle.std.specs.Map.{keys_of, values_of, lookup}
use Rattle.std.specs.BTreeMap.{insert_entry, is_at}
use Rattle.std.proofs.lemmas.List.Elements.{All-from_recursion, recursion_from_All, All-filter, All-weaker}
use Rattle.std.proofs.lemmas.Bool.{leb-false}
use Rattle.kr_defs.specs.declared.broker.Broker.{Broker}
use Rattle.kr_defs.specs.declared.partition.Partition.{Partition}
use Rattle.kr_defs.specs.declared.record.ConfigKey.{ConfigKey}
use Rattle.kr_defs.specs.declared.limits.TheConstants.{MOST_BROKERS, MOST_TOPICS, MOST_PARTITIONS, MOST_CONFIG_TEXT, MOST_FEATURES, LONGEST_FEATURE}
use Rattle.kr_defs.specs.Map as map
use Rattle.kr_defs.specs.Map.{text_order, partition_order, config_order}
use Rattle.kr_defs.specs.Image.{AreBrokers, AreTopics, ArePartitions, AreConfigs, AreFeatures, has_numbers, is_small_registration, is_index, has_topic, are_distinct, config_text}
use Rattle.kr_defs.specs.Partition.{is_natural, is_well_formed}
use Rattle.kr_defs.specs.Texts.{is_topic_name}
use Rattle.kr_defs.proofs.Maps.{IsMap-insert, IsMap-remove, IsMap-filter, All-insert, All-set, All-remove, length-insert, length-set, length-remove, length-filter_le, by_total, sum-filter_le, sum-remove_le}
use Rattle.kr_defs.proofs.Tests.{both, neither, not_true, or_right, or_swap, not_equal, not_both}

-- ---- the orders

pub text_total : IsTotalOrder text_order
text_total = nat_list_cmp_total

pub partition_total : IsTotalOrder partition_order
partition_total = by_total nat_cmp_total int_cmp_total (λ (p : ℕ × ℤ). p.0) (λ p. p.1)

names_total : IsTotalOrder (λ (x y : ConfigKey). Rattle.std.specs.Ordering.ordering_then (text_order x.name y.name) (text_order x.key y.key))
names_total = by_total text_total text_total (λ (k : ConfigKey). k.name) (λ k. k.key)

pub config_total : IsTotalOrder config_order
config_total = by_total int_cmp_total names_total (λ (k : ConfigKey). k.kind) (λ k. k)

-- ---- a map that isn't full

-- the value that is there, or none
known : {V : Type 0} (o : Option V) → ((v : V) × (o ≡ Some v)) ⊎ (o ≡ None)
known None = inr refl
known (Some v) = inl (v, refl)

room : {K V : Type 0} {R : K → K → Ordering} → IsTotalOrder R → (most : ℕ) (es : List (K × V)) (k : K) (v : V) → map.IsMap R es → length es ≤ most → map.is_full R most es k ≡ false → length (map.insert R es k v) ≤ most
room {K} {V} {R} o most es k v ordered few unfull =
    let at : ((u : V) × (map.get R es k ≡ Some u)) ⊎ (map.get R es k ≡ None) = known (map.get R es k) in
    ⊎_elim (λ f. let same = length-set o es k f.0 v ordered f.1 in omega (arith, same, few))
    (λ none. let free : nat_le most (length es) ≡ false = subst (λ (b : Bool). (not b && nat_le most (length es)) ≡ false) (ap is_some none) unfull in
    let less = leb-false most (length es) free in
    let more = length-insert R es k v in
    omega (arith, less, more)) at

-- ---- brokers

pub brokers-insert : (bs : List (ℤ × Broker)) (id : ℤ) (state : Broker) → AreBrokers bs → has_numbers id state ≡ true → is_small_registration state ≡ true → map.is_full int_cmp MOST_BROKERS bs id ≡ false → AreBrokers (map.insert int_cmp bs id state)
brokers-insert bs id state are numbers small free = record {
  ordered = IsMap-insert int_cmp_total bs id state are.ordered;
  numbers = All-insert int_cmp (λ e. IsTrue (has_numbers e.0 e.1)) bs id state (λ j old h. let h' = both (is_natural j) (is_natural old.epoch) h in let s = both (is_natural id) (is_natural state.epoch) numbers in rw (h'.0, s.1) refl) numbers are.numbers;
  small = All-insert int_cmp (λ e. IsTrue (is_small_registration e.1)) bs id state (λ j old h. small) small are.small;
  few = room int_cmp_total MOST_BROKERS bs id state are.ordered are.few free;
}

-- the new value keeps the epoch and the text
pub brokers-set : (bs : List (ℤ × Broker)) (id : ℤ) (old state : Broker) → AreBrokers bs → map.get int_cmp bs id ≡ Some old → state.epoch ≡ old.epoch → is_small_registration state ≡ is_small_registration old → AreBrokers (map.insert int_cmp bs id state)
brokers-set bs id old state are found epoch small = record {
  ordered = IsMap-insert int_cmp_total bs id state are.ordered;
  numbers = All-set int_cmp_total (λ e. IsTrue (has_numbers e.0 e.1)) bs id old state are.ordered found (λ j h. ap (λ (n : ℤ). is_natural j && is_natural n) epoch ∙ h) are.numbers;
  small = All-set int_cmp_total (λ e. IsTrue (is_small_registration e.1)) bs id old state are.ordered found (λ j h. small ∙ h) are.small;
  few = let same = length-set int_cmp_total bs id old state are.ordered found in let few = are.few in omega (arith, same, few);
}

pub brokers-remove : (bs : List (ℤ × Broker)) (id : ℤ) → AreBrokers bs → AreBrokers (map.remove int_cmp bs id)
brokers-remove bs id are = record {
  ordered = IsMap-remove int_cmp_total bs id are.ordered;
  numbers = All-remove int_cmp (λ e. IsTrue (has_numbers e.0 e.1)) bs id are.numbers;
  small = All-remove int_cmp (λ e. IsTrue (is_small_registration e.1)) bs id are.small;
  few = let less = length-remove int_cmp bs id in let few = are.few in omega (arith, less, few);
}

-- ---- settings and features

pub configs-insert : (cs : List (ConfigKey × List ℕ)) (k : ConfigKey) (v : List ℕ) → AreConfigs cs → nat_lt MOST_CONFIG_TEXT (config_text (map.insert config_order cs k v)) ≡ false → AreConfigs (map.insert config_order cs k v)
configs-insert cs k v are little = record {
  ordered = IsMap-insert config_total cs k v are.ordered;
  little = let less = leb-false (suc MOST_CONFIG_TEXT) (config_text (map.insert config_order cs k v)) little in omega (arith, less);
}

pub configs-remove : (cs : List (ConfigKey × List ℕ)) (k : ConfigKey) → AreConfigs cs → AreConfigs (map.remove config_order cs k)
configs-remove cs k are = record {
  ordered = IsMap-remove config_total cs k are.ordered;
  little = let less = sum-remove_le (λ (e : ConfigKey × List ℕ). length e.0.name + length e.0.key + length e.1) config_order cs k in let little = are.little in omega (arith, less, little);
}

pub configs-filter : (test : ConfigKey × List ℕ → Bool) (cs : List (ConfigKey × List ℕ)) → AreConfigs cs → AreConfigs (filter test cs)
configs-filter test cs are = record {
  ordered = IsMap-filter config_order test cs are.ordered;
  little = let less = sum-filter_le (λ (e : ConfigKey × List ℕ). length e.0.name + length e.0.key + length e.1) test cs in let little = are.little in omega (arith, less, little);
}

pub features-insert : (fs : List (List ℕ × ℤ)) (name : List ℕ) (level : ℤ) → AreFeatures fs → int_lt (pos 0) level ≡ true → nat_le (length name) LONGEST_FEATURE ≡ true → map.is_full text_order MOST_FEATURES fs name ≡ false → AreFeatures (map.insert text_order fs name level)
features-insert fs name level are above short free = record {
  ordered = IsMap-insert text_total fs name level are.ordered;
  levels = All-insert text_order (λ e. IsTrue (int_lt (pos 0) e.1)) fs name level (λ j old h. above) above are.levels;
  short = All-insert text_order (λ e. IsTrue (nat_le (length e.0) LONGEST_FEATURE)) fs name level (λ j old h. h) short are.short;
  few = room text_total MOST_FEATURES fs name level are.ordered are.few free;
}

pub features-remove : (fs : List (List ℕ × ℤ)) (name : List ℕ) → AreFeatures fs → AreFeatures (map.remove text_order fs name)
features-remove fs name are = record {
  ordered = IsMap-remove text_total fs name are.ordered;
  levels = All-remove text_order (λ e. IsTrue (int_lt (pos 0) e.1)) fs name are.levels;
  short = All-remove text_order (λ e. IsTrue (nat_le (length e.0) LONGEST_FEATURE)) fs name are.short;
  few = let less = length-remove text_order fs name in let few = are.few in omega (arith, less, few);
}

-- ---- topics

pub has_topic_any : (ts : List (List ℕ × ℕ)) (id : ℕ) → has_topic ts id ≡ list_any (λ other. other == id) (values_of ts)
has_topic_any [] id = refl
has_topic_any (t ∷ ts) id =
    elim (t.1 == id) as (λ b. is_some (option_map (λ e. e.0) (cond b (Some t) (find (λ e. e.1 == id) ts))) ≡ (b || list_any (λ other. other == id) (values_of ts))) [
      | true ↦ refl
      | false ↦ has_topic_any ts id
    ]

module _ {K : Type 0} (R : K → K → Ordering) where
  any_insert : (p : ℕ → Bool) (es : List (K × ℕ)) (k : K) (v : ℕ) → map.get R es k ≡ None → list_any p (values_of (map.insert R es k v)) ≡ (p v || list_any p (values_of es))
  any_insert p [] k v none = refl
  any_insert p (e ∷ es) k v none =
      elim (R k e.0) as (λ r. cond (is_eq r) (Some e.1) (map.get R es k) ≡ None → list_any p (values_of (match_ordering r ((k, v) ∷ e ∷ es) ((e.0, v) ∷ es) (e ∷ insert_entry R es k v))) ≡ (p v || (p e.1 || list_any p (values_of es)))) [
        | Less ↦ λ none. refl
        | Equal ↦ λ none. absurd cc
        | Greater ↦ λ none. ap (λ b. p e.1 || b) (any_insert p es k v none) ∙ or_swap (p e.1) (p v) (list_any p (values_of es))
      ] none

  distinct_insert : (es : List (K × ℕ)) (k : K) (v : ℕ) → map.get R es k ≡ None → list_any (λ other. other == v) (values_of es) ≡ false → are_distinct (values_of es) ≡ true → are_distinct (values_of (map.insert R es k v)) ≡ true
  distinct_insert [] k v none absent distinct = refl
  distinct_insert (e ∷ es) k v none absent distinct =
      let d = both (not (list_any (λ other. other == e.1) (values_of es))) (are_distinct (values_of es)) distinct in
      let a = neither (e.1 == v) (list_any (λ other. other == v) (values_of es)) absent in
      elim (R k e.0) as (λ r. cond (is_eq r) (Some e.1) (map.get R es k) ≡ None → are_distinct (values_of (match_ordering r ((k, v) ∷ e ∷ es) ((e.0, v) ∷ es) (e ∷ insert_entry R es k v))) ≡ true) [
        | Less ↦ λ none. rw (absent, distinct) refl
        | Equal ↦ λ none. absurd cc
        | Greater ↦ λ none. rw (any_insert (λ other. other == e.1) es k v none, not_equal e.1 v a.0, d.0, distinct_insert es k v none a.1 d.1) refl
      ] none

any_filter : (id t : ℕ) (ts : List (List ℕ × ℕ)) → (t == id) ≡ false → list_any (λ other. other == t) (values_of (filter (λ e. not (e.1 == id)) ts)) ≡ list_any (λ other. other == t) (values_of ts)
any_filter id t [] other = refl
any_filter id t (e ∷ ts) other =
    elim (e.1 == id) as (λ b. (e.1 == id) ≡ b → list_any (λ other. other == t) (values_of (cond (not b) (e ∷ filter (λ e. not (e.1 == id)) ts) (filter (λ e. not (e.1 == id)) ts))) ≡ ((e.1 == t) || list_any (λ other. other == t) (values_of ts))) [
      | true ↦ λ is. rw (not_both e.1 id t is other) (any_filter id t ts other)
      | false ↦ λ is. ap (λ b. (e.1 == t) || b) (any_filter id t ts other)
    ] refl

pub none_left : (id : ℕ) (ts : List (List ℕ × ℕ)) → list_any (λ other. other == id) (values_of (filter (λ e. not (e.1 == id)) ts)) ≡ false
none_left id [] = refl
none_left id (e ∷ ts) =
    elim (e.1 == id) as (λ b. (e.1 == id) ≡ b → list_any (λ other. other == id) (values_of (cond (not b) (e ∷ filter (λ e. not (e.1 == id)) ts) (filter (λ e. not (e.1 == id)) ts))) ≡ false) [
      | true ↦ λ is. none_left id ts
      | false ↦ λ is. rw is (none_left id ts)
    ] refl

none_filter : {K : Type 0} (p : ℕ → Bool) (test : K × ℕ → Bool) (es : List (K × ℕ)) → list_any p (values_of es) ≡ false → list_any p (values_of (filter test es)) ≡ false
none_filter p test [] none = refl
none_filter p test (e ∷ es) none =
    let n = neither (p e.1) (list_any p (values_of es)) none in
    elim (test e) as (λ b. list_any p (values_of (cond b (e ∷ filter test es) (filter test es))) ≡ false) [
      | true ↦ rw (n.0, none_filter p test es n.1) refl
      | false ↦ none_filter p test es n.1
    ]

distinct_filter : {K : Type 0} (test : K × ℕ → Bool) (es : List (K × ℕ)) → are_distinct (values_of es) ≡ true → are_distinct (values_of (filter test es)) ≡ true
distinct_filter test [] distinct = refl
distinct_filter test (e ∷ es) distinct =
    let d = both (not (list_any (λ other. other == e.1) (values_of es))) (are_distinct (values_of es)) distinct in
    elim (test e) as (λ b. are_distinct (values_of (cond b (e ∷ filter test es) (filter test es))) ≡ true) [
      | true ↦ rw (none_filter (λ other. other == e.1) test es (not_true (list_any (λ other. other == e.1) (values_of es)) d.0), distinct_filter test es d.1) refl
      | false ↦ distinct_filter test es d.1
    ]

pub topics-insert : (ts : List (List ℕ × ℕ)) (name : List ℕ) (id : ℕ) → AreTopics ts → is_topic_name name ≡ true → map.get text_order ts name ≡ None → has_topic ts id ≡ false → (id == 0) ≡ false → nat_le MOST_TOPICS (length ts) ≡ false → AreTopics (map.insert text_order ts name id)
topics-insert ts name id are named none absent some free = record {
  ordered = IsMap-insert text_total ts name id are.ordered;
  names = All-insert text_order (λ e. IsTrue (is_topic_name e.0)) ts name id (λ j old h. h) named are.names;
  ids = All-insert text_order (λ e. IsTrue (not (e.1 == 0))) ts name id (λ j old h. ap not some) (ap not some) are.ids;
  distinct = distinct_insert text_order ts name id none (sym (has_topic_any ts id) ∙ absent) are.distinct;
  few = let less = leb-false MOST_TOPICS (length ts) free in let more = length-insert text_order ts name id in omega (arith, less, more);
}

pub topics-filter : (test : List ℕ × ℕ → Bool) (ts : List (List ℕ × ℕ)) → AreTopics ts → AreTopics (filter test ts)
topics-filter test ts are = record {
  ordered = IsMap-filter text_order test ts are.ordered;
  names = All-filter test (λ e. IsTrue (is_topic_name e.0)) ts are.names;
  ids = All-filter test (λ e. IsTrue (not (e.1 == 0))) ts are.ids;
  distinct = distinct_filter test ts are.distinct;
  few = let less = length-filter_le test ts in let few = are.few in omega (arith, less, few);
}

-- ---- partitions

pub partitions-insert : (ts : List (List ℕ × ℕ)) (ps : List ((ℕ × ℤ) × Partition)) (topic : ℕ) (index : ℤ) (state : Partition) → ArePartitions ts ps → has_topic ts topic ≡ true → is_index index ≡ true → is_well_formed state ≡ true → nat_le MOST_PARTITIONS (length ps) ≡ false → ArePartitions ts (map.insert partition_order ps (topic, index) state)
partitions-insert ts ps topic index state are owned index_fits formed free = record {
  ordered = IsMap-insert partition_total ps (topic, index) state are.ordered;
  owned = All-insert partition_order (λ e. IsTrue (has_topic ts e.0.0)) ps (topic, index) state (λ j old h. h) owned are.owned;
  indexes = All-insert partition_order (λ e. IsTrue (is_index e.0.1)) ps (topic, index) state (λ j old h. h) index_fits are.indexes;
  well_formed = All-insert partition_order (λ e. IsTrue (is_well_formed e.1)) ps (topic, index) state (λ j old h. formed) formed are.well_formed;
  few = let less = leb-false MOST_PARTITIONS (length ps) free in let more = length-insert partition_order ps (topic, index) state in omega (arith, less, more);
}

pub partitions-set : (ts : List (List ℕ × ℕ)) (ps : List ((ℕ × ℤ) × Partition)) (key : ℕ × ℤ) (old state : Partition) → ArePartitions ts ps → map.get partition_order ps key ≡ Some old → is_well_formed state ≡ true → ArePartitions ts (map.insert partition_order ps key state)
partitions-set ts ps key old state are found formed = record {
  ordered = IsMap-insert partition_total ps key state are.ordered;
  owned = All-set partition_total (λ e. IsTrue (has_topic ts e.0.0)) ps key old state are.ordered found (λ j h. h) are.owned;
  indexes = All-set partition_total (λ e. IsTrue (is_index e.0.1)) ps key old state are.ordered found (λ j h. h) are.indexes;
  well_formed = All-set partition_total (λ e. IsTrue (is_well_formed e.1)) ps key old state are.ordered found (λ j h. formed) are.well_formed;
  few = let same = length-set partition_total ps key old state are.ordered found in let few = are.few in omega (arith, same, few);
}

-- another topic comes
pub partitions-more : (ts : List (List ℕ × ℕ)) (ps : List ((ℕ × ℤ) × Partition)) (name : List ℕ) (id : ℕ) → ArePartitions ts ps → map.get text_order ts name ≡ None → ArePartitions (map.insert text_order ts name id) ps
partitions-more ts ps name id are none = record {
  ordered = are.ordered;
  owned = All-weaker (λ e. IsTrue (has_topic ts e.0.0)) (λ e. IsTrue (has_topic (map.insert text_order ts name id) e.0.0)) (λ e h. has_topic_any (map.insert text_order ts name id) e.0.0 ∙ (any_insert text_order (λ other. other == e.0.0) ts name id none ∙ or_right (id == e.0.0) (list_any (λ other. other == e.0.0) (values_of ts)) (sym (has_topic_any ts e.0.0) ∙ h))) ps are.owned;
  indexes = are.indexes;
  well_formed = are.well_formed;
  few = are.few;
}

owned_filter : (ts : List (List ℕ × ℕ)) (id : ℕ) (ps : List ((ℕ × ℤ) × Partition)) → AllByRecursion (λ e. IsTrue (has_topic ts e.0.0)) ps → AllByRecursion (λ e. IsTrue (has_topic (filter (λ t. not (t.1 == id)) ts) e.0.0)) (filter (λ e. not (e.0.0 == id)) ps)
owned_filter ts id [] a = tt
owned_filter ts id (e ∷ ps) a =
    elim (e.0.0 == id) as (λ b. (e.0.0 == id) ≡ b → AllByRecursion (λ e. IsTrue (has_topic (filter (λ t. not (t.1 == id)) ts) e.0.0)) (cond (not b) (e ∷ filter (λ e. not (e.0.0 == id)) ps) (filter (λ e. not (e.0.0 == id)) ps))) [
      | true ↦ λ is. owned_filter ts id ps a.1
      | false ↦ λ is. (has_topic_any (filter (λ t. not (t.1 == id)) ts) e.0.0 ∙ (any_filter id e.0.0 ts is ∙ (sym (has_topic_any ts e.0.0) ∙ a.0)), owned_filter ts id ps a.1)
    ] refl

-- a topic goes, with its partitions
pub partitions-filter : (ts : List (List ℕ × ℕ)) (ps : List ((ℕ × ℤ) × Partition)) (id : ℕ) → ArePartitions ts ps → ArePartitions (filter (λ t. not (t.1 == id)) ts) (filter (λ e. not (e.0.0 == id)) ps)
partitions-filter ts ps id are = record {
  ordered = IsMap-filter partition_order (λ e. not (e.0.0 == id)) ps are.ordered;
  owned = All-from_recursion (λ e. IsTrue (has_topic (filter (λ t. not (t.1 == id)) ts) e.0.0)) (filter (λ e. not (e.0.0 == id)) ps) (owned_filter ts id ps (recursion_from_All (λ e. IsTrue (has_topic ts e.0.0)) ps are.owned));
  indexes = All-filter (λ e. not (e.0.0 == id)) (λ e. IsTrue (is_index e.0.1)) ps are.indexes;
  well_formed = All-filter (λ e. not (e.0.0 == id)) (λ e. IsTrue (is_well_formed e.1)) ps are.well_formed;
  few = let less = length-filter_le (λ e. not (e.0.0 == id)) ps in let few = are.few in omega (arith, less, few);
}
