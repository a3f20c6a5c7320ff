-- The records of an image behind the key of one of them are those that stand behind it.
use Rattle.std.proofs.Common.{◌≡◌, ◌∙◌, ◌⊎◌, ℕ, ℤ, Bool, true, false, cond, ◌==◌, List, [], ◌∷◌, ◌++◌, drop, filter, inl, inr, map, take, refl, sym, ap, subst, append_assoc, append-nil, arith}
use Rattle.std.specs.Prelude.{Option, Some, None, flat_map}
use Rattle.std.specs.declared.cmp.Ordering.{Ordering}
use Rattle.std.specs.declared.cmp.Ordering.TheVariants.{Less, Equal, Greater}
use Rattle.std.specs.Cmp.{IsTotalOrder}
use Rattle.std.specs.List.{AllByRecursion}
use Rattle.std.specs.Option.{option_map_or}
use Rattle.std.specs.Ordering.{int_cmp, is_lt, nat_cmp, ordering_reverse}
use Rattle.std.proofs.lemmas.Bool.Decides.{nat_tests}
use Rattle.std.proofs.lemmas.List.{drop-map, take-append-drop, take-map}
use Rattle.std.proofs.lemmas.Cmp.{int_cmp_total, nat_cmp_total, on_total, then_total}
use Rattle.std.specs.Cmp.Lexicographic.{options_total}
use Rattle.kr_defs.specs.declared.broker.Broker.{Broker}
use Rattle.kr_defs.specs.declared.partition.Partition.{Partition}
use Rattle.kr_defs.specs.declared.record.ConfigKey.{ConfigKey}
use Rattle.kr_defs.specs.declared.record.Record.{Record}
use Rattle.kr_defs.specs.declared.record.Record.TheVariants as kinds
use Rattle.kr_defs.specs.Image.{Image, IsValid}
use Rattle.kr_defs.specs.ImageOrder.{Rank, ReadSoFar, are_in_order, is_later, nothing_seen, rank_of, rank_order, seen_with, topic_after}
use Rattle.kr_defs.specs.Records.{partition_record, records_of, topic_records}
use Rattle.kr_defs.specs.Walk.{Walked, of_topic, walk_topic, walked}
use Rattle.kr_defs.proofs.ImageParts.{text_total}
use Rattle.kr_defs.proofs.ReadingOrder.{own_order}
use Rattle.kr_view.specs.declared.record_key.RecordKey.{RecordKey}
use Rattle.kr_view.specs.declared.record_key.RecordKey.TheVariants as keys
use Rattle.kr_view.specs.RecordPages.{is_record_behind, keyed_broker, keyed_feature, keyed_partition, keyed_records, keyed_setting, keyed_topic, rank_of_key, record_key_order, record_page}
use Rattle.kr_shared.specs.KeysBehind.{key_behind, keys_behind, topic_name_in}

abbrev Keyed : Type 0
Keyed = RecordKey × Record

abbrev records : List Keyed → List Record
records ks = map (λ (k : Keyed). k.1) ks

-- ---- each record has its key behind the one before it, and the rank of that key

abbrev AreKeyed : Option RecordKey → Option (List ℕ × ℕ) → List Keyed → Type 0
AreKeyed last topic [] = Unit {0}
AreKeyed last topic (k ∷ ks) = (key_behind last k.1 ≡ Some k.0) × (rank_of topic k.1 ≡ Some (rank_of_key k.0)) × AreKeyed (Some k.0) (topic_after topic k.1) ks

-- whatever comes before them
abbrev KeyedBehindAny : List Keyed → Type 0
KeyedBehindAny ks = (last : Option RecordKey) (topic : Option (List ℕ × ℕ)) → AreKeyed last topic ks

features_keyed : (es : List (List ℕ × ℤ)) (rest : List Keyed) → KeyedBehindAny rest → KeyedBehindAny (map keyed_feature es ++ rest)
features_keyed [] rest next last topic = next last topic
features_keyed (e ∷ es) rest next last topic = (refl, refl, features_keyed es rest next (Some (keys.Feature e.0)) topic)

brokers_keyed : (es : List (ℤ × Broker)) (rest : List Keyed) → KeyedBehindAny rest → KeyedBehindAny (map keyed_broker es ++ rest)
brokers_keyed [] rest next last topic = next last topic
brokers_keyed (e ∷ es) rest next last topic = (refl, refl, brokers_keyed es rest next (Some (keys.Broker e.0)) topic)

settings_keyed : (es : List (ConfigKey × List ℕ)) → KeyedBehindAny (map keyed_setting es)
settings_keyed [] last topic = tt
settings_keyed (e ∷ es) last topic = (refl, refl, settings_keyed es (Some (keys.Setting e.0.kind e.0.name e.0.key)) topic)

module _ (name : List ℕ) (id : ℕ) (rest : List Keyed) (next : KeyedBehindAny rest) where
  own_rank : (e : (ℕ × ℤ) × Partition) → (e.0.0 == id) ≡ true → rank_of (Some (name, id)) (keyed_partition (walked name e)).1 ≡ Some (rank_of_key (keys.Partition name e.0.1))
  own_rank e own = let same : (id == e.0.0) ≡ true = grind (arith, nat_tests) in rw same refl

  partitions_keyed : (es : List ((ℕ × ℤ) × Partition)) (last : Option RecordKey) → topic_name_in last ≡ name → AreKeyed last (Some (name, id)) (map keyed_partition (map (walked name) (of_topic id es)) ++ rest)
  partitions_keyed [] last is = next last (Some (name, id))
  partitions_keyed (e ∷ es) last is =
      elim (e.0.0 == id) as (λ b. (e.0.0 == id) ≡ b → AreKeyed last (Some (name, id)) (map keyed_partition (map (walked name) (cond b (e ∷ of_topic id es) (of_topic id es))) ++ rest)) [
        | true ↦ λ own. (ap (λ (n : List ℕ). Some (keys.Partition n e.0.1)) is, own_rank e own, partitions_keyed es (Some (keys.Partition name e.0.1)) refl)
        | false ↦ λ other. partitions_keyed es last is
      ] refl

module _ (partitions : List ((ℕ × ℤ) × Partition)) (rest : List Keyed) (next : KeyedBehindAny rest) where
  topics_keyed : (ts : List (List ℕ × ℕ)) → KeyedBehindAny (flat_map (keyed_topic partitions) ts ++ rest)
  topics_keyed [] last topic = next last topic
  topics_keyed (t ∷ ts) last topic =
      let behind : List Keyed = flat_map (keyed_topic partitions) ts in
      let own = map keyed_partition (walk_topic partitions t) in (
        refl,
        refl,
        subst (AreKeyed (Some (keys.Topic t.0)) (Some (t.0, t.1))) (sym (append_assoc own behind rest))
            (partitions_keyed t.0 t.1 (behind ++ rest) (topics_keyed ts) partitions (Some (keys.Topic t.0)) refl),
      )

-- ---- they are the records of an image

module _ {A : Type 0} (f : A → Keyed) where
  mapped : (es : List A) (rest : List Keyed) → records (map f es ++ rest) ≡ map (λ (e : A). (f e).1) es ++ records rest
  mapped [] rest = refl
  mapped (e ∷ es) rest = ap (λ (l : List Record). (f e).1 ∷ l) (mapped es rest)

module _ (partitions : List ((ℕ × ℤ) × Partition)) where
  walked_records : (ws : List Walked) → map (λ (w : Walked). (keyed_partition w).1) ws ≡ map partition_record ws
  walked_records [] = refl
  walked_records (w ∷ ws) = ap (λ (l : List Record). partition_record w ∷ l) (walked_records ws)

  flat_records : (ts : List (List ℕ × ℕ)) (rest : List Keyed) → records (flat_map (keyed_topic partitions) ts ++ rest) ≡ flat_map (topic_records partitions) ts ++ records rest
  flat_records [] rest = refl
  flat_records (t ∷ ts) rest =
      let behind : List Keyed = flat_map (keyed_topic partitions) ts in
      let own = walk_topic partitions t in
      ap (λ (l : List Keyed). kinds.Topic t.0 t.1 ∷ records l) (append_assoc (map keyed_partition own) behind rest)
      ∙ ap (λ (l : List Record). kinds.Topic t.0 t.1 ∷ l) (mapped keyed_partition own (behind ++ rest)
      ∙ (λ i. walked_records own i ++ flat_records ts rest i)
      ∙ sym (append_assoc (map partition_record own) (flat_map (topic_records partitions) ts) (records rest)))

module _ (image : Image) where
  abbrev features : List Keyed
  features = map keyed_feature image.features

  abbrev brokers : List Keyed
  brokers = map keyed_broker image.brokers

  abbrev topics : List Keyed
  topics = flat_map (keyed_topic image.partitions) image.topics

  abbrev settings : List Keyed
  settings = map keyed_setting image.configs

  all_keyed : KeyedBehindAny (keyed_records image)
  unfolding keyed_records
  all_keyed last topic =
      subst (AreKeyed last topic) (sym (append_assoc (features ++ brokers) topics settings ∙ append_assoc features brokers (topics ++ settings)))
      (features_keyed image.features (brokers ++ (topics ++ settings))
      (brokers_keyed image.brokers (topics ++ settings) (topics_keyed image.partitions settings (settings_keyed image.configs) image.topics)) last topic)

  pub records_are : records (keyed_records image) ≡ records_of image
  unfolding keyed_records records_of
  records_are =
      let c : List Record = flat_map (topic_records image.partitions) image.topics in
      let a : List Record = map (λ (e : List ℕ × ℤ). kinds.FeatureLevel e.0 e.1) image.features in
      let b : List Record = map (λ (e : ℤ × Broker). kinds.RegisterBroker e.0 e.1) image.brokers in
      let d : List Record = map (λ (e : ConfigKey × List ℕ). kinds.Config e.0.kind e.0.name e.0.key (Some e.1)) image.configs in
      ap records (append_assoc (features ++ brokers) topics settings ∙ append_assoc features brokers (topics ++ settings))
      ∙ mapped keyed_feature image.features (brokers ++ (topics ++ settings))
      ∙ ap (λ (l : List Record). a ++ l) (mapped keyed_broker image.brokers (topics ++ settings)
      ∙ ap (λ (l : List Record). b ++ l) (flat_records image.partitions image.topics settings
      ∙ ap (λ (l : List Record). c ++ l) (ap records (sym (append-nil settings)) ∙ mapped keyed_setting image.configs [] ∙ append-nil d)))
      ∙ sym (append_assoc (a ++ b) c d ∙ append_assoc a b (c ++ d))

-- ---- the keys rise

rank_total : IsTotalOrder rank_order
rank_total =
    then_total (on_total (λ (r : Rank). r.section) nat_cmp_total)
    (then_total (on_total (λ (r : Rank). r.kind) int_cmp_total)
    (then_total (on_total (λ (r : Rank). r.name) text_total)
    (then_total (on_total (λ (r : Rank). r.key) text_total) (on_total (λ (r : Rank). r.number) (options_total int_cmp_total)))))

key_total : IsTotalOrder record_key_order
key_total = on_total rank_of_key rank_total

-- all of them stand behind the key
abbrev AllBehind : RecordKey → List Keyed → Type 0
AllBehind key ks = AllByRecursion (λ (k : Keyed). record_key_order key k.0 ≡ Less) ks

abbrev AreRising : List Keyed → Type 0
AreRising [] = Unit {0}
AreRising (k ∷ ks) = AllBehind k.0 ks × AreRising ks

further_behind : (key other : RecordKey) (ks : List Keyed) → record_key_order key other ≡ Less → AllBehind other ks → AllBehind key ks
further_behind key other [] lt all = tt
further_behind key other (k ∷ ks) lt all = (key_total.trans key other k.0 lt all.0, further_behind key other ks lt all.1)

is_less : (r : Ordering) → is_lt r ≡ true → r ≡ Less
is_less Less is = refl
is_less Equal is = absurd cc
is_less Greater is = absurd cc

first_true : (a b : Bool) → cond a b false ≡ true → (a ≡ true) × (b ≡ true)
first_true true b h = (refl, h)
first_true false b h = absurd cc

-- behind a record with a key those that are in order rise, and stand behind it
behind_one : (key : RecordKey) (seen : ReadSoFar) (ks : List Keyed) → seen.rank ≡ Some (rank_of_key key) → AreKeyed (Some key) seen.topic ks → are_in_order seen (records ks) ≡ true → AllBehind key ks × AreRising ks
behind_one key seen [] rank keyed ordered = (tt, tt)
behind_one key seen (k ∷ ks) rank keyed ordered =
    let both = first_true (is_later seen k.1) (are_in_order (seen_with seen k.1) (records ks)) ordered in
    let rest = behind_one k.0 (seen_with seen k.1) ks keyed.1 keyed.2 both.1 in
    let later : Option Rank → Option Rank → Bool = λ before own. option_map_or (λ (r : Rank). option_map_or (λ (b : Rank). is_lt (rank_order b r)) before true) own false in
    let less : record_key_order key k.0 ≡ Less = is_less (record_key_order key k.0) ((λ i. later (sym rank i) (sym keyed.1 i)) ∙ both.0) in
    ((less, further_behind key k.0 ks less rest.0), rest)

first_one : (ks : List Keyed) → AreKeyed None None ks → are_in_order nothing_seen (records ks) ≡ true → AreRising ks
first_one [] keyed ordered = tt
first_one (k ∷ ks) keyed ordered =
    let both = first_true (is_later nothing_seen k.1) (are_in_order (seen_with nothing_seen k.1) (records ks)) ordered in
    behind_one k.0 (seen_with nothing_seen k.1) ks keyed.1 keyed.2 both.1

pub all_rise : (image : Image) → IsValid image → AreRising (keyed_records image)
all_rise image valid =
    first_one (keyed_records image) (all_keyed image None None) (ap (are_in_order nothing_seen) (records_are image) ∙ own_order image valid)

-- ---- behind the key of the last one of a front stands the rest

-- the key of the last one
abbrev last_key : Option RecordKey → List Keyed → Option RecordKey
last_key last [] = last
last_key last (k ∷ ks) = last_key (Some k.0) ks

keys_are : (last : Option RecordKey) (topic : Option (List ℕ × ℕ)) (front rest : List Keyed) → AreKeyed last topic (front ++ rest) → keys_behind last (records front) ≡ last_key last front
keys_are last topic [] rest keyed = refl
keys_are last topic (k ∷ front) rest keyed =
    ap (λ (l : Option RecordKey). keys_behind l (records front)) keyed.0 ∙ keys_are (Some k.0) (topic_after topic k.1) front rest keyed.2

ordered_back : (r : Ordering) → ordering_reverse r ≡ Less → is_lt r ≡ false
ordered_back Less h = absurd cc
ordered_back Equal h = refl
ordered_back Greater h = refl

equal_itself : (r : Ordering) → r ≡ ordering_reverse r → is_lt r ≡ false
equal_itself Less h = absurd cc
equal_itself Equal h = refl
equal_itself Greater h = refl

-- the key doesn't stand behind itself, nor behind one that stands behind it
not_itself : (key : RecordKey) → is_lt (record_key_order key key) ≡ false
not_itself key = equal_itself (record_key_order key key) (key_total.antisymm key key)

not_back : (key other : RecordKey) → record_key_order other key ≡ Less → is_lt (record_key_order key other) ≡ false
not_back key other lt = ordered_back (record_key_order key other) (sym (key_total.antisymm other key) ∙ lt)

-- the last key of those behind a key isn't before it
last_not_before : (key : RecordKey) (ks rest : List Keyed) → AllBehind key (ks ++ rest) → (r : Record) → (last : RecordKey) → ((key ≡ last) ⊎ (record_key_order key last ≡ Less)) → is_record_behind (last_key (Some last) ks) (key, r) ≡ false
last_not_before key [] rest all r last (inl is) = ap (λ (l : RecordKey). is_lt (record_key_order l key)) (sym is) ∙ not_itself key
last_not_before key [] rest all r last (inr lt) = not_back last key lt
last_not_before key (k ∷ ks) rest all r last at = last_not_before key ks rest all.1 r k.0 (inr all.0)

passing : (key : RecordKey) (ks : List Keyed) → AllBehind key ks → AllByRecursion (λ (k : Keyed). is_record_behind (Some key) k ≡ true) ks
passing key [] all = tt
passing key (k ∷ ks) all = (ap is_lt all.0, passing key ks all.1)

-- all of them stand behind the last key, if there is one
abbrev BehindLast : Option RecordKey → List Keyed → Type 0
BehindLast last ks = AllByRecursion (λ (k : Keyed). is_record_behind last k ≡ true) ks

all_pass : {X : Type 0} (q : X → Bool) (xs : List X) → AllByRecursion (λ x. q x ≡ true) xs → filter q xs ≡ xs
all_pass q [] all = refl
all_pass {X} q (x ∷ xs) all = ap (λ b. cond b (x ∷ filter q xs) (filter q xs)) all.0 ∙ ap (λ (ys : List X). x ∷ ys) (all_pass q xs all.1)

rest_behind : (last : Option RecordKey) (front rest : List Keyed) → BehindLast last (front ++ rest) → AreRising (front ++ rest) → filter (is_record_behind (last_key last front)) (front ++ rest) ≡ rest
rest_behind last [] rest behind rising = all_pass (is_record_behind last) rest behind
rest_behind last (k ∷ front) rest behind rising =
    let p = is_record_behind (last_key (Some k.0) front) in
    let off : p k ≡ false = last_not_before k.0 front rest rising.0 k.1 k.0 (inl refl) in
    ap (λ b. cond b (k ∷ filter p (front ++ rest)) (filter p (front ++ rest))) off
    ∙ rest_behind (Some k.0) front rest (passing k.0 (front ++ rest) rising.0) rising.1

all_from_none : (ks : List Keyed) → BehindLast None ks
all_from_none [] = tt
all_from_none (k ∷ ks) = (refl, all_from_none ks)

-- the page behind the first so many records of a valid image goes on with those behind them
pub page_is : (image : Image) → IsValid image → (n most : ℕ) → record_page image (keys_behind None (take n (records_of image))) most ≡ take most (drop n (records_of image))
page_is image valid n most =
    let ks = keyed_records image in
    let front : List Keyed = take n ks in
    let rest : List Keyed = drop n ks in
    let whole : front ++ rest ≡ ks = take-append-drop n ks in
    let own : records ks ≡ records_of image = records_are image in
    let first : take n (records_of image) ≡ records front = ap (take n) (sym own) ∙ take-map (λ (k : Keyed). k.1) n ks in
    let left : records rest ≡ drop n (records_of image) = sym (drop-map (λ (k : Keyed). k.1) n ks) ∙ ap (drop n) own in
    let key : keys_behind None (take n (records_of image)) ≡ last_key None front =
    ap (keys_behind None) first ∙ keys_are None None front rest (subst (AreKeyed None None) (sym whole) (all_keyed image None None)) in
    let behind : filter (is_record_behind (last_key None front)) ks ≡ rest =
    ap (filter (is_record_behind (last_key None front))) (sym whole)
    ∙ rest_behind None front rest (all_from_none (front ++ rest)) (subst AreRising (sym whole) (all_rise image valid)) in
    ap (λ (k : Option RecordKey). take most (records (filter (is_record_behind k) ks))) key ∙ ap (λ (l : List Keyed). take most (records l)) behind ∙ ap (take most) left
