-- The records of a valid image make it, part by part.
use Rattle.std.proofs.Common.{◌≡◌, ◌∙◌, ℕ, ◌+◌, ◌≤◌, Bool, true, false, cond, List, [], ◌∷◌, ◌++◌, length, refl, sym, ap, subst, inl, inr, append_assoc, arith, ℤ}
use Rattle.std.specs.Prelude.{Option, Some, None, Result, Ok, Err, IsTrue, not, ◌&&◌, ◌||◌, is_some, filter, find, map, nat_le, nat_lt, ◌==◌, int_lt, pos, negsuc}
use Rattle.std.specs.Option.{option_map, option_map_or}
use Rattle.std.specs.Ordering.{int_cmp, int_eq}
use Rattle.std.specs.declared.cmp.Ordering.TheVariants.{Less, Equal, Greater}
use Rattle.std.specs.List.{AllByRecursion, list_any, flat_map}
use Rattle.std.specs.List.Sorted.{IsStrictlySortedBy}
use Rattle.std.specs.Map.{keys_of, values_of}
use Rattle.std.proofs.Math.Bool.{or-false, or-true}
use Rattle.std.proofs.lemmas.Bool.{cases_Bool, or_from}
use Rattle.std.proofs.lemmas.Bool.Decides.{nat_tests}
use Rattle.std.proofs.lemmas.Cmp.{int_cmp_total}
use Rattle.std.proofs.lemmas.List.{append-nil, length-append}
use Rattle.std.proofs.lemmas.List.Elements.{recursion_from_All}
use Rattle.std.proofs.lemmas.List.Sums.{sum_by-append, sum_by-cons}
use Rattle.kr_defs.specs.declared.broker.Broker.{Broker}
use Rattle.kr_defs.specs.declared.partition.Partition.{Partition}
use Rattle.kr_defs.specs.declared.record.ConfigKey.{ConfigKey}
use Rattle.kr_defs.specs.declared.record.Record.{Record}
use Rattle.kr_defs.specs.declared.record.Record.TheVariants as kinds
use Rattle.kr_defs.specs.declared.record.Item.TheVariants as items
use Rattle.kr_defs.specs.declared.ill.Ill.{Ill}
use Rattle.kr_defs.specs.declared.limits.TheConstants.{MOST_BROKERS, MOST_TOPICS, MOST_PARTITIONS, MOST_CONFIG_TEXT, MOST_FEATURES, LONGEST_FEATURE}
use Rattle.kr_defs.specs.Map as entries
use Rattle.kr_defs.specs.Map.{IsMap, text_order, partition_order, config_order}
use Rattle.kr_defs.specs.Guard.{and_then}
use Rattle.kr_defs.specs.Image.{Image, IsValid, empty, has_topic, has_numbers, is_small_registration, is_index, config_text, are_distinct}
use Rattle.kr_defs.specs.Partition.{is_well_formed}
use Rattle.kr_defs.specs.Texts.{is_topic_name}
use Rattle.kr_defs.specs.Apply.{apply, apply_record}
use Rattle.kr_defs.specs.Log.{apply_all}
use Rattle.kr_defs.specs.Records.{partition_record, topic_records, records_of}
use Rattle.kr_defs.specs.Walk.{walked, of_topic}
use Rattle.kr_defs.specs.ImageLaws.{as_items, OwnRecordsMakeImages}
use Rattle.kr_defs.proofs.Maps.{all_keys-filter, length-filter_le}
use Rattle.kr_defs.proofs.ImageParts.{text_total, partition_total, config_total}
use Rattle.kr_defs.proofs.OrderedInserts.{IsBelow, IsBefore, before_push, before_none, has_room, not_full, insert-between, get-between, insert-last, get-last}
use Rattle.kr_defs.proofs.Tests.{both, neither, not_true, not_equal}
use Rattle.kr_defs.proofs.TopicWalks.{same_topic, equal_ids}
use Rattle.kr_defs.proofs.Walks.{behind_apart}

-- ---- one record after the other

abbrev after : Image → List Record → Result Image Ill
after image records = apply_all image (as_items records)

after-append : (image : Image) (xs ys : List Record) → after image (xs ++ ys) ≡ and_then (after image xs) (λ i. after i ys)
after-append image [] ys = refl
after-append image (x ∷ xs) ys =
    elim (apply image (items.Record x)) as (λ r. and_then r (λ i. after i (xs ++ ys)) ≡ and_then (and_then r (λ i. after i xs)) (λ i. after i ys)) [
      | Ok next ↦ after-append next xs ys
      | Err cause ↦ refl
    ]

after_first : (image next : Image) (xs ys : List Record) → after image xs ≡ Ok next → after image (xs ++ ys) ≡ after next ys
after_first image next xs ys is = after-append image xs ys ∙ ap (λ r. and_then r (λ i. after i ys)) is

after_one : (image next : Image) (r : Record) (rs : List Record) → apply_record image r ≡ Ok next → after image (r ∷ rs) ≡ after next rs
unfolding apply
after_one image next r rs is = ap (λ x. and_then x (λ i. after i rs)) is

-- ---- tests that fail

passes : {X : Type 0} (test : Bool) (x y z : X) → test ≡ false → y ≡ z → cond test x y ≡ z
passes test x y z fails is = ap (λ b. cond b x y) fails ∙ is

not_negative : (n : ℤ) → int_lt (pos 0) n ≡ true → int_lt n (pos 0) ≡ false
not_negative (pos n) h = grind (arith, nat_tests)
not_negative (negsuc n) h = absurd cc

not_zero : (n : ℤ) → int_lt (pos 0) n ≡ true → int_eq n (pos 0) ≡ false
not_zero n h = behind_apart int_cmp_total (pos 0) n (ap (λ b. cond b Less (cond (int_lt n (pos 0)) Greater Equal)) h)

not_longer : (n most : ℕ) → nat_le n most ≡ true → nat_lt most n ≡ false
not_longer n most h = grind (arith, nat_tests)

not_above : (n most : ℕ) → n ≤ most → nat_lt most n ≡ false
not_above n most h = grind (arith, nat_tests)

-- what is left after one entry more
one_less : {X : Type 0} (xs : List X) (x : X) (ys : List X) (most : ℕ) → length xs + length (x ∷ ys) ≤ most → length (xs ++ x ∷ []) + length ys ≤ most
one_less xs x ys most few = let long = length-append xs (x ∷ []) in omega (arith, long)

-- ---- features

feature_added : (image : Image) (name : List ℕ) (level : ℤ) → IsBelow text_order image.features name → int_lt (pos 0) level ≡ true → nat_le (length name) LONGEST_FEATURE ≡ true → length image.features + 1 ≤ MOST_FEATURES → apply_record image (kinds.FeatureLevel name level) ≡ Ok (record image { features = image.features ++ (name, level) ∷ [] })
unfolding apply_record
feature_added image name level below some short room =
    passes _ _ _ _ (not_negative level some)
    (passes _ _ _ _ (or_from _ _ (not_longer (length name) LONGEST_FEATURE short) (ap (λ b. not (int_eq level (pos 0)) && b) (not_full text_order MOST_FEATURES image.features name room) ∙ rw (not_zero level some) refl))
    (passes _ _ _ _ (not_zero level some)
    (ap (λ fs. Ok (record image { features = fs })) (insert-last text_total image.features name level below))))

features_added : (image : Image) (xs ys : List (List ℕ × ℤ)) → IsBefore text_order xs ys → IsMap text_order ys → length xs + length ys ≤ MOST_FEATURES → AllByRecursion (λ e. IsTrue (int_lt (pos 0) e.1)) ys → AllByRecursion (λ e. IsTrue (nat_le (length e.0) LONGEST_FEATURE)) ys → after (record image { features = xs }) (map (λ e. kinds.FeatureLevel e.0 e.1) ys) ≡ Ok (record image { features = xs ++ ys })
unfolding IsStrictlySortedBy
features_added image xs [] before ordered few levels short = ap (λ fs. Ok (record image { features = fs })) (sym (append-nil xs))
features_added image xs (y ∷ ys) before ordered few levels short =
    after_one _ _ _ _ (feature_added (record image { features = xs }) y.0 y.1 before.0 levels.0 short.0 (omega arith))
    ∙ (features_added image (xs ++ y ∷ []) ys (before_push text_order xs y ys before.1 ordered.0) ordered.1 (one_less xs y ys MOST_FEATURES few) levels.1 short.1
    ∙ ap (λ fs. Ok (record image { features = fs })) (append_assoc xs (y ∷ []) ys))

-- ---- brokers

broker_added : (image : Image) (id : ℤ) (state : Broker) → IsBelow int_cmp image.brokers id → has_numbers id state ≡ true → is_small_registration state ≡ true → length image.brokers + 1 ≤ MOST_BROKERS → apply_record image (kinds.RegisterBroker id state) ≡ Ok (record image { brokers = image.brokers ++ (id, state) ∷ [] })
unfolding apply_record
broker_added image id state below numbers small room =
    passes _ _ _ _ (ap not numbers)
    (passes _ _ _ _ (ap (λ (o : Option Broker). option_map_or (λ old. int_lt state.epoch old.epoch) o false) (get-last int_cmp_total image.brokers id below))
    (passes _ _ _ _ (or_from _ _ (not_full int_cmp MOST_BROKERS image.brokers id room) (ap not small))
    (ap (λ bs. Ok (record image { brokers = bs })) (insert-last int_cmp_total image.brokers id state below))))

brokers_added : (image : Image) (xs ys : List (ℤ × Broker)) → IsBefore int_cmp xs ys → IsMap int_cmp ys → length xs + length ys ≤ MOST_BROKERS → AllByRecursion (λ e. IsTrue (has_numbers e.0 e.1)) ys → AllByRecursion (λ e. IsTrue (is_small_registration e.1)) ys → after (record image { brokers = xs }) (map (λ e. kinds.RegisterBroker e.0 e.1) ys) ≡ Ok (record image { brokers = xs ++ ys })
unfolding IsStrictlySortedBy
brokers_added image xs [] before ordered few numbers small = ap (λ bs. Ok (record image { brokers = bs })) (sym (append-nil xs))
brokers_added image xs (y ∷ ys) before ordered few numbers small =
    after_one _ _ _ _ (broker_added (record image { brokers = xs }) y.0 y.1 before.0 numbers.0 small.0 (omega arith))
    ∙ (brokers_added image (xs ++ y ∷ []) ys (before_push int_cmp xs y ys before.1 ordered.0) ordered.1 (one_less xs y ys MOST_BROKERS few) numbers.1 small.1
    ∙ ap (λ bs. Ok (record image { brokers = bs })) (append_assoc xs (y ∷ []) ys))

-- ---- settings

abbrev text_of : ConfigKey × List ℕ → ℕ
text_of e = length e.0.name + length e.0.key + length e.1

config_added : (image : Image) (key : ConfigKey) (value : List ℕ) → IsBelow config_order image.configs key → config_text (image.configs ++ (key, value) ∷ []) ≤ MOST_CONFIG_TEXT → apply_record image (kinds.Config key.kind key.name key.key (Some value)) ≡ Ok (record image { configs = image.configs ++ (key, value) ∷ [] })
unfolding apply_record
config_added image key value below little =
    let last = insert-last config_total image.configs key value below in
    passes _ _ _ _ (ap (λ cs. nat_lt MOST_CONFIG_TEXT (config_text cs)) last ∙ not_above (config_text (image.configs ++ (key, value) ∷ [])) MOST_CONFIG_TEXT little)
    (ap (λ cs. Ok (record image { configs = cs })) last)

configs_added : (image : Image) (xs ys : List (ConfigKey × List ℕ)) → IsBefore config_order xs ys → IsMap config_order ys → config_text xs + config_text ys ≤ MOST_CONFIG_TEXT → after (record image { configs = xs }) (map (λ e. kinds.Config e.0.kind e.0.name e.0.key (Some e.1)) ys) ≡ Ok (record image { configs = xs ++ ys })
unfolding IsStrictlySortedBy
configs_added image xs [] before ordered little = ap (λ cs. Ok (record image { configs = cs })) (sym (append-nil xs))
configs_added image xs (y ∷ ys) before ordered little =
    let first = sum_by-append text_of xs (y ∷ []) in
    let own = sum_by-cons text_of y [] in
    let all = sum_by-cons text_of y ys in
    after_one _ _ _ _ (config_added (record image { configs = xs }) y.0 y.1 before.0 (omega (arith, first, own, all)))
    ∙ (configs_added image (xs ++ y ∷ []) ys (before_push config_order xs y ys before.1 ordered.0) ordered.1 (omega (arith, first, own, all))
    ∙ ap (λ cs. Ok (record image { configs = cs })) (append_assoc xs (y ∷ []) ys))

-- ---- partitions of one topic

abbrev Entry : Type 0
Entry = (ℕ × ℤ) × Partition

-- the records of a topic's partitions
abbrev records_in : List ℕ → ℕ → List Entry → List Record
records_in name topic ps = map partition_record (map (walked name) (of_topic topic ps))

-- of those that are chosen later, the topic's are added to those that were chosen before
record Adds (topic : ℕ) (before later : Entry → Bool) : Type 0 where
  new : (e : Entry) → (e.0.0 == topic) ≡ true → before e ≡ false
  own : (e : Entry) → (e.0.0 == topic) ≡ true → later e ≡ true
  others : (e : Entry) → (e.0.0 == topic) ≡ false → later e ≡ before e

partition_added : (image : Image) (xs ys : List Entry) (e : Entry) → image.partitions ≡ xs ++ ys → IsBelow partition_order xs e.0 → AllByRecursion (λ z. partition_order e.0 z ≡ Less) (keys_of ys) → has_topic image.topics e.0.0 ≡ true → is_index e.0.1 ≡ true → is_well_formed e.1 ≡ true → length (xs ++ ys) + 1 ≤ MOST_PARTITIONS → apply_record image (kinds.Partition e.0.1 e.0.0 e.1) ≡ Ok (record image { partitions = xs ++ e ∷ ys })
unfolding apply_record
partition_added image xs ys e are below lt owned index formed room =
    passes _ _ _ _ (ap not owned)
    (passes _ _ _ _ (ap not index)
    (passes _ _ _ _ (ap (λ ps. is_some (entries.get partition_order ps e.0)) are ∙ ap is_some (get-between partition_total xs ys e.0 below lt))
    (passes _ _ _ _ (ap not formed)
    (passes _ _ _ _ (ap (λ ps. nat_le MOST_PARTITIONS (length ps)) are ∙ has_room MOST_PARTITIONS (length (xs ++ ys)) room)
    (ap (λ ps. Ok (record image { partitions = entries.insert partition_order ps e.0 e.1 })) are ∙ ap (λ ps. Ok (record image { partitions = ps })) (insert-between partition_total xs ys e.0 e.1 below lt))))))

module _ (image : Image) (name : List ℕ) (topic : ℕ) (before later : Entry → Bool) (there : has_topic image.topics topic ≡ true) (adds : Adds topic before later) where
  abbrev with : List Entry → Image
  with ps = record image { partitions = ps }

  partitions_added : (xs ys : List Entry) → IsBefore partition_order xs ys → IsMap partition_order ys → length xs + length ys ≤ MOST_PARTITIONS → AllByRecursion (λ e. IsTrue (is_index e.0.1)) ys → AllByRecursion (λ e. IsTrue (is_well_formed e.1)) ys → after (with (xs ++ filter before ys)) (records_in name topic ys) ≡ Ok (with (xs ++ filter later ys))
  unfolding IsStrictlySortedBy
  partitions_added xs [] behind ordered few indexes formed = refl
  partitions_added xs (y ∷ ys) behind ordered few indexes formed =
      let fewer = length-filter_le before ys in
      let long = length-append xs (filter before ys) in
      let pushed = before_push partition_order xs y ys behind.1 ordered.0 in
      let less = one_less xs y ys MOST_PARTITIONS few in
      elim (cases_Bool (y.0.0 == topic)) [
        | inl is ↦
            let owned : has_topic image.topics y.0.0 ≡ true = subst (λ (id : ℕ). has_topic image.topics id ≡ true) (sym (same_topic y.0.0 topic is)) there in
            rw (is, adds.new y is, adds.own y is)
            (after_one _ _ _ _ (partition_added (with (xs ++ filter before ys)) xs (filter before ys) y refl behind.0 (all_keys-filter (λ z. partition_order y.0 z ≡ Less) before ys ordered.0) owned indexes.0 formed.0 (omega (arith, fewer, long)))
            ∙ (ap (λ ps. after (with ps) (records_in name topic ys)) (sym (append_assoc xs (y ∷ []) (filter before ys)))
            ∙ (partitions_added (xs ++ y ∷ []) ys pushed ordered.1 less indexes.1 formed.1
            ∙ ap (λ ps. Ok (with ps)) (append_assoc xs (y ∷ []) (filter later ys)))))
        | inr not ↦ rw (not, adds.others y not) (elim (before y) as (λ b. after (with (xs ++ cond b (y ∷ filter before ys) (filter before ys))) (records_in name topic ys) ≡ Ok (with (xs ++ cond b (y ∷ filter later ys) (filter later ys)))) [
          | true ↦ ap (λ ps. after (with ps) (records_in name topic ys)) (sym (append_assoc xs (y ∷ []) (filter before ys)))
              ∙ (partitions_added (xs ++ y ∷ []) ys pushed ordered.1 less indexes.1 formed.1
              ∙ ap (λ ps. Ok (with ps)) (append_assoc xs (y ∷ []) (filter later ys)))
          | false ↦ partitions_added xs ys behind.1 ordered.1 (omega arith) indexes.1 formed.1
        ])
      ]

-- ---- topics, each with its partitions

-- the partitions whose topic is there
abbrev owned_by : List (List ℕ × ℕ) → Entry → Bool
owned_by topics e = has_topic topics e.0.0

none_owned : (ps : List Entry) → filter (owned_by []) ps ≡ []
none_owned [] = refl
none_owned (p ∷ ps) = none_owned ps

all_owned : (topics : List (List ℕ × ℕ)) (ps : List Entry) → AllByRecursion (λ e. IsTrue (has_topic topics e.0.0)) ps → filter (owned_by topics) ps ≡ ps
all_owned topics [] owned = refl
all_owned topics (p ∷ ps) owned = rw owned.0 (ap (λ qs. p ∷ qs) (all_owned topics ps owned.1))

has_topic-push : (topics : List (List ℕ × ℕ)) (t : List ℕ × ℕ) (id : ℕ) → has_topic (topics ++ t ∷ []) id ≡ (has_topic topics id || (t.1 == id))
has_topic-push [] t id = elim (t.1 == id) as (λ b. is_some (option_map (λ e. e.0) (cond b (Some t) None)) ≡ b) [ true ↦ refl | false ↦ refl ]
has_topic-push (d ∷ topics) t id =
    elim (d.1 == id) as (λ b. is_some (option_map (λ e. e.0) (cond b (Some d) (find (λ e. e.1 == id) (topics ++ t ∷ [])))) ≡ (is_some (option_map (λ e. e.0) (cond b (Some d) (find (λ e. e.1 == id) topics))) || (t.1 == id))) [
      | true ↦ refl
      | false ↦ has_topic-push topics t id
    ]

equal_back : (x y : ℕ) → (x == y) ≡ true → (y == x) ≡ true
equal_back x y h = grind (arith, nat_tests)

-- the ids of the front aren't in the back
abbrev IsNew : List (List ℕ × ℕ) → List (List ℕ × ℕ) → Type 0
IsNew front back = AllByRecursion (λ (t : List ℕ × ℕ). has_topic front t.1 ≡ false) back

none_new : (back : List (List ℕ × ℕ)) → IsNew [] back
none_new [] = tt
none_new (t ∷ back) = (refl, none_new back)

new_push : (front : List (List ℕ × ℕ)) (t : List ℕ × ℕ) (back : List (List ℕ × ℕ)) → IsNew front back → list_any (λ other. other == t.1) (values_of back) ≡ false → IsNew (front ++ t ∷ []) back
new_push front t [] new absent = tt
new_push front t (u ∷ back) new absent =
    let apart = neither (u.1 == t.1) (list_any (λ other. other == t.1) (values_of back)) absent in
    (has_topic-push front t u.1 ∙ or_from (has_topic front u.1) (t.1 == u.1) new.0 (not_equal u.1 t.1 apart.0), new_push front t back new.1 apart.1)

adds_own : (front : List (List ℕ × ℕ)) (t : List ℕ × ℕ) → has_topic front t.1 ≡ false → Adds t.1 (owned_by front) (owned_by (front ++ t ∷ []))
adds_own front t new = record {
  new = λ e is. subst (λ (id : ℕ). has_topic front id ≡ false) (sym (same_topic e.0.0 t.1 is)) new;
  own = λ e is. has_topic-push front t e.0.0 ∙ (ap (λ b. has_topic front e.0.0 || b) (equal_back e.0.0 t.1 is) ∙ or-true (has_topic front e.0.0));
  others = λ e not. has_topic-push front t e.0.0 ∙ (ap (λ b. has_topic front e.0.0 || b) (not_equal e.0.0 t.1 not) ∙ or-false (has_topic front e.0.0));
}

topic_added : (image : Image) (name : List ℕ) (id : ℕ) → IsBelow text_order image.topics name → is_topic_name name ≡ true → has_topic image.topics id ≡ false → not (id == 0) ≡ true → length image.topics + 1 ≤ MOST_TOPICS → apply_record image (kinds.Topic name id) ≡ Ok (record image { topics = image.topics ++ (name, id) ∷ [] })
unfolding apply_record
topic_added image name id below named new some room =
    passes _ _ _ _ (ap not named)
    (passes _ _ _ _ (or_from _ _ (or_from _ _ (ap is_some (get-last text_total image.topics name below)) new) (not_true (id == 0) some))
    (passes _ _ _ _ (has_room MOST_TOPICS (length image.topics) room)
    (ap (λ ts. Ok (record image { topics = ts })) (insert-last text_total image.topics name id below))))

module _ (image : Image) (ps : List Entry) (ordered_ps : IsMap partition_order ps) (few_ps : length ps ≤ MOST_PARTITIONS) (indexes : AllByRecursion (λ e. IsTrue (is_index e.0.1)) ps) (formed : AllByRecursion (λ e. IsTrue (is_well_formed e.1)) ps) where
  -- the image with these topics and their partitions
  abbrev holding : List (List ℕ × ℕ) → Image
  holding topics = record image { topics = topics; partitions = filter (owned_by topics) ps }

  topics_added : (xs ys : List (List ℕ × ℕ)) → IsBefore text_order xs ys → IsMap text_order ys → length xs + length ys ≤ MOST_TOPICS → IsNew xs ys → are_distinct (values_of ys) ≡ true → AllByRecursion (λ e. IsTrue (is_topic_name e.0)) ys → AllByRecursion (λ e. IsTrue (not (e.1 == 0))) ys → after (holding xs) (flat_map (topic_records ps) ys) ≡ Ok (holding (xs ++ ys))
  unfolding IsStrictlySortedBy
  topics_added xs [] before ordered few new distinct names ids = ap (λ ts. Ok (holding ts)) (sym (append-nil xs))
  topics_added xs (y ∷ ys) before ordered few new distinct names ids =
      let apart = both (not (list_any (λ other. other == y.1) (values_of ys))) (are_distinct (values_of ys)) distinct in
      let there : has_topic (xs ++ y ∷ []) y.1 ≡ true = has_topic-push xs y y.1 ∙ (ap (λ b. has_topic xs y.1 || b) (equal_ids y.1 y.1 refl) ∙ or-true (has_topic xs y.1)) in
      let named = record (holding xs) { topics = xs ++ y ∷ [] } in
      let parts = records_in y.0 y.1 ps in
      after_one (holding xs) named _ (parts ++ flat_map (topic_records ps) ys) (topic_added (holding xs) y.0 y.1 before.0 names.0 new.0 ids.0 (omega arith))
      ∙ (after_first named (holding (xs ++ y ∷ [])) parts (flat_map (topic_records ps) ys) (partitions_added named y.0 y.1 (owned_by xs) (owned_by (xs ++ y ∷ [])) there (adds_own xs y new.0) [] ps (before_none partition_order ps) ordered_ps (omega arith) indexes formed)
      ∙ (topics_added (xs ++ y ∷ []) ys (before_push text_order xs y ys before.1 ordered.0) ordered.1 (one_less xs y ys MOST_TOPICS few) (new_push xs y ys new.1 (not_true (list_any (λ other. other == y.1) (values_of ys)) apart.0)) apart.1 names.1 ids.1
      ∙ ap (λ ts. Ok (holding ts)) (append_assoc xs (y ∷ []) ys)))

-- ---- all parts

module _ (image : Image) (v : IsValid image) where
  abbrev with_features : Image
  with_features = record empty { features = image.features }

  abbrev with_brokers : Image
  with_brokers = record with_features { brokers = image.brokers }

  abbrev with_topics : Image
  with_topics = record with_brokers { topics = image.topics; partitions = image.partitions }

  of_features : after empty (map (λ e. kinds.FeatureLevel e.0 e.1) image.features) ≡ Ok with_features
  of_features =
      let are = v.features in
      let few = are.few in
      features_added empty [] image.features (before_none text_order image.features) are.ordered (omega (arith, few)) (recursion_from_All (λ e. IsTrue (int_lt (pos 0) e.1)) image.features are.levels) (recursion_from_All (λ e. IsTrue (nat_le (length e.0) LONGEST_FEATURE)) image.features are.short)

  of_brokers : after with_features (map (λ e. kinds.RegisterBroker e.0 e.1) image.brokers) ≡ Ok with_brokers
  of_brokers =
      let are = v.brokers in
      let few = are.few in
      brokers_added with_features [] image.brokers (before_none int_cmp image.brokers) are.ordered (omega (arith, few)) (recursion_from_All (λ e. IsTrue (has_numbers e.0 e.1)) image.brokers are.numbers) (recursion_from_All (λ e. IsTrue (is_small_registration e.1)) image.brokers are.small)

  of_topics : after with_brokers (flat_map (topic_records image.partitions) image.topics) ≡ Ok with_topics
  of_topics =
      let are = v.topics in
      let few = are.few in
      let ps = v.partitions in
      let none : filter (owned_by []) image.partitions ≡ [] = none_owned image.partitions in
      let all : filter (owned_by image.topics) image.partitions ≡ image.partitions = all_owned image.topics image.partitions (recursion_from_All (λ e. IsTrue (has_topic image.topics e.0.0)) image.partitions ps.owned) in
      ap (λ qs. after (record with_brokers { partitions = qs }) (flat_map (topic_records image.partitions) image.topics)) (sym none)
      ∙ (topics_added with_brokers image.partitions ps.ordered ps.few (recursion_from_All (λ e. IsTrue (is_index e.0.1)) image.partitions ps.indexes) (recursion_from_All (λ e. IsTrue (is_well_formed e.1)) image.partitions ps.well_formed)
      [] image.topics (before_none text_order image.topics) are.ordered (omega (arith, few)) (none_new image.topics) are.distinct (recursion_from_All (λ e. IsTrue (is_topic_name e.0)) image.topics are.names) (recursion_from_All (λ e. IsTrue (not (e.1 == 0))) image.topics are.ids)
      ∙ ap (λ qs. Ok (record with_topics { partitions = qs })) all)

  of_configs : after with_topics (map (λ e. kinds.Config e.0.kind e.0.name e.0.key (Some e.1)) image.configs) ≡ Ok image
  of_configs =
      let are = v.configs in
      let little = are.little in
      configs_added with_topics [] image.configs (before_none config_order image.configs) are.ordered (omega (arith, little))

pub own_records : OwnRecordsMakeImages
unfolding records_of
own_records image v =
    let features = map (λ e. kinds.FeatureLevel e.0 e.1) image.features in
    let brokers = map (λ e. kinds.RegisterBroker e.0 e.1) image.brokers in
    let topics = flat_map (topic_records image.partitions) image.topics in
    let configs = map (λ e. kinds.Config e.0.kind e.0.name e.0.key (Some e.1)) image.configs in
    let first = after_first empty (with_features image v) features brokers (of_features image v) ∙ of_brokers image v in
    let second = after_first empty (with_brokers image v) (features ++ brokers) topics first ∙ of_topics image v in
    after_first empty (with_topics image v) (features ++ brokers ++ topics) configs second ∙ of_configs image v
