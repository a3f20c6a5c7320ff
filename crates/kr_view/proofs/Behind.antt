-- What stands behind a key of an image: in walking order, and in the order of its records.
use Rattle.std.proofs.Common.{◌≡◌, ◌∙◌, ℕ, ℤ, negsuc, Bool, true, false, cond, ◌&&◌, List, [], ◌∷◌, ◌++◌, filter, map, take, refl, sym, ap, append_assoc}
use Rattle.std.specs.Prelude.{Option, Some, None, flat_map, ◌==◌, IsTrue}
use Rattle.std.specs.declared.cmp.Ordering.{Ordering}
use Rattle.std.specs.declared.cmp.Ordering.TheVariants.{Less, Equal, Greater}
use Rattle.std.specs.List.{AllByRecursion}
use Rattle.std.specs.List.Sorted.{IsStrictlySortedBy}
use Rattle.std.specs.Map.{keys_of}
use Rattle.std.specs.Option.{option_cmp, option_map_or}
use Rattle.std.specs.Ordering.{int_cmp, is_eq, is_lt, nat_cmp, ordering_then}
use Rattle.std.proofs.lemmas.List.{map-append}
use Rattle.std.proofs.lemmas.List.Elements.{filter-append, recursion_from_All}
use Rattle.std.proofs.lemmas.Map.Lookups.{exact_bytes}
use Rattle.std.specs.Cmp.{nat_cmp_is}
use Rattle.kr_defs.specs.declared.partition.Partition.{Partition}
use Rattle.kr_defs.specs.declared.record.Record.{Record}
use Rattle.kr_defs.specs.declared.record.Record.TheVariants as kinds
use Rattle.kr_defs.specs.Image.{Image, IsValid, is_index}
use Rattle.kr_defs.specs.ImageOrder.{named, rank_order}
use Rattle.kr_defs.specs.Map.{IsMap, above, config_order, get, partition_order, text_order}
use Rattle.kr_defs.specs.Records.{partition_record}
use Rattle.kr_defs.specs.Walk.{of_topic, walk, walk_topic, walked}
use Rattle.kr_defs.proofs.ImageParts.{text_total}
use Rattle.kr_defs.proofs.Maps.{below_all}
use Rattle.kr_defs.proofs.TopicWalks.{group_begin, same_topic}
use Rattle.kr_image.proofs.EpochEnds.{filter_all}
use Rattle.kr_image.proofs.KeptLists.{filter_map_is, map_again}
use Rattle.kr_view.specs.declared.record_key.RecordKey.{RecordKey}
use Rattle.kr_view.specs.declared.record_key.RecordKey.TheVariants as keys
use Rattle.kr_view.specs.declared.scans.PageRow.{PageRow}
use Rattle.kr_view.specs.declared.scans.ScanKey.{ScanKey}
use Rattle.kr_view.specs.Listings.{listed, listed_behind, rest_of_topic}
use Rattle.kr_view.specs.RecordPages.{is_record_behind, keyed_broker, keyed_feature, keyed_partition, keyed_records, keyed_setting, keyed_topic, rank_of_key, record_page, setting_key}
use Rattle.kr_view.specs.PageRows.{rows_behind}
use Rattle.kr_view.specs.RecordSections as sections
use Rattle.kr_view.specs.RecordSections.{behind_key, behind_partition, from_brokers, from_features, from_settings, from_topics, record_of_broker, record_of_feature, record_of_setting, record_of_topic}
use Rattle.kr_view.specs.Scans.{is_row_behind, no_heads, page_of, page_row}

-- ---- filters

none_pass : {X : Type 0} (p : X → Bool) (xs : List X) → AllByRecursion (λ x. p x ≡ false) xs → filter p xs ≡ []
none_pass p [] off = refl
none_pass p (x ∷ xs) off = ap (λ b. cond b (x ∷ filter p xs) (filter p xs)) off.0 ∙ none_pass p xs off.1

all_mapped : {X Y : Type 0} (p : Y → Bool) (f : X → Y) (b : Bool) (xs : List X) → ((x : X) → p (f x) ≡ b) → AllByRecursion (λ y. p y ≡ b) (map f xs)
all_mapped p f b [] is = tt
all_mapped p f b (x ∷ xs) is = (is x, all_mapped p f b xs is)

filter_alike : {X : Type 0} (p q : X → Bool) (xs : List X) → ((x : X) → p x ≡ q x) → filter p xs ≡ filter q xs
filter_alike p q [] same = refl
filter_alike p q (x ∷ xs) same = (λ i. cond (same x i) (x ∷ filter_alike p q xs same i) (filter_alike p q xs same i))

map_flat : {X Y Z : Type 0} (g : Y → Z) (f : X → List Y) (xs : List X) → map g (flat_map f xs) ≡ flat_map (λ x. map g (f x)) xs
map_flat g f [] = refl
map_flat g f (x ∷ xs) = map-append g (f x) (flat_map f xs) ∙ ap (λ zs. map g (f x) ++ zs) (map_flat g f xs)

flat_alike : {X Y : Type 0} (f g : X → List Y) (xs : List X) → ((x : X) → f x ≡ g x) → flat_map f xs ≡ flat_map g xs
flat_alike f g [] same = refl
flat_alike f g (x ∷ xs) same = (λ i. same x i ++ flat_alike f g xs same i)

-- ---- topics, of which one is named

module _ {Y : Type 0} (p : Y → Bool) (f : List ℕ × ℕ → List Y) (t : List ℕ) (part : ℕ → List Y)
    (lower : (e : List ℕ × ℕ) → text_order t e.0 ≡ Greater → filter p (f e) ≡ [])
    (upper : (e : List ℕ × ℕ) → text_order t e.0 ≡ Less → filter p (f e) ≡ f e)
    (own : (e : List ℕ × ℕ) → text_order t e.0 ≡ Equal → filter p (f e) ≡ part e.1) where
  upper_all : (es : List (List ℕ × ℕ)) → AllByRecursion (λ z. text_order t z ≡ Less) (keys_of es) → filter p (flat_map f es) ≡ flat_map f es
  upper_all [] a = refl
  upper_all (e ∷ es) a = filter-append p (f e) (flat_map f es) ∙ (λ i. upper e a.0 i ++ upper_all es a.1 i)

  none_of_name : (es : List (List ℕ × ℕ)) → AllByRecursion (λ z. text_order t z ≡ Less) (keys_of es) → get text_order es t ≡ None
  none_of_name [] a = refl
  none_of_name (e ∷ es) a = ap (λ r. cond (is_eq r) (Some e.1) (get text_order es t)) a.0 ∙ none_of_name es a.1

  whole : (es : List (List ℕ × ℕ)) → AllByRecursion (λ z. text_order t z ≡ Less) (keys_of es) → above text_order es (Some t) ≡ es
  whole [] a = refl
  whole (e ∷ es) a = ap (λ r. cond (is_lt r && true) (e ∷ above text_order es (Some t)) (above text_order es (Some t))) a.0 ∙ ap (λ (xs : List (List ℕ × ℕ)). e ∷ xs) (whole es a.1)

  alike_all : (e : List ℕ) (ks : List (List ℕ)) → text_order t e ≡ Equal → AllByRecursion (λ z. text_order e z ≡ Less) ks → AllByRecursion (λ z. text_order t z ≡ Less) ks
  alike_all e [] is a = tt
  alike_all e (k ∷ ks) is a = (text_total.congr t e k is ∙ a.0, alike_all e ks is a.1)

  pub split : (es : List (List ℕ × ℕ)) → IsMap text_order es → filter p (flat_map f es) ≡ option_map_or part (get text_order es t) [] ++ flat_map f (above text_order es (Some t))
  unfolding IsStrictlySortedBy
  split [] s = refl
  split (e ∷ es) s =
      let later : List (List ℕ × ℕ) = above text_order es (Some t) in
      filter-append p (f e) (flat_map f es)
      ∙ elim (text_order t e.0) as (λ r. text_order t e.0 ≡ r → filter p (f e) ++ filter p (flat_map f es) ≡ option_map_or part (cond (is_eq r) (Some e.1) (get text_order es t)) [] ++ flat_map f (cond (is_lt r && true) (e ∷ later) later)) [
        | Less ↦ λ is.
            let all = below_all text_total t e.0 (keys_of es) is s.0 in
            (λ i. upper e is i ++ upper_all es all i)
            ∙ ap (λ (ts : List (List ℕ × ℕ)). f e ++ flat_map f ts) (sym (whole es all))
            ∙ ap (λ o. option_map_or part o [] ++ (f e ++ flat_map f later)) (sym (none_of_name es all))
        | Equal ↦ λ is.
            let all = alike_all e.0 (keys_of es) is s.0 in
            (λ i. own e is i ++ upper_all es all i) ∙ ap (λ (ts : List (List ℕ × ℕ)). part e.1 ++ flat_map f ts) (sym (whole es all))
        | Greater ↦ λ is. (λ i. lower e is i ++ split es s.1 i)
      ] refl

-- ---- the partitions of one topic behind an index

module _ (id : ℕ) (index : ℤ) (q : (ℕ × ℤ) × Partition → Bool) (later : (e : (ℕ × ℤ) × Partition) → q e ≡ is_lt (int_cmp index e.0.1)) where
  same_ids : (x : ℕ) (r : Ordering) → (x == id) ≡ true → ordering_then (nat_cmp id x) r ≡ r
  same_ids x r is = ap (λ (y : ℕ). ordering_then (nat_cmp id y) r) (same_topic x id is) ∙ rw (← (nat_cmp_is id id Equal refl)) refl

  pub of_topic_behind : (ps : List ((ℕ × ℤ) × Partition)) → filter q (of_topic id ps) ≡ of_topic id (above partition_order ps (Some (id, index)))
  of_topic_behind [] = refl
  of_topic_behind (e ∷ ps) =
      let rest = of_topic_behind ps in
      let others : List ((ℕ × ℤ) × Partition) = above partition_order ps (Some (id, index)) in
      elim (e.0.0 == id) as (λ b. (e.0.0 == id) ≡ b → filter q (cond b (e ∷ of_topic id ps) (of_topic id ps)) ≡ of_topic id (cond (is_lt (partition_order (id, index) e.0) && true) (e ∷ others) others)) [
        | true ↦ λ is.
            ap (λ b. cond b (e ∷ filter q (of_topic id ps)) (filter q (of_topic id ps))) (later e)
            ∙ elim (is_lt (int_cmp index e.0.1)) as (λ b. cond b (e ∷ filter q (of_topic id ps)) (filter q (of_topic id ps)) ≡ of_topic id (cond (b && true) (e ∷ others) others)) [
              | true ↦ ap (λ (xs : List ((ℕ × ℤ) × Partition)). e ∷ xs) rest ∙ ap (λ b. cond b (e ∷ of_topic id others) (of_topic id others)) (sym is)
              | false ↦ rest
            ]
            ∙ ap (λ r. of_topic id (cond (is_lt r && true) (e ∷ others) others)) (sym (same_ids e.0.0 (int_cmp index e.0.1) is))
        | false ↦ λ is. rest ∙ elim (is_lt (partition_order (id, index) e.0) && true) as (λ b. of_topic id others ≡ of_topic id (cond b (e ∷ others) others)) [
          | true ↦ ap (λ b. cond b (e ∷ of_topic id others) (of_topic id others)) (sym is)
          | false ↦ refl
        ]
      ] refl

-- ---- a page of partitions

module _ (image : Image) (key : ScanKey) where
  abbrev t : List ℕ
  t = key.topic

  abbrev passes : PageRow → Bool
  passes row = is_row_behind (Some key) row

  by_topic : (r : Ordering) (name : List ℕ) (b : Bool) → text_order t name ≡ r → ((z : ℤ) → is_lt (ordering_then r (int_cmp key.index z)) ≡ b) → (es : List ((ℕ × ℤ) × Partition)) → AllByRecursion (λ row. passes row ≡ b) (map page_row (map (walked name) es))
  by_topic r name b is all [] = tt
  by_topic r name b is all (e ∷ es) = (ap (λ x. is_lt (ordering_then x (int_cmp key.index e.0.1))) is ∙ all e.0.1, by_topic r name b is all es)

  one_topic : (e : List ℕ × ℕ) → text_order t e.0 ≡ Equal → filter passes (listed no_heads page_row image.partitions e) ≡ rest_of_topic no_heads page_row image t key.index e.1
  one_topic e is =
      let name : t ≡ e.0 = exact_bytes t e.0 is in
      let row : (ℕ × ℤ) × Partition → PageRow = λ x. page_row (walked e.0 x) in
      ap (filter passes) (map_again (walked e.0) page_row (of_topic e.1 image.partitions))
      ∙ filter_map_is row passes (of_topic e.1 image.partitions)
      ∙ ap (map row) (of_topic_behind e.1 key.index (λ x. passes (row x)) (λ x. ap (λ r. is_lt (ordering_then r (int_cmp key.index x.0.1))) is) image.partitions)
      ∙ ap (λ n. rest_of_topic no_heads page_row image n key.index e.1) (sym name)

  pub page_behind : IsValid image → filter passes (map page_row (walk image)) ≡ listed_behind no_heads page_row image t key.index
  page_behind valid =
      ap (filter passes) (map_flat page_row (walk_topic image.partitions) image.topics)
      ∙ split passes (listed no_heads page_row image.partitions) t (rest_of_topic no_heads page_row image t key.index)
      (λ e is. none_pass passes (listed no_heads page_row image.partitions e) (by_topic Greater e.0 false is (λ z. refl) (of_topic e.1 image.partitions)))
      (λ e is. filter_all passes (listed no_heads page_row image.partitions e) (by_topic Less e.0 true is (λ z. refl) (of_topic e.1 image.partitions)))
      one_topic image.topics valid.topics.ordered

all_rows : (rows : List PageRow) → filter (is_row_behind None) rows ≡ rows
all_rows [] = refl
all_rows (row ∷ rows) = ap (λ (rs : List PageRow). row ∷ rs) (all_rows rows)

pub page_first : (image : Image) → filter (is_row_behind None) (map page_row (walk image)) ≡ flat_map (listed no_heads page_row image.partitions) image.topics
page_first image = all_rows (map page_row (walk image)) ∙ map_flat page_row (walk_topic image.partitions) image.topics

-- ---- records

-- a key's section, and the order in it
last_equal : (r : Ordering) → is_lt (ordering_then r Equal) ≡ is_lt r
last_equal Less = refl
last_equal Equal = refl
last_equal Greater = refl

and_true : (b : Bool) → b ≡ (b && true)
and_true true = refl
and_true false = refl

then_equal : (a b c : Ordering) → is_lt (ordering_then a (ordering_then b (ordering_then c Equal))) ≡ is_lt (ordering_then a (ordering_then b c))
then_equal Less b c = refl
then_equal Greater b c = refl
then_equal Equal Less c = refl
then_equal Equal Greater c = refl
then_equal Equal Equal c = last_equal c

abbrev records : List (RecordKey × Record) → List Record
records rs = map (λ (r : RecordKey × Record). r.1) rs

abbrev behind : RecordKey → RecordKey × Record → Bool
behind key r = is_record_behind (Some key) r

module _ {A : Type 0} (f : A → RecordKey × Record) (key : RecordKey) (xs : List A) where
  all_behind : ((x : A) → behind key (f x) ≡ true) → filter (behind key) (map f xs) ≡ map f xs
  all_behind is = filter_all (behind key) (map f xs) (all_mapped (behind key) f true xs is)

  none_behind : ((x : A) → behind key (f x) ≡ false) → filter (behind key) (map f xs) ≡ []
  none_behind is = none_pass (behind key) (map f xs) (all_mapped (behind key) f false xs is)

  some_behind : (q : A → Bool) → ((x : A) → behind key (f x) ≡ q x) → records (filter (behind key) (map f xs)) ≡ map (λ x. (f x).1) (filter q xs)
  some_behind q is = ap records (filter_map_is f (behind key) xs ∙ ap (map f) (filter_alike (λ x. behind key (f x)) q xs is)) ∙ map_again f (λ (r : RecordKey × Record). r.1) (filter q xs)

grouped : (a b c d : List Record) → ((a ++ b) ++ c) ++ d ≡ a ++ (b ++ (c ++ d))
grouped a b c d = append_assoc (a ++ b) c d ∙ append_assoc a b (c ++ d)

module _ (image : Image) where
  abbrev ps : List ((ℕ × ℤ) × Partition)
  ps = image.partitions

  parts : (key : RecordKey) → records (filter (behind key) (keyed_records image))
      ≡ ((records (filter (behind key) (map keyed_feature image.features)) ++ records (filter (behind key) (map keyed_broker image.brokers)))
      ++ records (filter (behind key) (flat_map (keyed_topic ps) image.topics))) ++ records (filter (behind key) (map keyed_setting image.configs))
  unfolding keyed_records
  parts key =
      let p = behind key in
      let a = map keyed_feature image.features in
      let b = map keyed_broker image.brokers in
      let c = flat_map (keyed_topic ps) image.topics in
      let d = map keyed_setting image.configs in
      ap records (filter-append p ((a ++ b) ++ c) d ∙ ap (λ rs. rs ++ filter p d) (filter-append p (a ++ b) c ∙ ap (λ rs. rs ++ filter p c) (filter-append p a b)))
      ∙ map-append (λ (r : RecordKey × Record). r.1) ((filter p a ++ filter p b) ++ filter p c) (filter p d)
      ∙ ap (λ rs. rs ++ records (filter p d)) (map-append (λ (r : RecordKey × Record). r.1) (filter p a ++ filter p b) (filter p c) ∙ ap (λ rs. rs ++ records (filter p c)) (map-append (λ (r : RecordKey × Record). r.1) (filter p a) (filter p b)))

  -- all of a section
  features_are : records (map keyed_feature image.features) ≡ map record_of_feature image.features
  features_are = map_again keyed_feature (λ (r : RecordKey × Record). r.1) image.features

  brokers_are : records (map keyed_broker image.brokers) ≡ map record_of_broker image.brokers
  brokers_are = map_again keyed_broker (λ (r : RecordKey × Record). r.1) image.brokers

  topic_is : (topic : List ℕ × ℕ) → records (keyed_topic ps topic) ≡ listed record_of_topic partition_record ps topic
  topic_is topic = ap (λ (rs : List Record). record_of_topic topic ++ rs) (map_again keyed_partition (λ (r : RecordKey × Record). r.1) (walk_topic ps topic))

  topics_are : records (flat_map (keyed_topic ps) image.topics) ≡ flat_map (listed record_of_topic partition_record ps) image.topics
  topics_are = map_flat (λ (r : RecordKey × Record). r.1) (keyed_topic ps) image.topics ∙ flat_alike (λ topic. records (keyed_topic ps topic)) (listed record_of_topic partition_record ps) image.topics topic_is

  settings_are : records (map keyed_setting image.configs) ≡ map record_of_setting image.configs
  settings_are = map_again keyed_setting (λ (r : RecordKey × Record). r.1) image.configs

  -- the records of topics stand all in one section
  topics_pass : (p : RecordKey × Record → Bool) (b : Bool) → ((name : List ℕ) (r : Record) → p (keys.Topic name, r) ≡ b) → ((name : List ℕ) (index : ℤ) (r : Record) → p (keys.Partition name index, r) ≡ b) → (es : List (List ℕ × ℕ)) → filter p (flat_map (keyed_topic ps) es) ≡ cond b (flat_map (keyed_topic ps) es) []
  topics_pass p true own each [] = refl
  topics_pass p false own each [] = refl
  topics_pass p true own each (e ∷ es) =
      filter-append p (keyed_topic ps e) (flat_map (keyed_topic ps) es)
      ∙ (λ i. filter_all p (keyed_topic ps e) (own e.0 _, all_mapped p keyed_partition true (walk_topic ps e) (λ w. each w.topic w.key.1 _)) i ++ topics_pass p true own each es i)
  topics_pass p false own each (e ∷ es) =
      filter-append p (keyed_topic ps e) (flat_map (keyed_topic ps) es)
      ∙ (λ i. none_pass p (keyed_topic ps e) (own e.0 _, all_mapped p keyed_partition false (walk_topic ps e) (λ w. each w.topic w.key.1 _)) i ++ topics_pass p false own each es i)

  -- ---- behind a feature, a broker and a setting

  behind_feature : (name : List ℕ) → records (filter (behind (keys.Feature name)) (keyed_records image)) ≡ from_features image (Some name)
  behind_feature name =
      let key = keys.Feature name in
      parts key ∙ (λ i.
      ((some_behind keyed_feature key image.features (λ e. is_lt (text_order name e.0) && true) (λ e. last_equal (text_order name e.0) ∙ and_true (is_lt (text_order name e.0))) i
      ++ (ap records (all_behind keyed_broker key image.brokers (λ e. refl)) ∙ brokers_are) i)
      ++ (ap records (topics_pass (behind key) true (λ n r. refl) (λ n x r. refl) image.topics) ∙ topics_are) i)
      ++ (ap records (all_behind keyed_setting key image.configs (λ e. refl)) ∙ settings_are) i)
      ∙ grouped (map record_of_feature (above text_order image.features (Some name))) (map record_of_broker image.brokers) (flat_map (listed record_of_topic partition_record ps) image.topics) (map record_of_setting image.configs)

  behind_broker : (id : ℤ) → records (filter (behind (keys.Broker id)) (keyed_records image)) ≡ from_brokers image (Some id)
  behind_broker id =
      let key = keys.Broker id in
      parts key ∙ (λ i.
      (((ap records (none_behind keyed_feature key image.features (λ e. refl)) i
      ++ some_behind keyed_broker key image.brokers (λ e. is_lt (int_cmp id e.0) && true) (λ e. and_true (is_lt (int_cmp id e.0))) i)
      ++ (ap records (topics_pass (behind key) true (λ n r. refl) (λ n x r. refl) image.topics) ∙ topics_are) i)
      ++ (ap records (all_behind keyed_setting key image.configs (λ e. refl)) ∙ settings_are) i))
      ∙ append_assoc (map record_of_broker (above int_cmp image.brokers (Some id))) _ _

  behind_setting : (kind : ℤ) (name text : List ℕ) → records (filter (behind (keys.Setting kind name text)) (keyed_records image)) ≡ from_settings image (Some (setting_key kind name text))
  behind_setting kind name text =
      let key = keys.Setting kind name text in
      let own = setting_key kind name text in
      parts key ∙ (λ i.
      (((ap records (none_behind keyed_feature key image.features (λ e. refl)) i
      ++ ap records (none_behind keyed_broker key image.brokers (λ e. refl)) i)
      ++ ap records (topics_pass (behind key) false (λ n r. refl) (λ n x r. refl) image.topics) i)
      ++ some_behind keyed_setting key image.configs (λ e. is_lt (config_order own e.0) && true) (λ e. then_equal (int_cmp kind e.0.kind) (text_order name e.0.name) (text_order text e.0.key) ∙ and_true (is_lt (config_order own e.0))) i))

  -- ---- behind a topic, and behind a partition

  module _ (key : RecordKey) (t : List ℕ) (number : Option ℤ) (own : rank_of_key key ≡ named 2 t number) where
    of_rank : (name : List ℕ) (other : Option ℤ) (k : RecordKey) (r : Record) → rank_of_key k ≡ named 2 name other → behind key (k, r) ≡ is_lt (ordering_then (text_order t name) (option_cmp int_cmp number other))
    of_rank name other k r is = (λ i. is_lt (rank_order (own i) (is i)))

    in_topic : (r : Ordering) (name : List ℕ) (b : Bool) → text_order t name ≡ r → ((z : ℤ) → is_lt (ordering_then r (option_cmp int_cmp number (Some z))) ≡ b) → (es : List ((ℕ × ℤ) × Partition)) → AllByRecursion (λ x. behind key x ≡ b) (map keyed_partition (map (walked name) es))
    in_topic r name b is all [] = tt
    in_topic r name b is all (x ∷ es) =
        (of_rank name (Some x.0.1) (keys.Partition name x.0.1) (kinds.Partition x.0.1 x.0.0 x.1) refl ∙ ap (λ y. is_lt (ordering_then y (option_cmp int_cmp number (Some x.0.1)))) is ∙ all x.0.1, in_topic r name b is all es)

    by_name : (r : Ordering) (e : List ℕ × ℕ) (b : Bool) → text_order t e.0 ≡ r → ((z : Option ℤ) → is_lt (ordering_then r (option_cmp int_cmp number z)) ≡ b) → AllByRecursion (λ x. behind key x ≡ b) (keyed_topic ps e)
    by_name r e b is all =
        (of_rank e.0 None (keys.Topic e.0) (kinds.Topic e.0 e.1) refl ∙ ap (λ y. is_lt (ordering_then y (option_cmp int_cmp number None))) is ∙ all None, in_topic r e.0 b is (λ z. all (Some z)) (of_topic e.1 ps))

    abbrev part_keyed : ℤ → ℕ → List (RecordKey × Record)
    part_keyed index id = map keyed_partition (map (walked t) (of_topic id (above partition_order ps (Some (id, index)))))

    parts_are : (index : ℤ) (o : Option ℕ) → records (option_map_or (part_keyed index) o []) ≡ option_map_or (rest_of_topic record_of_topic partition_record image t index) o []
    parts_are index None = refl
    parts_are index (Some id) =
        let xs = of_topic id (above partition_order ps (Some (id, index))) in
        map_again keyed_partition (λ (r : RecordKey × Record). r.1) (map (walked t) xs) ∙ map_again (walked t) (λ w. (keyed_partition w).1) xs

    topics_behind : (index : ℤ) → ((e : List ℕ × ℕ) → text_order t e.0 ≡ Equal → filter (behind key) (keyed_topic ps e) ≡ part_keyed index e.1) → IsMap text_order image.topics
        → records (filter (behind key) (flat_map (keyed_topic ps) image.topics)) ≡ listed_behind record_of_topic partition_record image t index
    topics_behind index named ordered =
        let first = option_map_or (part_keyed index) (get text_order image.topics t) [] in
        let others = above text_order image.topics (Some t) in
        ap records (split (behind key) (keyed_topic ps) t (part_keyed index)
        (λ e is. none_pass (behind key) (keyed_topic ps e) (by_name Greater e false is (λ z. refl)))
        (λ e is. filter_all (behind key) (keyed_topic ps e) (by_name Less e true is (λ z. refl)))
        named image.topics ordered)
        ∙ map-append (λ (r : RecordKey × Record). r.1) first (flat_map (keyed_topic ps) others)
        ∙ (λ i. parts_are index (get text_order image.topics t) i
        ++ (map_flat (λ (r : RecordKey × Record). r.1) (keyed_topic ps) others ∙ flat_alike (λ topic. records (keyed_topic ps topic)) (listed record_of_topic partition_record ps) others topic_is) i)

    all_others : (index : ℤ) → ((e : List ℕ × ℕ) → text_order t e.0 ≡ Equal → filter (behind key) (keyed_topic ps e) ≡ part_keyed index e.1) → IsMap text_order image.topics
        → records (filter (behind key) (keyed_records image)) ≡ behind_partition image t index
    all_others index named ordered =
        parts key ∙ (λ i.
        ((ap records (none_behind keyed_feature key image.features (λ e. (λ j. is_lt (rank_order (own j) (rank_of_key (keys.Feature e.0)))))) i
        ++ ap records (none_behind keyed_broker key image.brokers (λ e. (λ j. is_lt (rank_order (own j) (rank_of_key (keys.Broker e.0)))))) i)
        ++ topics_behind index named ordered i)
        ++ (ap records (all_behind keyed_setting key image.configs (λ e. (λ j. is_lt (rank_order (own j) (rank_of_key (keys.Setting e.0.kind e.0.name e.0.key)))))) ∙ settings_are) i)

  -- of the topic of a partition's key its later partitions
  later_ones : (t : List ℕ) (index : ℤ) (e : List ℕ × ℕ) → text_order t e.0 ≡ Equal → filter (behind (keys.Partition t index)) (keyed_topic ps e) ≡ part_keyed (keys.Partition t index) t (Some index) refl index e.1
  later_ones t index e is =
      let key = keys.Partition t index in
      let f : (ℕ × ℤ) × Partition → RecordKey × Record = λ x. keyed_partition (walked e.0 x) in
      let xs = of_topic e.1 (above partition_order ps (Some (e.1, index))) in
      let head : behind key (keys.Topic e.0, kinds.Topic e.0 e.1) ≡ false = ap (λ r. is_lt (ordering_then r Greater)) is in
      let all = map keyed_partition (walk_topic ps e) in
      ap (λ b. cond b ((keys.Topic e.0, kinds.Topic e.0 e.1) ∷ filter (behind key) all) (filter (behind key) all)) head
      ∙ ap (filter (behind key)) (map_again (walked e.0) keyed_partition (of_topic e.1 ps))
      ∙ filter_map_is f (behind key) (of_topic e.1 ps)
      ∙ ap (map f) (of_topic_behind e.1 index (λ x. behind key (f x)) (λ x. ap (λ r. is_lt (ordering_then r (int_cmp index x.0.1))) is) ps)
      ∙ sym (map_again (walked e.0) keyed_partition xs)
      ∙ ap (λ n. map keyed_partition (map (walked n) xs)) (sym (exact_bytes t e.0 is))

  -- of a topic's key all its partitions
  all_ones : AllByRecursion (λ e. IsTrue (is_index e.0.1)) ps → (t : List ℕ) (e : List ℕ × ℕ) → text_order t e.0 ≡ Equal → filter (behind (keys.Topic t)) (keyed_topic ps e) ≡ part_keyed (keys.Topic t) t None refl (negsuc 0) e.1
  all_ones indexes t e is =
      let key = keys.Topic t in
      let head : behind key (keys.Topic e.0, kinds.Topic e.0 e.1) ≡ false = ap (λ r. is_lt (ordering_then r Equal)) is in
      let all = map keyed_partition (walk_topic ps e) in
      ap (λ b. cond b ((keys.Topic e.0, kinds.Topic e.0 e.1) ∷ filter (behind key) all) (filter (behind key) all)) head
      ∙ filter_all (behind key) all (in_topic key t None refl Equal e.0 true is (λ z. refl) (of_topic e.1 ps))
      ∙ (λ i. map keyed_partition (map (walked (sym (exact_bytes t e.0 is) i)) (sym (group_begin e.1 ps indexes) i)))

  pub records_behind : IsValid image → (key : RecordKey) → records (filter (behind key) (keyed_records image)) ≡ behind_key image key
  records_behind valid (keys.Feature name) = behind_feature name
  records_behind valid (keys.Broker id) = behind_broker id
  records_behind valid (keys.Topic name) =
      all_others (keys.Topic name) name None refl (negsuc 0) (all_ones (recursion_from_All (λ (e : (ℕ × ℤ) × Partition). IsTrue (is_index e.0.1)) ps valid.partitions.indexes) name) valid.topics.ordered
  records_behind valid (keys.Partition topic index) = all_others (keys.Partition topic index) topic (Some index) refl index (later_ones topic index) valid.topics.ordered
  records_behind valid (keys.Setting kind name text) = behind_setting kind name text

  everything : (rs : List (RecordKey × Record)) → filter (is_record_behind None) rs ≡ rs
  everything [] = refl
  everything (r ∷ rs) = ap (λ (xs : List (RecordKey × Record)). r ∷ xs) (everything rs)

  pub records_first : records (filter (is_record_behind None) (keyed_records image)) ≡ from_features image None
  unfolding keyed_records
  records_first =
      let a = map keyed_feature image.features in
      let b = map keyed_broker image.brokers in
      let c = flat_map (keyed_topic ps) image.topics in
      let d = map keyed_setting image.configs in
      let snd : RecordKey × Record → Record = λ r. r.1 in
      ap records (everything (((a ++ b) ++ c) ++ d))
      ∙ map-append snd ((a ++ b) ++ c) d
      ∙ ap (λ rs. rs ++ records d) (map-append snd (a ++ b) c ∙ ap (λ rs. rs ++ records c) (map-append snd a b))
      ∙ (λ i. ((features_are i ++ brokers_are i) ++ topics_are i) ++ settings_are i)
      ∙ grouped (map record_of_feature image.features) (map record_of_broker image.brokers) (flat_map (listed record_of_topic partition_record ps) image.topics) (map record_of_setting image.configs)

-- ---- the first of them

rows_are : (image : Image) (after : Option ScanKey) → IsValid image → filter (is_row_behind after) (map page_row (walk image)) ≡ rows_behind image after
rows_are image None valid = page_first image
rows_are image (Some key) valid = page_behind image key valid

pub rows_first : (image : Image) (most : ℕ) (after : Option ScanKey) (none rows : List PageRow) → IsValid image → none ≡ [] → rows ≡ take most (none ++ rows_behind image after) → rows ≡ page_of image after most
rows_first image most after none rows valid is new = new ∙ ap (λ (rs : List PageRow). take most (rs ++ rows_behind image after)) is ∙ ap (take most) (sym (rows_are image after valid))

all_records : (image : Image) (after : Option RecordKey) → IsValid image → records (filter (is_record_behind after) (keyed_records image)) ≡ sections.records_behind image after
all_records image None valid = records_first image
all_records image (Some key) valid = records_behind image valid key

pub record_page_is : (image : Image) (most : ℕ) (after : Option RecordKey) (none rs : List Record) → IsValid image → none ≡ [] → rs ≡ take most (none ++ sections.records_behind image after) → rs ≡ record_page image after most
record_page_is image most after none rs valid is new = new ∙ ap (λ (xs : List Record). take most (xs ++ sections.records_behind image after)) is ∙ ap (take most) (sym (all_records image after valid))
