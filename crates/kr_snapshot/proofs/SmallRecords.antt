-- The records of a valid image can be written, and are small.
use Rattle.std.proofs.Common.{◌≡◌, ◌∙◌, ℕ, ℤ, pos, ◌+◌, ◌*◌, ◌<◌, ◌≤◌, ◌^◌, Bool, true, false, cond, List, [], ◌∷◌, ◌++◌, length, append_assoc, refl, subst, arith, All}
use Rattle.std.specs.Prelude.{sum_by, map, flat_map, filter, Option, Some, None, IsTrue, IfSome, not, ◌||◌, ◌&&◌, nat_le, nat_lt, ◌==◌, unwrap_or, bytes_eq}
use Rattle.std.specs.Ordering.{int_eq}
use Rattle.std.specs.List.{AllByRecursion}
use Rattle.std.proofs.lemmas.Bool.{and_parts, leb-true}
use Rattle.std.proofs.lemmas.List.Elements.{All-from_recursion, recursion_from_All}
use Rattle.std.proofs.lemmas.List.Sums.{sum_by-append, sum_by-cons, length-filter, count_by-le-length}
use Rattle.kr_defs.specs.declared.broker.Broker.{Broker}
use Rattle.kr_defs.specs.declared.broker.Endpoint.{Endpoint}
use Rattle.kr_defs.specs.declared.broker.Range.{Range}
use Rattle.kr_defs.specs.declared.partition.Partition.{Partition}
use Rattle.kr_defs.specs.declared.record.ConfigKey.{ConfigKey}
use Rattle.kr_defs.specs.declared.record.Record.{Record}
use Rattle.kr_defs.specs.declared.record.Record.TheVariants as kinds
use Rattle.kr_defs.specs.declared.limits.TheConstants.{MOST_CONFIG_TEXT, LONGEST_FEATURE, LONGEST_TOPIC, MOST_REPLICAS, MOST_ENDPOINTS, MOST_RANGES, MOST_REGISTRATION_TEXT}
use Rattle.kr_defs.specs.Ids.{has, is_distinct, is_within, are_apart}
use Rattle.kr_defs.specs.Image.{Image, IsValid, config_text, is_small_registration, registration_text}
use Rattle.kr_defs.specs.Partition.{is_well_formed, is_part, is_reassignment}
use Rattle.kr_defs.specs.Texts.{is_topic_name, is_name, are_name_bytes}
use Rattle.kr_defs.specs.Records.{topic_records, records_of, partition_record as walked_record}
use Rattle.kr_defs.specs.Sizes.{uvarint_bytes, text_bytes, text_or_null_bytes, list_bytes, field_bytes, field_there, number_field, ids_field, tags_bytes, no_tags_bytes, value_bytes}
use Rattle.kr_defs.specs.Walk.{walked, of_topic, walk_topic}
use Rattle.kr_defs.proofs.Changes.{formed_parts}
use Rattle.kr_defs.proofs.IdLists.{same_id, refutes, refuted, all_at, all_from, has_kept}
use Rattle.kr_record.specs.Records.{chosen}
use Rattle.kr_record.specs.Encodable.{IsEncodable, IsShortEndpoint, IsShortRange}
use Rattle.kr_record.proofs.RecordForms.{size}
use Rattle.kr_snapshot.specs.inner.EntryRecords.{feature_record, broker_record, partition_record, config_record}
use Rattle.kr_snapshot.specs.inner.Writer.{setting_text, IsLight, most_beside, texts, Stands, MayAdd}
use Rattle.kr_snapshot.specs.declared.batch_writer.BatchWriter.{BatchWriter}

-- ---- ids among others

abbrev apart_from : ℤ → ℤ → Bool
apart_from x y = not (int_eq y x)

kept_fewer : (x : ℤ) (ys : List ℤ) → length (filter (apart_from x) ys) ≤ length ys
kept_fewer x ys = rw length-filter (count_by-le-length (apart_from x) ys)

removed_fewer : (x : ℤ) (ys : List ℤ) → has ys x ≡ true → length (filter (apart_from x) ys) + 1 ≤ length ys
removed_fewer x [] h = absurd cc
removed_fewer x (y ∷ ys) h =
    elim (int_eq y x) as (λ b. (b || has ys x) ≡ true → length (cond (not b) (y ∷ filter (apart_from x) ys) (filter (apart_from x) ys)) + 1 ≤ length (y ∷ ys)) [
      | true ↦ λ h. let f = kept_fewer x ys in omega (arith, f)
      | false ↦ λ h. let f = removed_fewer x ys h in omega (arith, f)
    ] h

within_kept : (xs ys : List ℤ) (x : ℤ) → not (has xs x) ≡ true → is_within xs ys ≡ true → is_within xs (filter (apart_from x) ys) ≡ true
within_kept xs ys x fresh inside =
    all_from (has (filter (apart_from x) ys)) xs (λ id h. has_kept (apart_from x) ys id (all_at (has ys) xs id inside h)
    (refuted (int_eq id x) (λ e. refutes (has xs x) fresh (let P : ℤ → Type 0 = λ y. has xs y ≡ true in subst P (same_id id x e) h))))

-- distinct ids among others are no more than those
fewer : (xs ys : List ℤ) → is_distinct xs ≡ true → is_within xs ys ≡ true → length xs ≤ length ys
fewer [] ys distinct inside = omega arith
fewer (x ∷ xs) ys distinct inside =
    let p = and_parts (not (has xs x)) (is_distinct xs) distinct in
    let q = and_parts (has ys x) (is_within xs ys) inside in
    let r = removed_fewer x ys q.0 in
    let s = fewer xs (filter (apart_from x) ys) p.1 (within_kept xs ys x p.0 q.1) in
    omega (arith, r, s)

-- ---- sizes of parts

five : (a b c d : Bool) → cond a 1 (cond b 2 (cond c 3 (cond d 4 5))) ≤ 5
five true b c d = omega arith
five false true c d = omega arith
five false false true d = omega arith
five false false false true = omega arith
five false false false false = omega arith

number_few : (n : ℕ) → uvarint_bytes n ≤ 5
number_few n = five (nat_lt n (2 ^ 7)) (nat_lt n (2 ^ 14)) (nat_lt n (2 ^ 21)) (nat_lt n (2 ^ 28))

text_few : (text : List ℕ) → text_bytes text ≤ 5 + length text
text_few text = let a = number_few (length text + 1) in omega (arith, a)

rack_few : (rack : Option (List ℕ)) → text_or_null_bytes rack ≤ 5 + length (unwrap_or rack [])
rack_few None = omega arith
rack_few (Some text) = text_few text

abbrev endpoint_bytes : Endpoint → ℕ
endpoint_bytes e = text_bytes e.name + text_bytes e.host + 2 + 2 + no_tags_bytes

abbrev endpoint_text : Endpoint → ℕ
endpoint_text e = length e.name + length e.host

endpoints_few : (es : List Endpoint) → sum_by endpoint_bytes es ≤ 15 * length es + sum_by endpoint_text es
endpoints_few [] = omega arith
endpoints_few (e ∷ es) =
    let a = sum_by-cons endpoint_bytes e es in
    let b = sum_by-cons endpoint_text e es in
    let c = text_few e.name in
    let d = text_few e.host in
    let f = endpoints_few es in
    omega (arith, a, b, c, d, f)

abbrev range_bytes : Range → ℕ
range_bytes r = text_bytes r.name + 2 + 2 + no_tags_bytes

abbrev range_text : Range → ℕ
range_text r = length r.name

ranges_few : (rs : List Range) → sum_by range_bytes rs ≤ 10 * length rs + sum_by range_text rs
ranges_few [] = omega arith
ranges_few (r ∷ rs) =
    let a = sum_by-cons range_bytes r rs in
    let b = sum_by-cons range_text r rs in
    let c = text_few r.name in
    let d = ranges_few rs in
    omega (arith, a, b, c, d)

endpoints_short : (es : List Endpoint) → sum_by endpoint_text es ≤ 4096 → AllByRecursion IsShortEndpoint es
endpoints_short [] few = tt
endpoints_short (e ∷ es) few =
    let b = sum_by-cons endpoint_text e es in
    ((omega (arith, b, few), (omega (arith, b, few), (tt, (tt, tt)))), endpoints_short es (omega (arith, b, few)))

ranges_short : (rs : List Range) → sum_by range_text rs ≤ 4096 → AllByRecursion IsShortRange rs
ranges_short [] few = tt
ranges_short (r ∷ rs) few =
    let b = sum_by-cons range_text r rs in
    ((omega (arith, b, few), (tt, (tt, tt))), ranges_short rs (omega (arith, b, few)))

rack_short : (rack : Option (List ℕ)) → length (unwrap_or rack []) ≤ 4096 → IfSome rack (λ (t : List ℕ). length t < 2 ^ 31)
rack_short None few = tt
rack_short (Some text) few = omega (arith, few)

ids_few : (ids : List ℤ) → field_bytes (ids_field ids) ≤ 11 + 4 * length ids
ids_few [] = omega arith
ids_few (id ∷ ids) =
    let a = number_few (length (id ∷ ids) + 1) in
    let b = number_few (list_bytes 4 (id ∷ ids)) in
    omega (arith, a, b)

flag_few : (n : ℤ) → field_bytes (number_field 1 (pos 0) n) ≤ 7
flag_few n = elim (int_eq n (pos 0)) as (λ b. field_bytes (cond b None (Some 1)) ≤ 7) [ true ↦ omega arith | false ↦ (let a = number_few 1 in omega (arith, a)) ]

-- three tagged fields
tags_few : (x y z : Option ℕ) → tags_bytes (x ∷ y ∷ z ∷ []) ≤ 5 + field_bytes x + field_bytes y + field_bytes z
tags_few x y z =
    let a = sum_by-cons field_bytes x (y ∷ z ∷ []) in
    let b = sum_by-cons field_bytes y (z ∷ []) in
    let c = sum_by-cons field_bytes z [] in
    let d = number_few (sum_by field_there (x ∷ y ∷ z ∷ [])) in
    omega (arith, a, b, c, d)

-- what a reassignment adds and removes are replicas
moving_parts : (replicas adding removing : List ℤ) → is_reassignment replicas adding removing ≡ true → (length adding ≤ length replicas) × (length removing ≤ length replicas)
moving_parts replicas adding removing h =
    let first = is_part adding replicas in
    let second = is_part removing replicas in
    let a = and_parts (first && second && are_apart adding removing && not (is_within replicas adding)) (not (is_within replicas removing)) h in
    let b = and_parts (first && second && are_apart adding removing) (not (is_within replicas adding)) a.0 in
    let c = and_parts (first && second) (are_apart adding removing) b.0 in
    let d = and_parts first second c.0 in
    let e = and_parts (is_distinct adding) (is_within adding replicas) d.0 in
    let f = and_parts (is_distinct removing) (is_within removing replicas) d.1 in
    (fewer adding replicas e.0 e.1, fewer removing replicas f.0 f.1)

name_short : (name : List ℕ) → is_topic_name name ≡ true → nat_le (length name) LONGEST_TOPIC ≡ true
name_short name is =
    let some = nat_lt 0 (length name) in
    let few = nat_le (length name) LONGEST_TOPIC in
    let a = and_parts (is_name LONGEST_TOPIC name && not (bytes_eq name (46 ∷ []))) (not (bytes_eq name (46 ∷ 46 ∷ []))) is in
    let b = and_parts (is_name LONGEST_TOPIC name) (not (bytes_eq name (46 ∷ []))) a.0 in
    let c = and_parts (some && few) (are_name_bytes name) b.0 in
    (and_parts some few c.0).1

-- ---- records

light : (r : Record) → IsEncodable r → value_bytes r ≤ most_beside + setting_text r → IsLight r
light r encodable few = record { encodable = encodable; size = (let a = size r encodable in omega (arith, a, few)) }

light_feature : (e : List ℕ × ℤ) → nat_le (length e.0) LONGEST_FEATURE ≡ true → IsLight (feature_record e)
unfolding value_bytes chosen
light_feature e short =
    let few = leb-true (length e.0) LONGEST_FEATURE short in
    let a = text_few e.0 in
    light (feature_record e) (omega (arith, few), (tt, tt)) (omega (arith, few, a))

light_broker : (e : ℤ × Broker) → is_small_registration e.1 ≡ true → IsLight (broker_record e)
unfolding value_bytes chosen
light_broker e small =
    let b = e.1 in
    let p = and_parts (nat_le (length b.endpoints) MOST_ENDPOINTS && nat_le (length b.features) MOST_RANGES) (nat_le (registration_text b) MOST_REGISTRATION_TEXT) small in
    let q = and_parts (nat_le (length b.endpoints) MOST_ENDPOINTS) (nat_le (length b.features) MOST_RANGES) p.0 in
    let few_endpoints = leb-true (length b.endpoints) MOST_ENDPOINTS q.0 in
    let few_ranges = leb-true (length b.features) MOST_RANGES q.1 in
    let little = leb-true (registration_text b) MOST_REGISTRATION_TEXT p.1 in
    let f = endpoints_few b.endpoints in
    let g = ranges_few b.features in
    let h = rack_few b.rack in
    let i = number_few (length b.endpoints + 1) in
    let j = number_few (length b.features + 1) in
    light (broker_record e)
    (let endpoints = All-from_recursion IsShortEndpoint b.endpoints (endpoints_short b.endpoints (omega (arith, little))) in
    let features = All-from_recursion IsShortRange b.features (ranges_short b.features (omega (arith, little))) in
    (tt, (tt, (tt, ((omega (arith, few_endpoints), endpoints), ((omega (arith, few_ranges), features), (rack_short b.rack (omega (arith, little)), (tt, (tt, tt)))))))))
    (omega (arith, few_endpoints, few_ranges, little, f, g, h, i, j))

light_topic : (name : List ℕ) (id : ℕ) → is_topic_name name ≡ true → IsLight (kinds.Topic name id)
unfolding value_bytes chosen
light_topic name id is =
    let few = leb-true (length name) LONGEST_TOPIC (name_short name is) in
    let a = text_few name in
    light (kinds.Topic name id) (omega (arith, few), (tt, tt)) (omega (arith, few, a))

light_partition : (e : (ℕ × ℤ) × Partition) → is_well_formed e.1 ≡ true → IsLight (partition_record e)
unfolding value_bytes chosen
light_partition e formed =
    let p = e.1 in
    let f = formed_parts p formed in
    let most = leb-true (length p.replicas) MOST_REPLICAS f.replicas.few in
    let in_sync = fewer p.in_sync p.replicas f.distinct f.inside in
    let eligible_part = and_parts (is_distinct p.eligible) (is_within p.eligible p.replicas) f.stand.eligible_part in
    let eligible = fewer p.eligible p.replicas eligible_part.0 eligible_part.1 in
    let last_part = and_parts (is_distinct p.last_known) (is_within p.last_known p.replicas) f.stand.last_known_part in
    let last = fewer p.last_known p.replicas last_part.0 last_part.1 in
    let moves = moving_parts p.replicas p.adding p.removing f.reassignment in
    let a = number_few (length p.replicas + 1) in
    let b = number_few (length p.in_sync + 1) in
    let c = number_few (length p.removing + 1) in
    let d = number_few (length p.adding + 1) in
    let g = flag_few p.recovery in
    let h = ids_few p.eligible in
    let i = ids_few p.last_known in
    let tags = tags_few (number_field 1 (pos 0) p.recovery) (ids_field p.eligible) (ids_field p.last_known) in
    light (partition_record e)
    (let replicas : length p.replicas < 2 ^ 31 = omega (arith, most) in
    let removing : length p.removing < 2 ^ 31 = (let m = moves.1 in omega (arith, most, m)) in
    let adding : length p.adding < 2 ^ 31 = (let m = moves.0 in omega (arith, most, m)) in
    (tt, (tt, ((replicas, (omega (arith, most, in_sync), (removing, (adding, (tt, (tt, tt)))))), (tt, (omega (arith, most, eligible), (omega (arith, most, last), tt)))))))
    (let m = moves.0 in let n = moves.1 in omega (arith, most, in_sync, eligible, last, m, n, a, b, c, d, g, h, i, tags))

light_config : (e : ConfigKey × List ℕ) → length e.0.name + length e.0.key + length e.1 ≤ MOST_CONFIG_TEXT → IsLight (config_record e)
unfolding value_bytes chosen
light_config e little =
    let a = text_few e.0.name in
    let b = text_few e.0.key in
    let c = text_few e.1 in
    light (config_record e)
    (tt, (omega (arith, little), (omega (arith, little), (omega (arith, little), tt))))
    (omega (arith, a, b, c))

-- ---- sections, and the text in each

all_append : {X : Type 0} (P : X → Type 0) (xs ys : List X) → AllByRecursion P xs → AllByRecursion P ys → AllByRecursion P (xs ++ ys)
all_append P [] ys a b = b
all_append P (x ∷ xs) ys a b = (a.0, all_append P xs ys a.1 b)

features_light : (es : List (List ℕ × ℤ)) → AllByRecursion (λ e. IsTrue (nat_le (length e.0) LONGEST_FEATURE)) es → AllByRecursion IsLight (map feature_record es)
features_light [] a = tt
features_light (e ∷ es) a = (light_feature e a.0, features_light es a.1)

brokers_light : (es : List (ℤ × Broker)) → AllByRecursion (λ e. IsTrue (is_small_registration e.1)) es → AllByRecursion IsLight (map broker_record es)
brokers_light [] a = tt
brokers_light (e ∷ es) a = (light_broker e a.0, brokers_light es a.1)

partitions_light : (name : List ℕ) (id : ℕ) (ps : List ((ℕ × ℤ) × Partition)) → AllByRecursion (λ e. IsTrue (is_well_formed e.1)) ps → AllByRecursion IsLight (map walked_record (map (walked name) (of_topic id ps)))
partitions_light name id [] a = tt
partitions_light name id (p ∷ ps) a =
    elim (p.0.0 == id) as (λ b. AllByRecursion IsLight (map walked_record (map (walked name) (cond b (p ∷ of_topic id ps) (of_topic id ps))))) [
      | true ↦ (light_partition p a.0, partitions_light name id ps a.1)
      | false ↦ partitions_light name id ps a.1
    ]

topics_light : (ps : List ((ℕ × ℤ) × Partition)) (ts : List (List ℕ × ℕ)) → AllByRecursion (λ e. IsTrue (is_well_formed e.1)) ps → AllByRecursion (λ e. IsTrue (is_topic_name e.0)) ts → AllByRecursion IsLight (flat_map (topic_records ps) ts)
topics_light ps [] formed a = tt
topics_light ps (t ∷ ts) formed a = all_append IsLight (topic_records ps t) (flat_map (topic_records ps) ts) (light_topic t.0 t.1 a.0, partitions_light t.0 t.1 ps formed) (topics_light ps ts formed a.1)

configs_light : (es : List (ConfigKey × List ℕ)) → config_text es ≤ MOST_CONFIG_TEXT → AllByRecursion IsLight (map config_record es)
configs_light [] little = tt
configs_light (e ∷ es) little =
    let a = sum_by-cons (λ (c : ConfigKey × List ℕ). length c.0.name + length c.0.key + length c.1) e es in
    (light_config e (omega (arith, a, little)), configs_light es (omega (arith, a, little)))

features_text : (es : List (List ℕ × ℤ)) → texts (map feature_record es) ≡ 0
features_text [] = refl
features_text (e ∷ es) = let a = sum_by-cons setting_text (feature_record e) (map feature_record es) in let b = features_text es in omega (arith, a, b)

brokers_text : (es : List (ℤ × Broker)) → texts (map broker_record es) ≡ 0
brokers_text [] = refl
brokers_text (e ∷ es) = let a = sum_by-cons setting_text (broker_record e) (map broker_record es) in let b = brokers_text es in omega (arith, a, b)

partitions_text : (name : List ℕ) (ps : List ((ℕ × ℤ) × Partition)) → texts (map walked_record (map (walked name) ps)) ≡ 0
partitions_text name [] = refl
partitions_text name (p ∷ ps) = let a = sum_by-cons setting_text (partition_record p) (map walked_record (map (walked name) ps)) in let b = partitions_text name ps in omega (arith, a, b)

topics_text : (ps : List ((ℕ × ℤ) × Partition)) (ts : List (List ℕ × ℕ)) → texts (flat_map (topic_records ps) ts) ≡ 0
topics_text ps [] = refl
topics_text ps (t ∷ ts) =
    let a = sum_by-append setting_text (topic_records ps t) (flat_map (topic_records ps) ts) in
    let b = sum_by-cons setting_text (kinds.Topic t.0 t.1) (map walked_record (walk_topic ps t)) in
    let c = partitions_text t.0 (of_topic t.1 ps) in
    let d = topics_text ps ts in
    omega (arith, a, b, c, d)

configs_text : (es : List (ConfigKey × List ℕ)) → texts (map config_record es) ≡ config_text es
configs_text [] = refl
configs_text (e ∷ es) =
    let a = sum_by-cons (λ (c : ConfigKey × List ℕ). length c.0.name + length c.0.key + length c.1) e es in
    let b = sum_by-cons setting_text (config_record e) (map config_record es) in
    let c = configs_text es in
    omega (arith, a, b, c)

-- ---- the image

module _ (image : Image) (valid : IsValid image) where
  abbrev pub features : List Record
  features = map feature_record image.features

  abbrev pub brokers : List Record
  brokers = map broker_record image.brokers

  abbrev pub topics : List Record
  topics = flat_map (topic_records image.partitions) image.topics

  abbrev pub configs : List Record
  configs = map config_record image.configs

  pub own_light : All IsLight (records_of image)
  unfolding records_of
  own_light =
      let f = features_light image.features (recursion_from_All (λ e. IsTrue (nat_le (length e.0) LONGEST_FEATURE)) image.features valid.features.short) in
      let b = brokers_light image.brokers (recursion_from_All (λ e. IsTrue (is_small_registration e.1)) image.brokers valid.brokers.small) in
      let formed = recursion_from_All (λ (e : (ℕ × ℤ) × Partition). IsTrue (is_well_formed e.1)) image.partitions valid.partitions.well_formed in
      let t = topics_light image.partitions image.topics formed (recursion_from_All (λ e. IsTrue (is_topic_name e.0)) image.topics valid.topics.names) in
      let c = configs_light image.configs valid.configs.little in
      All-from_recursion IsLight (features ++ brokers ++ topics ++ configs)
      (all_append IsLight (features ++ brokers ++ topics) configs (all_append IsLight (features ++ brokers) topics (all_append IsLight features brokers f b) t) c)

  pub own_text : texts (records_of image) ≤ MOST_CONFIG_TEXT
  unfolding records_of
  own_text =
      let a = sum_by-append setting_text (features ++ brokers ++ topics) configs in
      let b = sum_by-append setting_text (features ++ brokers) topics in
      let c = sum_by-append setting_text features brokers in
      let d = features_text image.features in
      let e = brokers_text image.brokers in
      let f = topics_text image.partitions image.topics in
      let g = configs_text image.configs in
      let little = valid.configs.little in
      omega (arith, a, b, c, d, e, f, g, little)

  pub in_sections : records_of image ≡ features ++ (brokers ++ (topics ++ configs))
  unfolding records_of
  in_sections = append_assoc (features ++ brokers) topics configs ∙ append_assoc features brokers (topics ++ configs)

-- all of them may be added to a new writer
pub may_begin : (image : Image) (w : BatchWriter) → IsValid image → Stands w [] → MayAdd w (records_of image)
may_begin image w valid stands = record { done = []; stands = stands; light = own_light image valid; little = (let own = own_text image valid in omega (arith, own)) }
