-- What single records tell of an image.
use Rattle.std.proofs.Common.{◌+◌, append_assoc, drop, get_or, ◌≡◌, ◌∙◌, ℕ, ℤ, Bool, true, false, cond, List, [], ◌∷◌, ◌++◌, filter, length, length-append, map, take, refl, sym, ap, arith, ◌<◌, ◌≤◌}
use Rattle.std.specs.Prelude.{◌==◌, ◌↔◌, IsSome, option_to_list, IsTrue, flat_map, not, int_lt, Option, Some, None, slice_get}
use Rattle.std.specs.declared.cmp.Ordering.TheVariants.{Less, Equal, Greater}
use Rattle.std.specs.List.{AllByRecursion}
use Rattle.std.specs.Option.{option_map, option_map_or}
use Rattle.std.specs.Ordering.{int_cmp, is_lt}
use Rattle.std.proofs.lemmas.List.{at_drop_more}
use Rattle.std.proofs.lemmas.List.Elements.{recursion_from_All}
use Rattle.kr_defs.specs.declared.broker.Broker.{Broker}
use Rattle.kr_defs.specs.declared.limits.TheConstants.{LAST_INDEX}
use Rattle.kr_defs.specs.declared.partition.Partition.{Partition}
use Rattle.kr_defs.specs.declared.record.ConfigKey.{ConfigKey}
use Rattle.kr_defs.specs.declared.record.Record.{Record}
use Rattle.kr_defs.specs.declared.record.Record.TheVariants as kinds
use Rattle.kr_defs.specs.Image.{Image, IsValid, is_index}
use Rattle.kr_defs.specs.Map.{above, get, partition_order, text_order}
use Rattle.kr_defs.specs.Partition.{is_natural}
use Rattle.kr_defs.specs.Records.{partition_record}
use Rattle.kr_defs.specs.Walk.{of_topic, rest_of_topic, walked}
use Rattle.kr_defs.proofs.Tests.{both, not_true}
use Rattle.kr_calls.specs.Metadata.{is_offline}
use Rattle.kr_view.specs.declared.record_key.RecordKey.{RecordKey}
use Rattle.kr_view.specs.declared.record_key.RecordKey.TheVariants as keys
use Rattle.kr_view.specs.Listings.{listed}
use Rattle.kr_view.specs.RecordPages.{record_of_key, record_page}
use Rattle.kr_view.specs.RecordSections.{behind_key, from_settings, record_of_setting, record_of_topic}
use Rattle.kr_view.proofs.Behind.{of_topic_behind, record_page_is}
use Rattle.kr_describe.specs.inner.RecordFields.{id_in, is_offline_in, name_in, partition_in}

abbrev Entry : Type 0
Entry = (ℕ × ℤ) × Partition

first_taken : {X : Type 0} (xs : List X) → slice_get (take 1 xs) 0 ≡ slice_get xs 0
first_taken [] = refl
first_taken (x ∷ xs) = refl

-- at most one is taken out from the end
pub popped : {X : Type 0} (page new : List X) (o : Option X) (n : ℕ) → page ≡ new ++ option_to_list o → (IsSome o ↔ (0 < n)) → n ≡ length page → length page ≤ 1 → o ≡ slice_get page 0
popped [] new None n is some long few = refl
popped [] new (Some y) n is some long few = absurd (let up = some.0 refl in omega (arith, up, long))
popped (x ∷ []) new None n is some long few = let h : false ≡ true = some.1 (omega (arith, long)) in absurd cc
popped (x ∷ []) [] (Some y) n is some long few = ap (λ (rs : List _). slice_get rs 0) (sym is)
popped (x ∷ []) (z ∷ zs) (Some y) n is some long few = absurd (let all = ap (λ (rs : List _). length rs) is in let both = length-append zs (y ∷ []) in omega (arith, all, both))
popped (x ∷ x' ∷ xs) new o n is some long few = absurd (omega (arith, few))

-- the record behind a key is the first of those that stand behind it
next_is : (image : Image) (key : RecordKey) → IsValid image → slice_get (record_page image (Some key) 1) 0 ≡ slice_get (behind_key image key) 0
next_is image key valid = ap (λ (rs : List Record). slice_get rs 0) (sym (record_page_is image 1 (Some key) [] (take 1 (behind_key image key)) valid refl refl)) ∙ first_taken (behind_key image key)

-- ---- by their keys

named_id : (name : List ℕ) (o : Option ℕ) → id_in (option_map (kinds.Topic name) o) ≡ o
named_id name None = refl
named_id name (Some id) = refl

pub topic_found : (image : Image) (name : List ℕ) (one : Option Record) → one ≡ record_of_key image (keys.Topic name) → id_in one ≡ get text_order image.topics name
topic_found image name one is = ap id_in is ∙ named_id name (get text_order image.topics name)

fenced_in : (id : ℤ) (o : Option Broker) → is_offline_in (option_map (kinds.RegisterBroker id) o) ≡ option_map_or (λ state. state.fenced) o true
fenced_in id None = refl
fenced_in id (Some state) = refl

pub broker_found : (image : Image) (id : ℤ) (one : Option Record) → one ≡ record_of_key image (keys.Broker id) → is_offline_in one ≡ is_offline image id
broker_found image id one is = ap is_offline_in is ∙ fenced_in id (get int_cmp image.brokers id)

-- ---- behind a partition's key

module _ (image : Image) where
  abbrev ps : List Entry
  ps = image.partitions

  abbrev topics_behind : List ℕ → List Record
  topics_behind name = flat_map (listed record_of_topic partition_record ps) (above text_order image.topics (Some name)) ++ from_settings image None

  -- settings are no partitions and no topics
  no_partition : (es : List (ConfigKey × List ℕ)) → partition_in (slice_get (map record_of_setting es) 0) ≡ None
  no_partition [] = refl
  no_partition (e ∷ es) = refl

  no_name : (es : List (ConfigKey × List ℕ)) → name_in (slice_get (map record_of_setting es) 0) ≡ None
  no_name [] = refl
  no_name (e ∷ es) = refl

  -- the topics behind begin with a topic
  none_of_topic : (ts : List (List ℕ × ℕ)) → partition_in (slice_get (flat_map (listed record_of_topic partition_record ps) ts ++ from_settings image None) 0) ≡ None
  none_of_topic [] = no_partition image.configs
  none_of_topic (t ∷ ts) = refl

  first_name : (ts : List (List ℕ × ℕ)) → name_in (slice_get (flat_map (listed record_of_topic partition_record ps) ts ++ from_settings image None) 0) ≡ option_map (λ (t : List ℕ × ℕ). t.0) (slice_get ts 0)
  first_name [] = no_name image.configs
  first_name (t ∷ ts) = refl

  first_row : (name : List ℕ) (es : List Entry) → partition_in (slice_get ((map (λ e. partition_record (walked name e)) es ++ flat_map (listed record_of_topic partition_record ps) (above text_order image.topics (Some name))) ++ from_settings image None) 0) ≡ option_map (λ (e : Entry). (e.0.1, e.1)) (slice_get es 0)
  first_row name [] = none_of_topic (above text_order image.topics (Some name))
  first_row name (e ∷ es) = refl

  pub partition_next : (name : List ℕ) (id : ℕ) (index : ℤ) (next : Option Record) → IsValid image → get text_order image.topics name ≡ Some id → next ≡ slice_get (record_page image (Some (keys.Partition name index)) 1) 0
      → partition_in next ≡ option_map (λ (e : Entry). (e.0.1, e.1)) (slice_get (rest_of_topic (id, index) ps) 0)
  partition_next name id index next valid named is =
      ap partition_in (is ∙ next_is image (keys.Partition name index) valid)
      ∙ ap (λ (o : Option ℕ). partition_in (slice_get ((option_map_or (λ (i : ℕ). map (λ (e : Entry). partition_record (walked name e)) (of_topic i (above partition_order ps (Some (i, index))))) o [] ++ flat_map (listed record_of_topic partition_record ps) (above text_order image.topics (Some name))) ++ from_settings image None) 0)) named
      ∙ first_row name (rest_of_topic (id, index) ps)

  -- no partition stands behind the greatest index
  last_one : (n : ℤ) → is_index n ≡ true → is_lt (int_cmp LAST_INDEX n) ≡ false
  last_one n h =
      let within : int_lt LAST_INDEX n ≡ false = not_true (int_lt LAST_INDEX n) (both (is_natural n) (not (int_lt LAST_INDEX n)) h).1 in
      ap (λ b. is_lt (cond b Less (cond (int_lt n LAST_INDEX) Greater Equal))) within
      ∙ elim (int_lt n LAST_INDEX) as (λ b. is_lt (cond b Greater Equal) ≡ false) [ true ↦ refl | false ↦ refl ]

  abbrev is_behind : Entry → Bool
  is_behind e = is_lt (int_cmp LAST_INDEX e.0.1)

  none_left : (id : ℕ) (es : List Entry) → AllByRecursion (λ (e : Entry). IsTrue (is_index e.0.1)) es → filter is_behind (of_topic id es) ≡ []
  none_left id [] a = refl
  none_left id (e ∷ es) a =
      elim (e.0.0 == id) as (λ b. filter is_behind (cond b (e ∷ of_topic id es) (of_topic id es)) ≡ []) [
        | true ↦ ap (λ b. cond b (e ∷ filter is_behind (of_topic id es)) (filter is_behind (of_topic id es))) (last_one e.0.1 a.0) ∙ none_left id es a.1
        | false ↦ none_left id es a.1
      ]

  none_behind : (id : ℕ) → AllByRecursion (λ (e : Entry). IsTrue (is_index e.0.1)) ps → of_topic id (above partition_order ps (Some (id, LAST_INDEX))) ≡ []
  none_behind id indexes = sym (of_topic_behind id LAST_INDEX is_behind (λ e. refl) ps) ∙ none_left id ps indexes

  pub topic_next : (name : List ℕ) (next : Option Record) → IsValid image → next ≡ slice_get (record_page image (Some (keys.Partition name LAST_INDEX)) 1) 0
      → name_in next ≡ option_map (λ (t : List ℕ × ℕ). t.0) (slice_get (above text_order image.topics (Some name)) 0)
  topic_next name next valid is =
      ap name_in (is ∙ next_is image (keys.Partition name LAST_INDEX) valid)
      ∙ elim (get text_order image.topics name) as (λ (o : Option ℕ). name_in (slice_get ((option_map_or (λ (i : ℕ). map (λ (e : Entry). partition_record (walked name e)) (of_topic i (above partition_order ps (Some (i, LAST_INDEX))))) o [] ++ flat_map (listed record_of_topic partition_record ps) (above text_order image.topics (Some name))) ++ from_settings image None) 0) ≡ option_map (λ (t : List ℕ × ℕ). t.0) (slice_get (above text_order image.topics (Some name)) 0)) [
        | None ↦ first_name (above text_order image.topics (Some name))
        | Some id ↦ ap (λ (es : List Entry). name_in (slice_get ((map (λ (e : Entry). partition_record (walked name e)) es ++ flat_map (listed record_of_topic partition_record ps) (above text_order image.topics (Some name))) ++ from_settings image None) 0)) (none_behind id (recursion_from_All (λ (e : Entry). IsTrue (is_index e.0.1)) ps valid.partitions.indexes)) ∙ first_name (above text_order image.topics (Some name))
      ]

-- ---- the offline ones among replicas, of which one more is looked up

pub offline_more : (replicas : List ℤ) (i : ℕ) (d id : ℤ) → i < length replicas → id ≡ get_or replicas i d → (image there : Image) → there ≡ image
    → (found new all : List ℤ) → found ++ filter (is_offline image) (drop i replicas) ≡ all → new ≡ found ++ filter (is_offline there) (id ∷ [])
    → new ++ filter (is_offline image) (drop (i + 1) replicas) ≡ all
offline_more replicas i d id lt item image there same found new all before is =
    let here : List ℤ = filter (is_offline image) (drop (i + 1) replicas) in
    ap (λ (l : List ℤ). l ++ here) (is ∙ ap (λ (m : Image). found ++ filter (is_offline m) (id ∷ [])) same)
    ∙ append_assoc found (filter (is_offline image) (id ∷ [])) here
    ∙ ap (λ (l : List ℤ). found ++ l) (joined (is_offline image id) id here ∙ ap (λ (n : ℤ). filter (is_offline image) (n ∷ drop (i + 1) replicas)) item ∙ sym (at_drop_more (filter (is_offline image)) replicas i d lt))
    ∙ before
  where
    joined : (b : Bool) (n : ℤ) (rest : List ℤ) → cond b (n ∷ []) [] ++ rest ≡ cond b (n ∷ rest) rest
    joined true n rest = refl
    joined false n rest = refl
