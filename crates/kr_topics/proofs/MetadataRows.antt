-- What is shown: brokers, topics and partitions, as a walk gathers them, and topics that are named one after the other.
use Rattle.std.proofs.Common.{◌≡◌, ◌∙◌, ◌<◌, ◌+◌, ℕ, ℤ, Bool, true, false, cond, List, [], ◌∷◌, ◌++◌, length, get_or, drop, refl, sym, ap, append_assoc, arith}
use Rattle.std.specs.Prelude.{not, ◌==◌, ◌||◌, Ok, Err, map, if◌then◌else◌}
use Rattle.std.specs.BTreeSet.{BTreeSet, contains, Updates}
use Rattle.std.specs.List.{flat_map, list_any}
use Rattle.std.specs.Ordering.{is_eq, nat_cmp}
use Rattle.std.proofs.lemmas.Bool.Decides.{nat_tests}
use Rattle.std.proofs.lemmas.List.Concat.{flat_map_single}
use Rattle.kr_defs.specs.declared.broker.Broker.{Broker}
use Rattle.kr_defs.specs.declared.partition.Partition.{Partition}
use Rattle.kr_defs.specs.Guard.{and_then}
use Rattle.kr_defs.specs.Image.{Image}
use Rattle.kr_calls.specs.declared.errors.TheConstants.{INVALID_REQUEST}
use Rattle.kr_calls.specs.declared.metadata.MetadataBroker.{MetadataBroker}
use Rattle.kr_calls.specs.declared.metadata.MetadataPartition.{MetadataPartition}
use Rattle.kr_calls.specs.declared.metadata.MetadataRequestTopic.{MetadataRequestTopic}
use Rattle.kr_calls.specs.declared.metadata.MetadataTopic.{MetadataTopic}
use Rattle.kr_calls.specs.Metadata.{broker_of, brokers_of, is_online, topic_asked_for, new_to, partition_metadata, refused, seen_with, shown, topic_metadata, topics_named}
use Rattle.kr_defs.proofs.Tests.{not_false, not_true}
use Rattle.kr_listing.proofs.Parts.{given_parts}
use Rattle.kr_rules.proofs.SingleEntries.{here_of}
use Rattle.kr_topics.specs.inner.NamedTopics.{Marks}

-- ---- what was named so far

id_is : (id q : ℕ) → is_eq (nat_cmp id q) ≡ (id == q)
id_is id q = grind (arith, nat_tests)

or_is : (a b : Bool) → cond a true b ≡ (a || b)
or_is true b = refl
or_is false b = refl

pub first-time : (seen : BTreeSet ℕ) (id : ℕ) (ids : List ℕ) (added : Bool) → Marks seen ids → added ≡ not (contains nat_cmp seen id) → added ≡ not (list_any (λ i. i == id) ids)
first-time seen id ids added marks is = is ∙ ap not (marks id)

pub marked : (seen seen' : BTreeSet ℕ) (id : ℕ) (ids : List ℕ) → Marks seen ids → Updates nat_cmp seen seen' id true → Marks seen' (id ∷ ids)
marked seen seen' id ids marks updates q =
    updates.0 q ∙ (ap (λ (b : Bool). cond b true (contains nat_cmp seen q)) (id_is id q) ∙ (ap (λ (b : Bool). cond (id == q) true b) (marks q) ∙ or_is (id == q) (list_any (λ i. i == q) ids)))

pub ruleset marking = (first-time, marked)

module _ (image : Image) (entry : MetadataRequestTopic) (ids : List ℕ) (topic : List ℕ × ℕ) where
  pub row-first : topic_asked_for image entry ≡ Ok topic → true ≡ not (list_any (λ i. i == topic.1) ids) → topic_metadata image topic ≡ shown image entry (and_then (topic_asked_for image entry) (new_to ids))
  row-first is new = rw (is, not_true (list_any (λ i. i == topic.1) ids) (sym new)) refl

  pub row-again : topic_asked_for image entry ≡ Ok topic → false ≡ not (list_any (λ i. i == topic.1) ids) → refused INVALID_REQUEST entry ≡ shown image entry (and_then (topic_asked_for image entry) (new_to ids))
  row-again is old = rw (is, not_false (list_any (λ i. i == topic.1) ids) (sym old)) refl

pub row-refused : (image : Image) (entry : MetadataRequestTopic) (ids : List ℕ) (error : ℤ) → topic_asked_for image entry ≡ Err error → refused error entry ≡ shown image entry (and_then (topic_asked_for image entry) (new_to ids))
row-refused image entry ids error is = rw is refl

module _ (image : Image) (entry : MetadataRequestTopic) (ids : List ℕ) (seen : BTreeSet ℕ) where
  pub seen-more : (topic : List ℕ × ℕ) → topic_asked_for image entry ≡ Ok topic → Marks seen (topic.1 ∷ ids) → Marks seen (seen_with ids (topic_asked_for image entry))
  seen-more topic is marks = rw is marks

  pub seen-same : (error : ℤ) → topic_asked_for image entry ≡ Err error → Marks seen ids → Marks seen (seen_with ids (topic_asked_for image entry))
  seen-same error is marks = rw is marks

pub ruleset entries = (row-refused, seen-more, seen-same)

-- ---- what a walk gathers

module _ (image : Image) where
  pub brokers : (rows : List MetadataBroker) → rows ≡ flat_map (λ (e : ℤ × Broker). if is_online e.1 then broker_of e ∷ [] else []) image.brokers → rows ≡ brokers_of image
  brokers rows is = is ∙ given_parts (λ (e : ℤ × Broker). is_online e.1) broker_of image.brokers

  pub partitions : (rows : List MetadataPartition) (es : List ((ℕ × ℤ) × Partition)) → rows ≡ flat_map (λ (e : (ℕ × ℤ) × Partition). partition_metadata image e ∷ []) es → rows ≡ map (partition_metadata image) es
  partitions rows es is = is ∙ flat_map_single (partition_metadata image) es

  pub topics : (rows : List MetadataTopic) → rows ≡ flat_map (λ (t : List ℕ × ℕ). topic_metadata image t ∷ []) image.topics → rows ≡ map (topic_metadata image) image.topics
  topics rows is = is ∙ flat_map_single (topic_metadata image) image.topics

  -- what was named so far, and what is left to show
  pub record Shows (seen : BTreeSet ℕ) (rows : List MetadataTopic) (left : List MetadataRequestTopic) (all : List MetadataTopic) : Type 0 where
    pub ids : List ℕ
    pub marks : Marks seen ids
    pub told : rows ++ topics_named image ids left ≡ all

  -- one entry more
  pub shown_at : (seen seen' : BTreeSet ℕ) (rows rows' : List MetadataTopic) (asked : List MetadataRequestTopic) (i : ℕ) (entry : MetadataRequestTopic) (row : MetadataTopic) (all : List MetadataTopic) → i < length asked → entry ≡ get_or asked i entry → rows' ≡ rows ++ row ∷ []
      → ((ids : List ℕ) → Marks seen ids → row ≡ shown image entry (and_then (topic_asked_for image entry) (new_to ids)))
      → ((ids : List ℕ) → Marks seen ids → Marks seen' (seen_with ids (topic_asked_for image entry)))
      → Shows seen rows (drop i asked) all → Shows seen' rows' (drop (i + 1) asked) all
  shown_at seen seen' rows rows' asked i entry row all lt here is_rows is_row is_seen so_far =
      let rest : List MetadataRequestTopic = drop (i + 1) asked in
      let ids : List ℕ = so_far.ids in
      let told : rows ++ topics_named image ids (entry ∷ rest) ≡ all = ap (λ left. rows ++ topics_named image ids left) (sym (here_of asked i entry lt here)) ∙ so_far.told in
      rw is_rows (record {
        ids = seen_with ids (topic_asked_for image entry);
        marks = is_seen ids so_far.marks;
        told = append_assoc rows (row ∷ []) (topics_named image (seen_with ids (topic_asked_for image entry)) rest) ∙ ap (λ r. rows ++ r ∷ topics_named image (seen_with ids (topic_asked_for image entry)) rest) (is_row ids so_far.marks) ∙ told;
      })

  pub none_shown : (seen : BTreeSet ℕ) (asked : List MetadataRequestTopic) → Marks seen [] → Shows seen [] asked (topics_named image [] asked)
  none_shown seen asked marks = record { ids = []; marks = marks; told = refl }

  pub all_shown : (seen : BTreeSet ℕ) (rows all : List MetadataTopic) → Shows seen rows [] all → rows ++ [] ≡ all
  all_shown seen rows all so_far = so_far.told
