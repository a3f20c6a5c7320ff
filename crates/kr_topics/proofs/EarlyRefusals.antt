-- What is refused early for want of room would be refused by Apply.
use Rattle.std.proofs.Common.{◌≡◌, ◌∙◌, ◌<◌, ◌+◌, ◌-◌, ℕ, suc, ℤ, pos, Bool, true, false, cond, not, List, [], ◌∷◌, ◌++◌, length, refl, sym, ap, subst, arith}
use Rattle.std.specs.Prelude.{Option, Some, None, Result, Ok, Err, IsErr, filter, map, nat_le, nat_lt, int_le, is_some, unsigned_abs, unwrap_or, bytes_eq, ◌==◌, ◌||◌}
use Rattle.std.specs.Option.{option_map_or}
use Rattle.std.specs.declared.cmp.Ordering.{Ordering}
use Rattle.std.specs.declared.cmp.Ordering.TheVariants.{Less, Equal, Greater}
use Rattle.std.specs.Ordering.{is_eq, match_ordering}
use Rattle.std.specs.BTreeMap.{insert_entry}
use Rattle.std.specs.List.{list_any}
use Rattle.std.proofs.lemmas.Bool.Decides.{nat_tests}
use Rattle.std.proofs.lemmas.List.{length-map}
use Rattle.kr_defs.specs.declared.broker.Broker.{Broker}
use Rattle.kr_defs.specs.declared.ill.Ill.{Ill}
use Rattle.kr_defs.specs.declared.ill.Ill.TheVariants as causes
use Rattle.kr_defs.specs.declared.limits.TheConstants.{MOST_CONFIG_TEXT, MOST_PARTITIONS, MOST_TOPICS}
use Rattle.kr_defs.specs.declared.options.Options.{Options}
use Rattle.kr_defs.specs.declared.partition.Partition.{Partition}
use Rattle.kr_defs.specs.declared.record.ConfigKey.{ConfigKey}
use Rattle.kr_defs.specs.declared.record.Record.{Record}
use Rattle.kr_defs.specs.declared.record.Record.TheVariants as kinds
use Rattle.kr_defs.specs.Apply.{apply_record, topic_kind}
use Rattle.kr_defs.specs.Brokers.{active, is_active}
use Rattle.kr_defs.specs.Guard.{and_then, found}
use Rattle.kr_defs.specs.Image.{Image, config_text, has_topic, is_index}
use Rattle.kr_defs.specs.Ids.{within}
use Rattle.kr_defs.specs.Map.{get, insert, contains, partition_order, text_order, config_order}
use Rattle.kr_defs.specs.NewPartition.{new_partition}
use Rattle.kr_defs.specs.Partition.{is_well_formed, target}
use Rattle.kr_defs.specs.Placed.{placed}
use Rattle.kr_defs.specs.Texts.{is_topic_name, names_agree}
use Rattle.kr_defs.specs.Topics.{count_of}
use Rattle.kr_defs.proofs.Tests.{Gives, gives_refuse, gives_done, gives_then}
use Rattle.kr_calls.specs.declared.errors.TheConstants.{INVALID_CONFIG, INVALID_PARTITIONS, INVALID_REPLICATION_FACTOR, INVALID_REPLICA_ASSIGNMENT, INVALID_TOPIC_EXCEPTION, TOPIC_ALREADY_EXISTS, UNKNOWN_TOPIC_OR_PARTITION}
use Rattle.kr_calls.specs.declared.deciding.Draft.{Draft}
use Rattle.kr_calls.specs.declared.create_topics.CreatableTopic.{CreatableTopic}
use Rattle.kr_calls.specs.declared.create_topics.CreatableTopicConfig.{CreatableTopicConfig}
use Rattle.kr_calls.specs.declared.create_partitions.CreatePartitionsAssignment.{CreatePartitionsAssignment}
use Rattle.kr_calls.specs.declared.create_partitions.CreatePartitionsTopic.{CreatePartitionsTopic}
use Rattle.kr_calls.specs.CreatePartitions as create_partitions
use Rattle.kr_calls.specs.CreateTopics as create_topics
use Rattle.kr_calls.specs.CreateTopics.{Layout}
use Rattle.kr_calls.specs.Deciding.{Work, apply_records, is_within_limits, work_with, taken, done, one, after_all, answers, over_a_limit}
use Rattle.kr_calls.specs.NewPartitions.{new_partitions, placements, racked}
use Rattle.kr_calls.specs.Refuse.{refused_create_topics, refused_create_partitions}
use Rattle.kr_calls.proofs.BrokersLeft.{AreBrokerless, all_leave, creates, grows}
use Rattle.kr_calls.proofs.KeptByRequests.{Keeps, one_keeps}
use Rattle.kr_calls.proofs.DecisionMeanings.{applied_in_two}
use Rattle.kr_place.specs.Placing.{Grouped, grouped}
use Rattle.kr_topics.specs.inner.EntryRules as room
use Rattle.kr_topics.specs.inner.EntryRules.{has_room}

-- ---- Apply adds one partition at a time

module _ {K V : Type 0} (R : K → K → Ordering) where
  -- a new key is one more
  length-new : (es : List (K × V)) (k : K) (v : V) → is_some (get R es k) ≡ false → length (insert R es k v) ≡ length es + 1
  length-new [] k v new = refl
  length-new (e ∷ es) k v new =
      elim (R k e.0) as (λ r. is_some (cond (is_eq r) (Some e.1) (get R es k)) ≡ false → length (match_ordering r ((k, v) ∷ e ∷ es) ((e.0, v) ∷ es) (e ∷ insert_entry R es k v)) ≡ length (e ∷ es) + 1) [
        | Less ↦ λ new. omega arith
        | Equal ↦ λ new. absurd cc
        | Greater ↦ λ new. let rest = length-new es k v new in omega (arith, rest)
      ] new

-- the partitions after a partition was added
record OneMore (image after : Image) : Type 0 where
  pub more : length after.partitions ≡ length image.partitions + 1
  pub room : length image.partitions < MOST_PARTITIONS

one_more : (image : Image) (index : ℤ) (topic : ℕ) (state : Partition) → Gives (OneMore image) (apply_record image (kinds.Partition index topic state))
unfolding apply_record
one_more image index topic state =
    gives_refuse (OneMore image) causes.NoTopic (not (has_topic image.topics topic)) _ (λ _.
    gives_refuse (OneMore image) causes.BadNumber (not (is_index index)) _ (λ _.
    gives_refuse (OneMore image) causes.PartitionExists (contains partition_order image.partitions (topic, index)) _ (λ new.
    gives_refuse (OneMore image) causes.BadPartition (not (is_well_formed state)) _ (λ _.
    gives_refuse (OneMore image) causes.Limit (nat_le MOST_PARTITIONS (length image.partitions)) _ (λ below.
    gives_done (OneMore image) (record image { partitions = insert partition_order image.partitions (topic, index) state }) (record {
      more = length-new partition_order image.partitions (topic, index) state new;
      room = grind (arith, nat_tests, below);
    }))))))

-- ---- records that Apply refuses

err_then : (r : Result Image Ill) (next : Image → Result Image Ill) → ((after : Image) → r ≡ Ok after → IsErr (next after)) → IsErr (and_then r next)
err_then (Ok after) next step = step after refl
err_then (Err cause) next step = refl

module _ (base : Image) (id : ℕ) where
  -- of more partitions than there is room for one is refused
  crowded : (image : Image) (first : ℕ) (lists : List (List ℤ)) → MOST_PARTITIONS - length image.partitions < length lists → IsErr (apply_records image (new_partitions base id first lists))
  crowded image first [] more = absurd (omega arith)
  crowded image first (ids ∷ lists) more =
      err_then (apply_record image (kinds.Partition (pos first) id (new_partition ids (within ids (active base))))) (λ after. apply_records after (new_partitions base id (suc first) lists)) (λ after is.
      let one = one_more image (pos first) id (new_partition ids (within ids (active base))) after is in
      crowded after (suc first) lists (omega (arith, one.more, one.room, more)))

-- the partitions are as they were
abbrev KeepsPartitions : Image → Image → Type 0
KeepsPartitions image after = after.partitions ≡ image.partitions

topic_keeps : (image : Image) (name : List ℕ) (id : ℕ) → Gives (KeepsPartitions image) (apply_record image (kinds.Topic name id))
unfolding apply_record
topic_keeps image name id =
    gives_refuse (KeepsPartitions image) causes.BadName (not (is_topic_name name)) _ (λ _.
    gives_refuse (KeepsPartitions image) causes.TopicExists (contains text_order image.topics name || has_topic image.topics id || id == 0) _ (λ _.
    gives_refuse (KeepsPartitions image) causes.Limit (nat_le MOST_TOPICS (length image.topics)) _ (λ _.
    gives_done (KeepsPartitions image) (record image { topics = insert text_order image.topics name id }) refl)))

setting_keeps : (image : Image) (kind : ℤ) (name key value : List ℕ) → Gives (KeepsPartitions image) (apply_record image (kinds.Config kind name key (Some value)))
unfolding apply_record
setting_keeps image kind name key value =
    gives_refuse (KeepsPartitions image) causes.Limit (nat_lt MOST_CONFIG_TEXT (config_text (insert config_order image.configs (record { kind = kind; name = name; key = key }) value))) _ (λ _.
    gives_done (KeepsPartitions image) (record image { configs = insert config_order image.configs (record { kind = kind; name = name; key = key }) value }) refl)

-- a record that keeps the partitions, and records that do
keeps_then : (image : Image) (r : Record) (records : List Record) → Gives (KeepsPartitions image) (apply_record image r) → ((after : Image) → Gives (KeepsPartitions after) (apply_records after records)) → Gives (KeepsPartitions image) (apply_records image (r ∷ records))
keeps_then image r records first rest =
    gives_then (KeepsPartitions image) (KeepsPartitions image) (apply_record image r) (λ after. apply_records after records) first (λ after same end is. rest after end is ∙ same)

settings_keep : (image : Image) (configs : List (ConfigKey × List ℕ)) (topic : List ℕ) (settings : List CreatableTopicConfig) → Gives (KeepsPartitions image) (apply_records image (create_topics.settings_records configs topic settings))
settings_keep image configs topic [] = gives_done (KeepsPartitions image) image refl
settings_keep image configs topic (s ∷ ss) =
    let key : ConfigKey = record { kind = topic_kind; name = topic; key = s.name } in
    let value : List ℕ = unwrap_or s.value [] in
    let others : List Record = create_topics.settings_records (insert config_order configs key value) topic ss in
    elim (option_map_or (bytes_eq value) (get config_order configs key) false) as (λ b. Gives (KeepsPartitions image) (apply_records image (cond b (create_topics.settings_records configs topic ss) (kinds.Config topic_kind topic s.name (Some value) ∷ others)))) [
      | true ↦ settings_keep image configs topic ss
      | false ↦ keeps_then image (kinds.Config topic_kind topic s.name (Some value)) others (setting_keeps image topic_kind topic s.name value) (λ after. settings_keep after (insert config_order configs key value) topic ss)
    ]

-- the same behind records that keep the partitions
crowded_behind : (image : Image) (before : List Record) (id : ℕ) (lists : List (List ℤ)) → Gives (KeepsPartitions image) (apply_records image before) → MOST_PARTITIONS - length image.partitions < length lists → IsErr (apply_records image (before ++ new_partitions image id 0 lists))
crowded_behind image before id lists keeps more =
    subst (λ (r : Result Image Ill). IsErr r) (sym (applied_in_two image before (new_partitions image id 0 lists))) (err_then (apply_records image before) (λ after. apply_records after (new_partitions image id 0 lists)) (λ after is.
    crowded image id after 0 lists (subst (λ ps. MOST_PARTITIONS - length ps < length lists) (sym (keeps after is)) more)))

no_room : (image : Image) (count : ℕ) → has_room image count ≡ false → MOST_PARTITIONS - length image.partitions < count
no_room image count lacks = grind (arith, nat_tests, lacks)

-- ---- an entry by either rule

not_taken : (w : Work) (records : List Record) → IsErr (apply_records w.image records) → taken w records ≡ None
unfolding taken
not_taken w records e =
    elim (apply_records w.image records) as (λ r. IsErr r → cond (is_within_limits w.records records) (work_with w records r) None ≡ None) [
      | Ok after ↦ λ e. absurd cc
      | Err cause ↦ λ e. elim (is_within_limits w.records records) as (λ b. cond b (work_with w records (Err cause)) None ≡ None) [ true ↦ refl | false ↦ refl ]
    ] e

module _ {E A : Type 0} (refused : ℤ → E → A) (w : Work) (entry : E) where
  under_refusal : (error : ℤ) (test : Bool) (r s : Result (Draft A) ℤ) → done refused w entry r ≡ done refused w entry s → done refused w entry (cond test (Err error) r) ≡ done refused w entry (cond test (Err error) s)
  under_refusal error true r s same = refl
  under_refusal error false r s same = same

  under_then : {X : Type 0} (x : Result X ℤ) (f g : X → Result (Draft A) ℤ) → ((v : X) → done refused w entry (f v) ≡ done refused w entry (g v)) → done refused w entry (and_then x f) ≡ done refused w entry (and_then x g)
  under_then (Ok v) f g same = same v
  under_then (Err e) f g same = refl

  under_found : {V : Type 0} (error : ℤ) (o : Option V) (f g : V → Result (Draft A) ℤ) → ((v : V) → done refused w entry (f v) ≡ done refused w entry (g v)) → done refused w entry (found error o f) ≡ done refused w entry (found error o g)
  under_found error None f g same = refl
  under_found error (Some v) f g same = same v

  -- what isn't taken may be refused early
  early : (draft : Draft A) (fits : Bool) → (fits ≡ false → taken w draft.records ≡ None) → done refused w entry (cond (not fits) (Err over_a_limit) (Ok draft)) ≡ done refused w entry (Ok draft)
  unfolding done
  early draft true none = refl
  early draft false none = rw (none refl) refl

-- ---- brokers that are grouped

count_is : (image : Image) → length (racked image) ≡ length (active image)
count_is image =
    length-map (filter (λ (e : ℤ × Broker). is_active e.1) image.brokers) (λ (e : ℤ × Broker). (e.0, e.1.rack)) ∙ sym (length-map (filter (λ (e : ℤ × Broker). is_active e.1) image.brokers) (λ (e : ℤ × Broker). e.0))

same_replicas : (image : Image) (place : ℤ) (first count size : ℕ) (assignments : Option (List CreatePartitionsAssignment)) → room.new_replicas_among (grouped (racked image)) image place first count size assignments ≡ create_partitions.new_replicas image place first count size assignments
unfolding placed
same_replicas image place first count size (Some assignments) = refl
same_replicas image place first count size None = ap (λ n. cond (nat_lt n size) (Err INVALID_REPLICATION_FACTOR) (Ok (placements image place first count size))) (count_is image)

same_layout : (options : Options) (image : Image) (place : ℤ) (entry : CreatableTopic) → room.layout_among (grouped (racked image)) options image place entry ≡ create_topics.layout options image place entry
unfolding placed
same_layout options image place entry = rw (count_is image) refl

-- the brokers of an image are grouped
abbrev IsOf : Grouped → Image → Type 0
IsOf those image = those ≡ grouped (racked image)

create_partitions_alike : (those : Grouped) (w : Work) (entry : CreatePartitionsTopic) → IsOf those w.image → one refused_create_partitions (room.create_partitions_by_racks those) w entry ≡ one refused_create_partitions create_partitions.rule w entry
create_partitions_alike those w entry is =
    ap (λ (t : Grouped). one refused_create_partitions (room.create_partitions_by_racks t) w entry) is ∙ under_found refused_create_partitions w entry UNKNOWN_TOPIC_OR_PARTITION (get text_order w.image.topics entry.name) _ _ (λ id.
    let first : ℕ = count_of w.image id in
    under_refusal refused_create_partitions w entry INVALID_PARTITIONS (int_le entry.count (pos first)) _ _ (
    under_found refused_create_partitions w entry INVALID_REPLICA_ASSIGNMENT (get partition_order w.image.partitions (id, pos 0)) _ _ (λ p.
    let lists_of : Result (List (List ℤ)) ℤ = create_partitions.new_replicas w.image w.place first (unsigned_abs entry.count - first) (length (target p)) entry.assignments in
    ap (λ (x : Result (List (List ℤ)) ℤ). done refused_create_partitions w entry (and_then x (λ lists. cond (not (has_room w.image (length lists))) (Err over_a_limit) (Ok (create_partitions.grown w.image id first entry lists))))) (same_replicas w.image w.place first (unsigned_abs entry.count - first) (length (target p)) entry.assignments)
    ∙ under_then refused_create_partitions w entry lists_of _ _ (λ lists.
    early refused_create_partitions w entry (create_partitions.grown w.image id first entry lists) (has_room w.image (length lists)) (λ lacks. not_taken w _ (crowded w.image id w.image first lists (no_room w.image (length lists) lacks)))))))

create_topics_alike : (those : Grouped) (options : Options) (validate_only : Bool) (w : Work) (entry : CreatableTopic) → IsOf those w.image → one refused_create_topics (room.create_topics_by_racks those options validate_only) w entry ≡ one refused_create_topics (create_topics.rule options validate_only) w entry
create_topics_alike those options validate_only w entry is =
    ap (λ (t : Grouped). one refused_create_topics (room.create_topics_by_racks t options validate_only) w entry) is ∙ under_refusal refused_create_topics w entry INVALID_TOPIC_EXCEPTION (not (is_topic_name entry.name)) _ _ (
    under_refusal refused_create_topics w entry TOPIC_ALREADY_EXISTS (contains text_order w.image.topics entry.name) _ _ (
    under_refusal refused_create_topics w entry INVALID_TOPIC_EXCEPTION (list_any (λ topic. names_agree topic.0 entry.name) w.image.topics) _ _ (
    ap (λ (x : Result Layout ℤ). done refused_create_topics w entry (and_then x (room.of_layout_with_room options validate_only w.image w.place entry))) (same_layout options w.image w.place entry)
    ∙ under_then refused_create_topics w entry (create_topics.layout options w.image w.place entry) _ _ (λ layout.
    under_refusal refused_create_topics w entry INVALID_CONFIG (list_any create_topics.is_bad_setting entry.configs) _ _ (
    let id : ℕ = create_topics.new_id options w.image w.place in
    let before : List Record = kinds.Topic entry.name id ∷ create_topics.settings_records w.image.configs entry.name entry.configs in
    early refused_create_topics w entry (create_topics.created w.image validate_only id entry layout) (has_room w.image (length layout.replicas)) (λ lacks. not_taken w _ (crowded_behind w.image before id layout.replicas
    (keeps_then w.image (kinds.Topic entry.name id) _ (topic_keeps w.image entry.name id) (λ after. settings_keep after w.image.configs entry.name entry.configs)) (no_room w.image (length layout.replicas) lacks))))))))

-- ---- all entries

-- a rule on grouped brokers, and one that says the same and leaves the brokers
module _ {E A : Type 0} (refused : ℤ → E → A) (rule other : Image → ℤ → E → Result (Draft A) ℤ) (those : Grouped) (alike : (w : Work) (entry : E) → IsOf those w.image → one refused rule w entry ≡ one refused other w entry) (are : AreBrokerless other) where
  keeps : Keeps refused other (λ w. IsOf those w.image) (λ _. Unit {0})
  keeps w entry is so_far draft gives after by = so_far ∙ ap (λ (bs : List (ℤ × Broker)). grouped (map (λ (e : ℤ × Broker). (e.0, e.1.rack)) (filter (λ (e : ℤ × Broker). is_active e.1) bs))) (sym (all_leave w.image draft.records (are w.image w.place entry draft gives) after.image by.applied))

  stays : (w : Work) (entry : E) → IsOf those w.image → IsOf those (one refused other w entry).0.image
  stays w entry is = one_keeps refused other (λ w. IsOf those w.image) (λ _. Unit {0}) keeps w entry tt is

  all_alike : (w : Work) (entries : List E) → IsOf those w.image → after_all refused rule w entries ≡ after_all refused other w entries
  all_alike w [] is = refl
  all_alike w (entry ∷ entries) is = ap (λ (p : Work × A). after_all refused rule p.0 entries) (alike w entry is) ∙ all_alike (one refused other w entry).0 entries (stays w entry is)

  answers_alike : (w : Work) (entries : List E) → IsOf those w.image → answers refused rule w entries ≡ answers refused other w entries
  answers_alike w [] is = refl
  answers_alike w (entry ∷ entries) is =
      ap (λ (p : Work × A). p.1 ∷ answers refused rule p.0 entries) (alike w entry is) ∙ ap (λ more. (one refused other w entry).1 ∷ more) (answers_alike (one refused other w entry).0 entries (stays w entry is))

pub create_partitions_after : (those : Grouped) (w : Work) (entries : List CreatePartitionsTopic) → those ≡ grouped (racked w.image) → after_all refused_create_partitions (room.create_partitions_by_racks those) w entries ≡ after_all refused_create_partitions create_partitions.rule w entries
create_partitions_after those w entries is = all_alike refused_create_partitions (room.create_partitions_by_racks those) create_partitions.rule those (create_partitions_alike those) grows w entries is

pub create_partitions_answers : (those : Grouped) (w : Work) (entries : List CreatePartitionsTopic) → those ≡ grouped (racked w.image) → answers refused_create_partitions (room.create_partitions_by_racks those) w entries ≡ answers refused_create_partitions create_partitions.rule w entries
create_partitions_answers those w entries is = answers_alike refused_create_partitions (room.create_partitions_by_racks those) create_partitions.rule those (create_partitions_alike those) grows w entries is

pub create_topics_after : (those : Grouped) (options : Options) (validate_only : Bool) (w : Work) (entries : List CreatableTopic) → those ≡ grouped (racked w.image) → after_all refused_create_topics (room.create_topics_by_racks those options validate_only) w entries ≡ after_all refused_create_topics (create_topics.rule options validate_only) w entries
create_topics_after those options validate_only w entries is = all_alike refused_create_topics (room.create_topics_by_racks those options validate_only) (create_topics.rule options validate_only) those (create_topics_alike those options validate_only) (creates options validate_only) w entries is

pub create_topics_answers : (those : Grouped) (options : Options) (validate_only : Bool) (w : Work) (entries : List CreatableTopic) → those ≡ grouped (racked w.image) → answers refused_create_topics (room.create_topics_by_racks those options validate_only) w entries ≡ answers refused_create_topics (create_topics.rule options validate_only) w entries
create_topics_answers those options validate_only w entries is = answers_alike refused_create_topics (room.create_topics_by_racks those options validate_only) (create_topics.rule options validate_only) those (create_topics_alike those options validate_only) (creates options validate_only) w entries is
