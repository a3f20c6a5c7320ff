-- How full an image is behind plain records, and what becomes of one for which there is room or none.
use Rattle.std.proofs.Common.{◌≡◌, ◌∙◌, ◌+◌, ◌-◌, ◌⊎◌, inl, inr, ℕ, ℤ, Bool, true, false, cond, not, List, [], ◌∷◌, length, refl, sym, ap, subst, arith, drop, get_or}
use Rattle.std.specs.Prelude.{◌||◌, ◌==◌, ◌<◌, Option, Some, None, unwrap_or, nat_le, nat_lt, Result, Ok, Err, IsErr}
use Rattle.std.specs.List.{list_all}
use Rattle.std.specs.Ordering.{is_eq}
use Rattle.std.proofs.lemmas.Bool.Decides.{nat_tests}
use Rattle.kr_defs.specs.declared.ill.Ill.{Ill}
use Rattle.kr_defs.specs.declared.ill.Ill.TheVariants as causes
use Rattle.kr_defs.specs.declared.limits.TheConstants.{MOST_CONFIG_TEXT, MOST_PARTITIONS, MOST_TOPICS}
use Rattle.kr_defs.specs.declared.partition.Partition.{Partition}
use Rattle.kr_defs.specs.declared.partition.PartitionChange.{PartitionChange}
use Rattle.kr_defs.specs.declared.record.ConfigKey.{ConfigKey}
use Rattle.kr_defs.specs.declared.record.Record.{Record}
use Rattle.kr_defs.specs.declared.record.Record.TheVariants as kinds
use Rattle.kr_defs.specs.Apply.{apply_record}
use Rattle.kr_defs.specs.Guard.{and_then, found}
use Rattle.kr_defs.specs.Image.{Image, IsValid, config_text, has_topic, is_index}
use Rattle.kr_defs.specs.Map.{IsMap, get, insert, remove, contains, partition_order, text_order, config_order}
use Rattle.kr_defs.specs.Merge.{merged}
use Rattle.kr_defs.specs.Partition.{is_well_formed}
use Rattle.kr_defs.specs.Texts.{is_topic_name}
use Rattle.kr_defs.proofs.EntryCounts.{config_same, length-new, text_gone, text_set}
use Rattle.kr_defs.proofs.ImageParts.{config_total, partition_total}
use Rattle.kr_defs.proofs.Maps.{length-set}
use Rattle.kr_defs.proofs.Tests.{Gives, gives_refuse, gives_found, gives_done, neither, both, some_is}
use Rattle.kr_defs.proofs.Validity.{records}
use Rattle.kr_calls.specs.Deciding.{apply_records}
use Rattle.kr_rules.specs.Room.{Filling, Fills, takes_room, lacks_room, value_text, text_at, filled}
use Rattle.kr_rules.proofs.KeyLookups.{get_inserted, get_removed}
use Rattle.kr_rules.proofs.SingleEntries.{here_of}

-- ---- what a plain record changes

-- so many topics and partitions, and these settings
abbrev Has : ℕ → ℕ → List (ConfigKey × List ℕ) → Image → Type 0
Has topics partitions configs after = (length after.topics ≡ topics) × (length after.partitions ≡ partitions) × (after.configs ≡ configs)

module _ (mid : Image) where
  topic_more : (name : List ℕ) (id : ℕ) → Gives (Has (length mid.topics + 1) (length mid.partitions) mid.configs) (apply_record mid (kinds.Topic name id))
  unfolding apply_record
  topic_more name id =
      let P : Image → Type 0 = Has (length mid.topics + 1) (length mid.partitions) mid.configs in
      gives_refuse P causes.BadName (not (is_topic_name name)) _ (λ _.
      gives_refuse P causes.TopicExists (contains text_order mid.topics name || has_topic mid.topics id || id == 0) _ (λ apart.
      gives_refuse P causes.Limit (nat_le MOST_TOPICS (length mid.topics)) _ (λ _.
      gives_done P (record mid { topics = insert text_order mid.topics name id }) (length-new text_order mid.topics name id (neither (contains text_order mid.topics name) (has_topic mid.topics id) (neither (contains text_order mid.topics name || has_topic mid.topics id) (id == 0) apart).0).0, refl, refl))))

  partition_more : (index : ℤ) (topic : ℕ) (state : Partition) → Gives (Has (length mid.topics) (length mid.partitions + 1) mid.configs) (apply_record mid (kinds.Partition index topic state))
  unfolding apply_record
  partition_more index topic state =
      let P : Image → Type 0 = Has (length mid.topics) (length mid.partitions + 1) mid.configs in
      gives_refuse P causes.NoTopic (not (has_topic mid.topics topic)) _ (λ _.
      gives_refuse P causes.BadNumber (not (is_index index)) _ (λ _.
      gives_refuse P causes.PartitionExists (contains partition_order mid.partitions (topic, index)) _ (λ new.
      gives_refuse P causes.BadPartition (not (is_well_formed state)) _ (λ _.
      gives_refuse P causes.Limit (nat_le MOST_PARTITIONS (length mid.partitions)) _ (λ _.
      gives_done P (record mid { partitions = insert partition_order mid.partitions (topic, index) state }) (refl, length-new partition_order mid.partitions (topic, index) state new, refl))))))

  change_none : IsMap partition_order mid.partitions → (index : ℤ) (topic : ℕ) (change : PartitionChange) → Gives (Has (length mid.topics) (length mid.partitions) mid.configs) (apply_record mid (kinds.PartitionChange index topic change))
  unfolding apply_record
  change_none ordered index topic change =
      let P : Image → Type 0 = Has (length mid.topics) (length mid.partitions) mid.configs in
      gives_refuse P causes.NoTopic (not (has_topic mid.topics topic)) _ (λ _.
      gives_found P causes.NoPartition (get partition_order mid.partitions (topic, index)) _ (λ old there.
      gives_refuse P causes.BadPartition (not (is_well_formed (merged old change))) _ (λ _.
      gives_done P (record mid { partitions = insert partition_order mid.partitions (topic, index) (merged old change) }) (refl, length-set partition_total mid.partitions (topic, index) old (merged old change) ordered there, refl))))

  -- the settings once one takes a value, or goes
  abbrev set_to : ConfigKey → Option (List ℕ) → List (ConfigKey × List ℕ)
  set_to key (Some value) = insert config_order mid.configs key value
  set_to key None = remove config_order mid.configs key

  setting_more : (kind : ℤ) (name key : List ℕ) (value : Option (List ℕ)) → Gives (Has (length mid.topics) (length mid.partitions) (set_to (record { kind = kind; name = name; key = key }) value)) (apply_record mid (kinds.Config kind name key value))
  unfolding apply_record
  setting_more kind name key None =
      let at : ConfigKey = record { kind = kind; name = name; key = key } in
      gives_done (Has (length mid.topics) (length mid.partitions) (remove config_order mid.configs at)) (record mid { configs = remove config_order mid.configs at }) (refl, refl, refl)
  setting_more kind name key (Some value) =
      let at : ConfigKey = record { kind = kind; name = name; key = key } in
      let P : Image → Type 0 = Has (length mid.topics) (length mid.partitions) (insert config_order mid.configs at value) in
      gives_refuse P causes.Limit (nat_lt MOST_CONFIG_TEXT (config_text (insert config_order mid.configs at value))) _ (λ _.
      gives_done P (record mid { configs = insert config_order mid.configs at value }) (refl, refl, refl))

-- ---- whether there is room

topic_room : (a b full : Bool) (x : Image) → full ≡ false → lacks_room (cond a (Err causes.BadName) (cond b (Err causes.TopicExists) (cond full (Err causes.Limit) (Ok x)))) ≡ false
topic_room true b full x room = refl
topic_room false true full x room = refl
topic_room false false true x room = absurd cc
topic_room false false false x room = refl

topic_fails : (a b full : Bool) (x : Image) → full ≡ true → IsErr (cond a (Err causes.BadName) (cond b (Err causes.TopicExists) (cond full (Err causes.Limit) (Ok x))))
topic_fails true b full x lacks = refl
topic_fails false true full x lacks = refl
topic_fails false false true x lacks = refl
topic_fails false false false x lacks = absurd cc

partition_room : (a far c d full : Bool) (x : Image) → far ≡ false → full ≡ false → lacks_room (cond a (Err causes.NoTopic) (cond far (Err causes.BadNumber) (cond c (Err causes.PartitionExists) (cond d (Err causes.BadPartition) (cond full (Err causes.Limit) (Ok x)))))) ≡ false
partition_room true far c d full x near room = refl
partition_room false true c d full x near room = absurd cc
partition_room false false true d full x near room = refl
partition_room false false false true full x near room = refl
partition_room false false false false true x near room = absurd cc
partition_room false false false false false x near room = refl

partition_fails : (a far c d full : Bool) (x : Image) → (far || full) ≡ true → IsErr (cond a (Err causes.NoTopic) (cond far (Err causes.BadNumber) (cond c (Err causes.PartitionExists) (cond d (Err causes.BadPartition) (cond full (Err causes.Limit) (Ok x))))))
partition_fails true far c d full x lacks = refl
partition_fails false true c d full x lacks = refl
partition_fails false false true d full x lacks = refl
partition_fails false false false true full x lacks = refl
partition_fails false false false false true x lacks = refl
partition_fails false false false false false x lacks = absurd cc

change_room : (a : Bool) (o : Option Partition) (bad : Partition → Bool) (after : Partition → Image) → lacks_room (cond a (Err causes.NoTopic) (found causes.NoPartition o (λ old. cond (bad old) (Err causes.BadPartition) (Ok (after old))))) ≡ false
change_room true o bad after = refl
change_room false None bad after = refl
change_room false (Some old) bad after = elim (bad old) as (λ b. lacks_room (cond b (Err causes.BadPartition) (Ok (after old))) ≡ false) [ true ↦ refl | false ↦ refl ]

module _ (mid : Image) where
  topic_roomy : (name : List ℕ) (id : ℕ) → nat_le MOST_TOPICS (length mid.topics) ≡ false → lacks_room (apply_record mid (kinds.Topic name id)) ≡ false
  unfolding apply_record
  topic_roomy name id room =
      topic_room (not (is_topic_name name)) (contains text_order mid.topics name || has_topic mid.topics id || id == 0) (nat_le MOST_TOPICS (length mid.topics)) (record mid { topics = insert text_order mid.topics name id }) room

  topic_full : (name : List ℕ) (id : ℕ) → nat_le MOST_TOPICS (length mid.topics) ≡ true → IsErr (apply_record mid (kinds.Topic name id))
  unfolding apply_record
  topic_full name id full =
      topic_fails (not (is_topic_name name)) (contains text_order mid.topics name || has_topic mid.topics id || id == 0) (nat_le MOST_TOPICS (length mid.topics)) (record mid { topics = insert text_order mid.topics name id }) full

  partition_roomy : (index : ℤ) (topic : ℕ) (state : Partition) → not (is_index index) ≡ false → nat_le MOST_PARTITIONS (length mid.partitions) ≡ false → lacks_room (apply_record mid (kinds.Partition index topic state)) ≡ false
  unfolding apply_record
  partition_roomy index topic state near room =
      partition_room (not (has_topic mid.topics topic)) (not (is_index index)) (contains partition_order mid.partitions (topic, index)) (not (is_well_formed state)) (nat_le MOST_PARTITIONS (length mid.partitions)) (record mid { partitions = insert partition_order mid.partitions (topic, index) state }) near room

  partition_full : (index : ℤ) (topic : ℕ) (state : Partition) → (not (is_index index) || nat_le MOST_PARTITIONS (length mid.partitions)) ≡ true → IsErr (apply_record mid (kinds.Partition index topic state))
  unfolding apply_record
  partition_full index topic state full =
      partition_fails (not (has_topic mid.topics topic)) (not (is_index index)) (contains partition_order mid.partitions (topic, index)) (not (is_well_formed state)) (nat_le MOST_PARTITIONS (length mid.partitions)) (record mid { partitions = insert partition_order mid.partitions (topic, index) state }) full

  change_roomy : (index : ℤ) (topic : ℕ) (change : PartitionChange) → lacks_room (apply_record mid (kinds.PartitionChange index topic change)) ≡ false
  unfolding apply_record
  change_roomy index topic change =
      change_room (not (has_topic mid.topics topic)) (get partition_order mid.partitions (topic, index)) (λ old. not (is_well_formed (merged old change))) (λ old. record mid { partitions = insert partition_order mid.partitions (topic, index) (merged old change) })

  setting_roomy : (kind : ℤ) (name key : List ℕ) (value : Option (List ℕ)) → nat_lt MOST_CONFIG_TEXT (config_text (set_to mid (record { kind = kind; name = name; key = key }) value)) ≡ false → lacks_room (apply_record mid (kinds.Config kind name key value)) ≡ false
  unfolding apply_record
  setting_roomy kind name key None little = refl
  setting_roomy kind name key (Some value) little = rw little refl

  setting_full : IsValid mid → (kind : ℤ) (name key : List ℕ) (value : Option (List ℕ)) → nat_lt MOST_CONFIG_TEXT (config_text (set_to mid (record { kind = kind; name = name; key = key }) value)) ≡ true → IsErr (apply_record mid (kinds.Config kind name key value))
  unfolding apply_record
  setting_full v kind name key None full =
      let at : ConfigKey = record { kind = kind; name = name; key = key } in
      let gone = text_gone mid.configs at in
      let little = v.configs.little in
      absurd (grind (arith, nat_tests, gone, little, full))
  setting_full v kind name key (Some value) full = rw full refl

-- ---- behind records

-- an image is as full as that
pub record IsFilled (configs : List (ConfigKey × List ℕ)) (mid : Image) (f : Filling) : Type 0 where
  pub valid : IsValid mid
  pub topics : f.topics ≡ length mid.topics
  pub partitions : f.partitions ≡ length mid.partitions
  pub text : f.text ≡ config_text mid.configs
  pub stands : (q : ConfigKey) → value_text q (get config_order mid.configs q) ≡ text_at configs f.given q

is_filled : {X : Type 0} (b : Bool) (g h : X) → cond b None (Some g) ≡ Some h → (b ≡ false) × (g ≡ h)
is_filled true g h e = absurd cc
is_filled false g h e = (refl, some_is g h e)

is_full : {X : Type 0} (b : Bool) (g : X) → cond b None (Some g) ≡ None → b ≡ true
is_full true g e = refl
is_full false g e = absurd cc

module _ (configs : List (ConfigKey × List ℕ)) (mid : Image) (f : Filling) (is : IsFilled configs mid f) where
  -- the value at a key, once one was set or went
  at_key : (key : ConfigKey) (value : Option (List ℕ)) (q : ConfigKey) → get config_order (set_to mid key value) q ≡ cond (is_eq (config_order q key)) value (get config_order mid.configs q)
  at_key key (Some value) q = get_inserted config_total mid.configs key q value
  at_key key None q = get_removed config_total mid.configs key q is.valid.configs.ordered

  -- its text, by what the records gave
  given_more : (key : ConfigKey) (value : Option (List ℕ)) (q : ConfigKey) → value_text q (get config_order (set_to mid key value) q) ≡ text_at configs (insert config_order f.given key (value_text key value)) q
  given_more key value q =
      let there = is.stands q in
      rw (at_key key value q, get_inserted config_total f.given key q (value_text key value)) (
      elim (is_eq (config_order q key)) as (λ b. is_eq (config_order q key) ≡ b → value_text q (cond b value (get config_order mid.configs q)) ≡ unwrap_or (cond b (Some (value_text key value)) (get config_order f.given q)) (value_text q (get config_order configs q))) [
        | true ↦ λ same. ap (λ (k : ConfigKey). value_text k value) (config_same q key same)
        | false ↦ λ other. there
      ] refl)

  text_more : (key : ConfigKey) (value : Option (List ℕ)) → f.text - text_at configs f.given key + value_text key value ≡ config_text (set_to mid key value)
  text_more key (Some value) =
      let all = is.text in
      let there = is.stands key in
      let gone = text_gone mid.configs key in
      let set = text_set mid.configs key value is.valid.configs.ordered in
      omega (arith, all, there, gone, set)
  text_more key None =
      let all = is.text in
      let there = is.stands key in
      let gone = text_gone mid.configs key in
      omega (arith, all, there, gone)

  abbrev Goes : Record → Type 0
  Goes r = (h : Filling) → filled configs f r ≡ Some h → Gives (λ after. IsFilled configs after h) (apply_record mid r) × (lacks_room (apply_record mid r) ≡ false)

  topic_goes : (name : List ℕ) (id : ℕ) → Goes (kinds.Topic name id)
  topic_goes name id h e =
      let fits = is_filled (nat_le MOST_TOPICS f.topics) (record f { topics = f.topics + 1 }) h e in
      let room : nat_le MOST_TOPICS (length mid.topics) ≡ false = rw is.topics at fits.0 in (
        subst (λ (h : Filling). Gives (λ after. IsFilled configs after h) (apply_record mid (kinds.Topic name id))) fits.1 (λ after meaning.
            let has = topic_more mid name id after meaning in
            record {
              valid = records mid is.valid (kinds.Topic name id) after meaning;
              topics = ap (λ n. n + 1) is.topics ∙ sym has.0;
              partitions = is.partitions ∙ sym has.1;
              text = is.text ∙ ap config_text (sym has.2);
              stands = λ q. ap (λ cs. value_text q (get config_order cs q)) has.2 ∙ is.stands q;
            }),
        topic_roomy mid name id room,
      )

  partition_goes : (index : ℤ) (topic : ℕ) (state : Partition) → Goes (kinds.Partition index topic state)
  partition_goes index topic state h e =
      let fits = is_filled (not (is_index index) || nat_le MOST_PARTITIONS f.partitions) (record f { partitions = f.partitions + 1 }) h e in
      let rooms = neither (not (is_index index)) (nat_le MOST_PARTITIONS f.partitions) fits.0 in
      let room : nat_le MOST_PARTITIONS (length mid.partitions) ≡ false = rw is.partitions at rooms.1 in (
        subst (λ (h : Filling). Gives (λ after. IsFilled configs after h) (apply_record mid (kinds.Partition index topic state))) fits.1 (λ after meaning.
            let has = partition_more mid index topic state after meaning in
            record {
              valid = records mid is.valid (kinds.Partition index topic state) after meaning;
              topics = is.topics ∙ sym has.0;
              partitions = ap (λ n. n + 1) is.partitions ∙ sym has.1;
              text = is.text ∙ ap config_text (sym has.2);
              stands = λ q. ap (λ cs. value_text q (get config_order cs q)) has.2 ∙ is.stands q;
            }),
        partition_roomy mid index topic state rooms.0 room,
      )

  change_goes : (index : ℤ) (topic : ℕ) (change : PartitionChange) → Goes (kinds.PartitionChange index topic change)
  change_goes index topic change h e = (
    subst (λ (h : Filling). Gives (λ after. IsFilled configs after h) (apply_record mid (kinds.PartitionChange index topic change))) (some_is f h e) (λ after meaning.
        let has = change_none mid is.valid.partitions.ordered index topic change after meaning in
        record {
          valid = records mid is.valid (kinds.PartitionChange index topic change) after meaning;
          topics = is.topics ∙ sym has.0;
          partitions = is.partitions ∙ sym has.1;
          text = is.text ∙ ap config_text (sym has.2);
          stands = λ q. ap (λ cs. value_text q (get config_order cs q)) has.2 ∙ is.stands q;
        }),
    change_roomy mid index topic change,
  )

  setting_goes : (kind : ℤ) (name key : List ℕ) (value : Option (List ℕ)) → Goes (kinds.Config kind name key value)
  setting_goes kind name key value h e =
      let at : ConfigKey = record { kind = kind; name = name; key = key } in
      let all : ℕ = f.text - text_at configs f.given at + value_text at value in
      let fits = is_filled (nat_lt MOST_CONFIG_TEXT all) (record f { text = all; given = insert config_order f.given at (value_text at value) }) h e in
      let room : nat_lt MOST_CONFIG_TEXT (config_text (set_to mid at value)) ≡ false = rw (text_more at value) at fits.0 in (
        subst (λ (h : Filling). Gives (λ after. IsFilled configs after h) (apply_record mid (kinds.Config kind name key value))) fits.1 (λ after meaning.
            let has = setting_more mid kind name key value after meaning in
            record {
              valid = records mid is.valid (kinds.Config kind name key value) after meaning;
              topics = is.topics ∙ sym has.0;
              partitions = is.partitions ∙ sym has.1;
              text = text_more at value ∙ ap config_text (sym has.2);
              stands = λ q. ap (λ cs. value_text q (get config_order cs q)) has.2 ∙ given_more at value q;
            }),
        setting_roomy mid kind name key value room,
      )

  pub goes : (r : Record) → takes_room r ≡ true → Goes r
  goes (kinds.Topic name id) plain = topic_goes name id
  goes (kinds.Partition index topic state) plain = partition_goes index topic state
  goes (kinds.PartitionChange index topic change) plain = change_goes index topic change
  goes (kinds.Config kind name key value) plain = setting_goes kind name key value
  goes (kinds.RegisterBroker broker state) plain = absurd cc
  goes (kinds.UnregisterBroker broker epoch) plain = absurd cc
  goes (kinds.FenceBroker broker epoch) plain = absurd cc
  goes (kinds.UnfenceBroker broker epoch) plain = absurd cc
  goes (kinds.RemoveTopic topic) plain = absurd cc
  goes (kinds.FeatureLevel name level) plain = absurd cc
  goes (kinds.BrokerRegistrationChange broker epoch fenced stopping) plain = absurd cc
  goes kinds.NoOp plain = absurd cc
  goes (kinds.BeginTransaction name) plain = absurd cc
  goes kinds.EndTransaction plain = absurd cc
  goes (kinds.AbortTransaction reason) plain = absurd cc

  pub stops : (r : Record) → filled configs f r ≡ None → IsErr (apply_record mid r)
  stops (kinds.Topic name id) e = topic_full mid name id (rw is.topics at (is_full (nat_le MOST_TOPICS f.topics) (record f { topics = f.topics + 1 }) e))
  stops (kinds.Partition index topic state) e = partition_full mid index topic state (rw is.partitions at (is_full (not (is_index index) || nat_le MOST_PARTITIONS f.partitions) (record f { partitions = f.partitions + 1 }) e))
  stops (kinds.Config kind name key value) e =
      let at : ConfigKey = record { kind = kind; name = name; key = key } in
      let all : ℕ = f.text - text_at configs f.given at + value_text at value in
      setting_full mid is.valid kind name key value (rw (text_more at value) at (is_full (nat_lt MOST_CONFIG_TEXT all) (record f { text = all; given = insert config_order f.given at (value_text at value) }) e))
  stops (kinds.PartitionChange index topic change) e = absurd cc
  stops (kinds.RegisterBroker broker state) e = absurd cc
  stops (kinds.UnregisterBroker broker epoch) e = absurd cc
  stops (kinds.FenceBroker broker epoch) e = absurd cc
  stops (kinds.UnfenceBroker broker epoch) e = absurd cc
  stops (kinds.RemoveTopic topic) e = absurd cc
  stops (kinds.FeatureLevel name level) e = absurd cc
  stops (kinds.BrokerRegistrationChange broker epoch fenced stopping) e = absurd cc
  stops kinds.NoOp e = absurd cc
  stops (kinds.BeginTransaction name) e = absurd cc
  stops kinds.EndTransaction e = absurd cc
  stops (kinds.AbortTransaction reason) e = absurd cc

-- ---- all records

-- The records have no meaning, though none lacks room; or the image behind those so far is as full as that, and the
-- others lead on from it.
abbrev pub IsAsFar : List (ConfigKey × List ℕ) → Result Image Ill → List Record → Filling → Type 0
IsAsFar configs meaning left f = (IsErr meaning × (lacks_room meaning ≡ false)) ⊎ ((mid : Image) × (IsFilled configs mid f × (apply_records mid left ≡ meaning)))

module _ (configs : List (ConfigKey × List ℕ)) (meaning : Result Image Ill) where
  pub far_over : (f : Filling) → IsAsFar configs meaning [] f → lacks_room meaning ≡ false
  far_over f (inl ended) = ended.1
  far_over f (inr at) = rw (← at.1.1) refl

  far_none : (f : Filling) (r : Record) (left : List Record) → filled configs f r ≡ None → IsAsFar configs meaning (r ∷ left) f → IsErr meaning
  far_none f r left none (inl ended) = ended.0
  far_none f r left none (inr (mid, (is, leads))) =
      elim (apply_record mid r) as (λ x. IsErr x → and_then x (λ after. apply_records after left) ≡ meaning → IsErr meaning) [
        | Ok after ↦ λ e. absurd cc
        | Err cause ↦ λ e leads. rw (← leads) refl
      ] (stops configs mid f is r none) leads

  far_more : (f h : Filling) (r : Record) (left : List Record) → takes_room r ≡ true → filled configs f r ≡ Some h → IsAsFar configs meaning (r ∷ left) f → IsAsFar configs meaning left h
  far_more f h r left plain some (inl ended) = inl ended
  far_more f h r left plain some (inr (mid, (is, leads))) =
      let step = goes configs mid f is r plain h some in
      elim (apply_record mid r) as (λ x. Gives (λ after. IsFilled configs after h) x → lacks_room x ≡ false → and_then x (λ after. apply_records after left) ≡ meaning → IsAsFar configs meaning left h) [
        | Ok after ↦ λ gives room leads. inr (after, (gives after refl, leads))
        | Err cause ↦ λ gives room leads. inl (rw (← leads) refl, rw (← leads) room)
      ] step.0 step.1 leads

  -- the record at an index of a list
  module _ (records : List Record) (i : ℕ) (r : Record) (within : i < length records) (at : r ≡ get_or records i r) (f : Filling) (far : IsAsFar configs meaning (drop i records) f) where
    pub full_here : (h : Filling) → Fills (filled configs f r) false h → IsErr meaning
    full_here h none = far_none f r (drop (i + 1) records) none (rw (here_of records i r within at) at far)

    pub more_here : (h : Filling) → list_all takes_room (drop i records) ≡ true → Fills (filled configs f r) true h → (list_all takes_room (drop (i + 1) records) ≡ true) × IsAsFar configs meaning (drop (i + 1) records) h
    more_here h plain some =
        let parts = both (takes_room r) (list_all takes_room (drop (i + 1) records)) (rw (here_of records i r within at) at plain) in
        (parts.1, far_more f h r (drop (i + 1) records) parts.0 some (rw (here_of records i r within at) at far))
