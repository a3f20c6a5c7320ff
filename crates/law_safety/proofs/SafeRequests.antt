-- What each request gives is safe on a valid image.
use Rattle.std.proofs.Common.{◌≡◌, ◌∙◌, ℤ, Bool, true, false, cond, List, [], ◌∷◌, refl, sym, ap, subst, not}
use Rattle.std.specs.Prelude.{◌&&◌, ◌==◌, Option, Some, None, Result, Ok, map, bytes_eq, pos, zip}
use Rattle.std.specs.List.{AllByRecursion, list_any}
use Rattle.std.proofs.lemmas.Bool.{and_from, or_left, or_right}
use Rattle.std.proofs.lemmas.Slice.Eq.{bytes_eq-Decides}
use Rattle.kr_defs.specs.declared.options.Options.{Options}
use Rattle.kr_defs.specs.declared.record.Record.{Record}
use Rattle.kr_defs.specs.Apply.{apply_record}
use Rattle.kr_defs.specs.Guard.{and_then}
use Rattle.kr_defs.specs.Heartbeats.{Heartbeats, heard}
use Rattle.kr_defs.specs.Image.{Image, IsValid}
use Rattle.kr_defs.proofs.Tests.{Gives, gives_done, gives_then, not_false, ok_or_this}
use Rattle.kr_defs.proofs.TopicWalks.{equal_ids}
use Rattle.kr_defs.proofs.Validity as validity
use Rattle.kr_calls.specs.declared.calls.Reply.{Reply}
use Rattle.kr_calls.specs.declared.calls.Request.{Request}
use Rattle.kr_calls.specs.declared.calls.Reply.TheVariants as replies
use Rattle.kr_calls.specs.declared.calls.Request.TheVariants as requests
use Rattle.kr_calls.specs.declared.deciding.Draft.{Draft}
use Rattle.kr_calls.specs.declared.alter_partition.AlterPartition.{AlterPartition}
use Rattle.kr_calls.specs.declared.alter_partition_reassignments.AlterPartitionReassignments.{AlterPartitionReassignments}
use Rattle.kr_calls.specs.declared.alter_partition.AlterPartitionReply.{AlterPartitionReply}
use Rattle.kr_calls.specs.declared.alter_partition.AlterPartitionTopic.{AlterPartitionTopic}
use Rattle.kr_calls.specs.declared.alter_partition.AlterPartitionTopicResult.{AlterPartitionTopicResult}
use Rattle.kr_calls.specs.declared.alter_partition_reassignments.AlterPartitionReassignmentsReply.{AlterPartitionReassignmentsReply}
use Rattle.kr_calls.specs.declared.alter_partition_reassignments.ReassignableTopic.{ReassignableTopic}
use Rattle.kr_calls.specs.declared.alter_partition_reassignments.ReassignableTopicResponse.{ReassignableTopicResponse}
use Rattle.kr_calls.specs.Deciding.{HaveMeanings, Work, answers, apply_records, group_answers, nothing_decided}
use Rattle.kr_calls.specs.Decide.{work_of}
use Rattle.kr_calls.specs.Refuse.{refused_create_topics, refused_delete_topics, refused_create_partitions, refused_incremental_alter_configs}
use Rattle.kr_calls.specs.AlterPartition as alter_partition
use Rattle.kr_calls.specs.AlterPartitionReassignments as alter_partition_reassignments
use Rattle.kr_calls.specs.BrokerHeartbeat as broker_heartbeat
use Rattle.kr_calls.specs.BrokerRegistration as broker_registration
use Rattle.kr_calls.specs.CreatePartitions as create_partitions
use Rattle.kr_calls.specs.CreateTopics as create_topics
use Rattle.kr_calls.specs.DeleteTopics as delete_topics
use Rattle.kr_calls.specs.ElectLeaders as elect_leaders
use Rattle.kr_calls.specs.IncrementalAlterConfigs as incremental_alter_configs
use Rattle.kr_calls.specs.UnregisterBroker as unregister_broker
use Rattle.kr_calls.specs.SafeChange.{Exchange}
use Rattle.kr_calls.proofs.KeptByRequests.{any_entry, validated_keep}
use Rattle.kr_calls.proofs.BrokersLeft.{LeavesBrokers, all_leave}
use Rattle.kr_calls.proofs.BrokersLeft as leaving
use Rattle.kr_calls.proofs.DecisionMeanings.{applied_in_two}
use Rattle.law_safety.specs.SafeChangeLaws.{AreSafe, RequestsAreSafe, FencingsAreSafe}
use Rattle.law_safety.proofs.AnsweredEntries.{AreAnswered, Keeps, all_keep, groups_keep, one_keeps}
use Rattle.law_safety.proofs.SafeRecords.{both_safe}
use Rattle.law_safety.proofs.SafeRules.{IsSafeDraft, IsReportOf, IsMoveOf, creates, deletes, grows, configures, unregisters, registers, beats, reports, elects, reassigns}
use Rattle.law_safety.proofs.SafeWalks.{fencing_safe}

-- records that have a meaning keep a valid image valid
pub valid_after : (image : Image) (records : List Record) → IsValid image → Gives IsValid (apply_records image records)
valid_after image [] valid = gives_done IsValid image valid
valid_after image (r ∷ records) valid = gives_then IsValid IsValid (apply_record image r) (λ after. apply_records after records) (validity.records image valid r) (λ mid v. valid_after mid records v)

-- ---- the entries of a request, each with its answer

each_later : {X : Type 0} (y : X) (xs those : List X) → AllByRecursion (λ x. (test : X → Bool) → test x ≡ true → list_any test xs ≡ true) those → AllByRecursion (λ x. (test : X → Bool) → test x ≡ true → list_any test (y ∷ xs) ≡ true) those
each_later y xs [] here = tt
each_later y xs (x ∷ those) here = (λ test is. or_right (test y) (list_any test xs) (here.0 test is), each_later y xs those here.1)

each_here : {X : Type 0} (xs : List X) → AllByRecursion (λ x. (test : X → Bool) → test x ≡ true → list_any test xs ≡ true) xs
each_here [] = tt
each_here (x ∷ xs) = (λ test is. or_left (test x) (list_any test xs) is, each_later x xs xs (each_here xs))

each_of : {X : Type 0} (P Q : X → Type 0) → ((x : X) → Q x → P x) → (xs : List X) → AllByRecursion Q xs → AllByRecursion P xs
each_of P Q step [] all = tt
each_of P Q step (x ∷ xs) all = (step x all.0, each_of P Q step xs all.1)

each_entry : {X E A : Type 0} (Is : E → A → Type 0) (f : X → E) (xs : List X) (given : List A) → AllByRecursion (λ pair. Is (f pair.0) pair.1) (zip xs given) → AllByRecursion (λ pair. Is pair.0 pair.1) (zip (map f xs) given)
each_entry Is f [] given all = tt
each_entry Is f (x ∷ xs) [] all = tt
each_entry Is f (x ∷ xs) (a ∷ given) all = (all.0, each_entry Is f xs given all.1)

-- the reports on a topic stand with their answers among those of the request
abbrev HasReports : List (AlterPartitionTopic × AlterPartitionTopicResult) → AlterPartitionTopic → AlterPartitionTopicResult → Type 0
HasReports topics topic answers = AllByRecursion (λ e. IsReportOf topics (topic.topic, e.0) e.1) (zip topic.partitions answers.partitions)

own_reports : (topics : List (AlterPartitionTopic × AlterPartitionTopicResult)) → AllByRecursion (λ t. HasReports topics t.0 t.1) topics
own_reports topics =
    each_of (λ t. HasReports topics t.0 t.1) (λ t. (test : AlterPartitionTopic × AlterPartitionTopicResult → Bool) → test t ≡ true → list_any test topics ≡ true)
    (λ t here. each_of (λ e. IsReportOf topics (t.0.topic, e.0) e.1) (λ e. (test : _ → Bool) → test e ≡ true → list_any test (zip t.0.partitions t.1.partitions) ≡ true)
    (λ e there test is. here (λ other. other.0.topic == t.0.topic && list_any test (zip other.0.partitions other.1.partitions)) (and_from (t.0.topic == t.0.topic) (list_any test (zip t.0.partitions t.1.partitions)) (equal_ids t.0.topic t.0.topic refl) (there test is)))
    (zip t.0.partitions t.1.partitions) (each_here (zip t.0.partitions t.1.partitions)))
    topics (each_here topics)

abbrev HasMoves : List (ReassignableTopic × ReassignableTopicResponse) → ReassignableTopic → ReassignableTopicResponse → Type 0
HasMoves topics topic answers = AllByRecursion (λ e. IsMoveOf topics (topic.name, e.0) e.1) (zip topic.partitions answers.partitions)

own_moves : (topics : List (ReassignableTopic × ReassignableTopicResponse)) → AllByRecursion (λ t. HasMoves topics t.0 t.1) topics
own_moves topics =
    each_of (λ t. HasMoves topics t.0 t.1) (λ t. (test : ReassignableTopic × ReassignableTopicResponse → Bool) → test t ≡ true → list_any test topics ≡ true)
    (λ t here. each_of (λ e. IsMoveOf topics (t.0.name, e.0) e.1) (λ e. (test : _ → Bool) → test e ≡ true → list_any test (zip t.0.partitions t.1.partitions) ≡ true)
    (λ e there test is. here (λ other. bytes_eq other.0.name t.0.name && list_any test (zip other.0.partitions other.1.partitions)) (and_from (bytes_eq t.0.name t.0.name) (list_any test (zip t.0.partitions t.1.partitions)) ((bytes_eq-Decides t.0.name t.0.name).1 refl) (there test is)))
    (zip t.0.partitions t.1.partitions) (each_here (zip t.0.partitions t.1.partitions)))
    topics (each_here topics)

-- ---- the work of a request

-- what the images over a request are: `V` of each
module _ (exchange : Option Exchange) (start : Image) (V : Image → Type 0) where
  -- safe so far, and led to by meanings
  pub record IsSafeWork (w : Work) : Type 0 where
    pub safe : AreSafe exchange start w.records
    pub meaning : HaveMeanings start w
    pub valid : V w.image

  begun_safe : (place : ℤ) → V start → IsSafeWork (nothing_decided place start)
  begun_safe place valid = record { safe = tt; meaning = refl; valid = valid }

  -- a rule that gives safe records for entries with such answers
  abbrev GivesSafe : {E A : Type 0} → (Image → ℤ → E → Result (Draft A) ℤ) → (E → A → Type 0) → Type 0
  GivesSafe {E} rule Is = (image : Image) (place : ℤ) (entry : E) → V image → Gives (λ draft. Is entry draft.answer → IsSafeDraft exchange image draft) (rule image place entry)

  -- a rule whose records leave such an image
  abbrev LeavesSuch : {E A : Type 0} → (Image → ℤ → E → Result (Draft A) ℤ) → Type 0
  LeavesSuch {E} rule = (image : Image) (place : ℤ) (entry : E) → V image → Gives (λ draft. Gives V (apply_records image draft.records)) (rule image place entry)

  module _ {E A : Type 0} (refused : ℤ → E → A) (rule : Image → ℤ → E → Result (Draft A) ℤ) (Is : E → A → Type 0) (gives : GivesSafe rule Is) (leaves : LeavesSuch rule) where
    keeps : Keeps refused rule IsSafeWork Is
    keeps w entry so_far draft drafted is after by = record {
      safe = subst (AreSafe exchange start) (sym by.written) (both_safe exchange start w.records draft.records so_far.safe (λ mid reached.
          subst (λ (i : Image). AreSafe exchange i draft.records) (ap (ok_or_this w.image) (sym so_far.meaning ∙ reached)) (gives w.image w.place entry so_far.valid draft drafted is)));
      meaning = subst (λ (records : List Record). apply_records start records ≡ Ok after.image) (sym by.written) (applied_in_two start w.records draft.records ∙ (ap (λ r. and_then r (λ i. apply_records i draft.records)) so_far.meaning ∙ by.applied));
      valid = leaves w.image w.place entry so_far.valid draft drafted after.image by.applied;
    }

    module _ {G B : Type 0} (entries_of : G → List E) (answer_of : G → List A → B) (Of : G → B → Type 0) (each : (group : G) (given : List A) → Of group (answer_of group given) → AreAnswered refused rule IsSafeWork Is (entries_of group) given) where
      groups_safe : (place : ℤ) (those : List G) → AllByRecursion (λ pair. Of pair.0 pair.1) (zip those (group_answers refused rule entries_of answer_of (nothing_decided place start) those)) → V start → IsSafeWork (Rattle.kr_calls.specs.Deciding.after_groups refused rule entries_of answer_of (nothing_decided place start) those)
      groups_safe place those are valid = groups_keep refused rule IsSafeWork Is entries_of answer_of Of each keeps (nothing_decided place start) those are (begun_safe place valid)

-- ---- valid images alone

module _ (exchange : Option Exchange) (start : Image) {E A : Type 0} (refused : ℤ → E → A) (rule : Image → ℤ → E → Result (Draft A) ℤ) where
  valid_left : LeavesSuch exchange start IsValid rule
  valid_left image place entry valid draft drafted = valid_after image draft.records valid

  -- whatever the answers are
  module _ (gives : (image : Image) (place : ℤ) (entry : E) → IsValid image → Gives (IsSafeDraft exchange image) (rule image place entry)) where
    any_keep : Keeps refused rule (IsSafeWork exchange start IsValid) (λ _ _. Unit {0})
    any_keep = keeps exchange start IsValid refused rule (λ _ _. Unit {0}) (λ image place entry valid draft drafted is. gives image place entry valid draft drafted) valid_left

    one : (place : ℤ) (entry : E) → IsValid start → IsSafeWork exchange start IsValid (Rattle.kr_calls.specs.Deciding.one refused rule (nothing_decided place start) entry).0
    one place entry valid = one_keeps refused rule (IsSafeWork exchange start IsValid) (λ _ _. Unit {0}) any_keep (nothing_decided place start) entry tt (begun_safe exchange start IsValid place valid)

    all : (place : ℤ) (entries : List E) → IsValid start → IsSafeWork exchange start IsValid (Rattle.kr_calls.specs.Deciding.after_all refused rule (nothing_decided place start) entries)
    all place entries valid = all_keep refused rule (IsSafeWork exchange start IsValid) (λ _ _. Unit {0}) any_keep (nothing_decided place start) entries (any_entry (zip entries (answers refused rule (nothing_decided place start) entries))) (begun_safe exchange start IsValid place valid)

    groups : {G B : Type 0} (entries_of : G → List E) (answer_of : G → List A → B) (place : ℤ) (those : List G) → IsValid start → IsSafeWork exchange start IsValid (Rattle.kr_calls.specs.Deciding.after_groups refused rule entries_of answer_of (nothing_decided place start) those)
    groups entries_of answer_of place those valid =
        groups_keep refused rule (IsSafeWork exchange start IsValid) (λ _ _. Unit {0}) entries_of answer_of (λ _ _. Unit {0}) (λ group given is. any_entry (zip (entries_of group) given)) any_keep (nothing_decided place start) those
        (any_entry (zip those (group_answers refused rule entries_of answer_of (nothing_decided place start) those))) (begun_safe exchange start IsValid place valid)

-- what was decided of a request is safe
abbrev IsSafeDecision : Request → Image → Work × Reply → Type 0
IsSafeDecision request image d = IsSafeWork (Some (request, d.1)) image IsValid d.0

chosen : (request : Request) (image : Image) (test : Bool) (x y : Work × Reply) → IsSafeDecision request image x → (test ≡ false → IsSafeDecision request image y) → IsSafeDecision request image (cond test x y)
chosen request image true x y first then = first
chosen request image false x y first then = then refl

-- ---- reports: the broker that reports stays registered as it is

module _ (options : Options) (start : Image) (q : AlterPartition) (fresh : alter_partition.is_stale start q ≡ false) (place : ℤ) where
  abbrev topics : List AlterPartitionTopicResult
  topics = group_answers alter_partition.refused (alter_partition.rule options q.broker) alter_partition.entries_of alter_partition.answer_of (nothing_decided place start) q.topics

  abbrev r : AlterPartitionReply
  r = record { error = pos 0; topics = topics }

  abbrev V : Image → Type 0
  V image = IsValid image × LeavesBrokers start image

  fresh_there : (image : Image) → LeavesBrokers start image → alter_partition.is_stale image q ≡ false
  fresh_there image same = ap (λ brokers. alter_partition.is_stale (record image { brokers = brokers }) q) same ∙ fresh

  reported : IsValid start → IsSafeDecision (requests.AlterPartition q) start (Rattle.kr_calls.specs.Deciding.after_groups alter_partition.refused (alter_partition.rule options q.broker) alter_partition.entries_of alter_partition.answer_of (nothing_decided place start) q.topics, replies.AlterPartition r)
  reported valid =
      let work = groups_safe (Some (requests.AlterPartition q, replies.AlterPartition r)) start V alter_partition.refused (alter_partition.rule options q.broker) (IsReportOf (zip q.topics topics)) (λ i p e v. reports i options q r (fresh_there i v.1) p e)
      (λ image place entry v draft drafted after is. (valid_after image draft.records v.0 after is, all_leave image draft.records (leaving.reports options q.broker image place entry draft drafted) after is ∙ v.1))
      alter_partition.entries_of alter_partition.answer_of (HasReports (zip q.topics topics)) (λ topic given all. each_entry (IsReportOf (zip q.topics topics)) (λ report. (topic.topic, report)) topic.partitions given all)
      place q.topics (own_reports (zip q.topics topics)) (valid, refl) in
      record { safe = work.safe; meaning = work.meaning; valid = work.valid.0 }

-- ---- reassignments

module _ (options : Options) (start : Image) (q : AlterPartitionReassignments) (place : ℤ) where
  abbrev responses : List ReassignableTopicResponse
  responses = group_answers alter_partition_reassignments.answer (alter_partition_reassignments.rule options) alter_partition_reassignments.entries_of alter_partition_reassignments.answer_of (nothing_decided place start) q.topics

  abbrev reply : AlterPartitionReassignmentsReply
  reply = record { error = pos 0; responses = responses }

  moved : IsValid start → IsSafeDecision (requests.AlterPartitionReassignments q) start (Rattle.kr_calls.specs.Deciding.after_groups alter_partition_reassignments.answer (alter_partition_reassignments.rule options) alter_partition_reassignments.entries_of alter_partition_reassignments.answer_of (nothing_decided place start) q.topics, replies.AlterPartitionReassignments reply)
  moved valid =
      let exchange : Option Exchange = Some (requests.AlterPartitionReassignments q, replies.AlterPartitionReassignments reply) in
      groups_safe exchange start IsValid alter_partition_reassignments.answer (alter_partition_reassignments.rule options) (IsMoveOf (zip q.topics responses)) (λ i p e v. reassigns i v options q reply p e) (valid_left exchange start alter_partition_reassignments.answer (alter_partition_reassignments.rule options))
      alter_partition_reassignments.entries_of alter_partition_reassignments.answer_of (HasMoves (zip q.topics responses)) (λ topic given all. each_entry (IsMoveOf (zip q.topics responses)) (λ partition. (topic.name, partition)) topic.partitions given all)
      place q.topics (own_moves (zip q.topics responses)) valid

-- ---- all requests

module _ (options : Options) (time : ℤ) (heartbeats : Heartbeats) (image : Image) (place : ℤ) where
  abbrev exchange_of : Request → Option Exchange
  exchange_of request = Some (request, (work_of options time heartbeats image place request).1)

  safe_work : (request : Request) → IsValid image → IsSafeDecision request image (work_of options time heartbeats image place request)
  unfolding work_of broker_registration.decided broker_heartbeat.decided unregister_broker.decided create_topics.decided delete_topics.decided create_partitions.decided alter_partition.decided elect_leaders.decided alter_partition_reassignments.decided incremental_alter_configs.decided
  safe_work (requests.BrokerRegistration q) valid =
      let x = exchange_of (requests.BrokerRegistration q) in one x image broker_registration.refused (broker_registration.rule options time heartbeats) (λ i p e v. registers x i v options time heartbeats p e) place q valid
  safe_work (requests.BrokerHeartbeat q) valid =
      let x = exchange_of (requests.BrokerHeartbeat q) in one x image broker_heartbeat.refused (broker_heartbeat.rule options heartbeats) (λ i p e v. beats x i v options heartbeats p e) place q valid
  safe_work (requests.UnregisterBroker q) valid =
      let x = exchange_of (requests.UnregisterBroker q) in one x image unregister_broker.refused (unregister_broker.rule options) (λ i p e v. unregisters x i v options p e) place q valid
  safe_work (requests.CreateTopics q) valid =
      let x = exchange_of (requests.CreateTopics q) in
      validated_keep (IsSafeWork x image IsValid) q.validate_only (nothing_decided place image) _ (begun_safe x image IsValid place valid)
      (all x image refused_create_topics (create_topics.rule options q.validate_only) (λ i p e v. creates x i v options q.validate_only p e) place q.topics valid)
  safe_work (requests.DeleteTopics q) valid =
      let x = exchange_of (requests.DeleteTopics q) in all x image refused_delete_topics delete_topics.rule (λ i p e v. deletes x i p e) place q.topics valid
  safe_work (requests.CreatePartitions q) valid =
      let x = exchange_of (requests.CreatePartitions q) in
      validated_keep (IsSafeWork x image IsValid) q.validate_only (nothing_decided place image) _ (begun_safe x image IsValid place valid)
      (all x image refused_create_partitions create_partitions.rule (λ i p e v. grows x i v p e) place q.topics valid)
  safe_work (requests.AlterPartition q) valid =
      chosen (requests.AlterPartition q) image (alter_partition.is_stale image q) _ _ (begun_safe _ image IsValid place valid) (λ fresh. reported options image q fresh place valid)
  safe_work (requests.ElectLeaders q) valid =
      chosen (requests.ElectLeaders q) image (not (elect_leaders.is_kind q.kind)) _ _ (begun_safe _ image IsValid place valid) (λ kind.
      groups _ image elect_leaders.answer (elect_leaders.rule options q.kind) (λ i p e v. elects i v options q _ (not_false (elect_leaders.is_kind q.kind) kind) p e) elect_leaders.entries_of elect_leaders.answer_of place (elect_leaders.groups_of image q.topics) valid)
  safe_work (requests.AlterPartitionReassignments q) valid = moved options image q place valid
  safe_work (requests.IncrementalAlterConfigs q) valid =
      let x = exchange_of (requests.IncrementalAlterConfigs q) in
      validated_keep (IsSafeWork x image IsValid) q.validate_only (nothing_decided place image) _ (begun_safe x image IsValid place valid)
      (all x image refused_incremental_alter_configs (incremental_alter_configs.rule options) (λ i p e v. configures x i v options p e) place q.resources valid)
  safe_work (requests.ListPartitionReassignments q) valid = begun_safe _ image IsValid place valid
  safe_work (requests.Metadata q) valid = begun_safe _ image IsValid place valid

pub requests_are_safe : RequestsAreSafe
requests_are_safe options basis image place request valid = (safe_work options basis.time (heard basis) image place request valid).safe

pub fencings_are_safe : FencingsAreSafe
fencings_are_safe minimum image broker state valid there = fencing_safe None image minimum broker state.epoch valid
