-- Which entries of a reply tell of a passed limit.
use Rattle.std.proofs.Common.{◌≡◌, ◌∙◌, ◌+◌, ℕ, ℤ, pos, Bool, true, false, cond, List, [], ◌∷◌, length, refl, sym, ap, subst, inl, inr}
use Rattle.std.specs.Prelude.{◌+ℤ◌, not, ◌||◌, Option, Some, None, Result, Ok, Err, IsTrue, MatchResult}
use Rattle.std.specs.Ordering.{int_eq}
use Rattle.kr_defs.specs.declared.basis.Basis.{Basis}
use Rattle.kr_defs.specs.declared.ill.Ill.{Ill}
use Rattle.kr_defs.specs.declared.options.Options.{Options}
use Rattle.kr_defs.specs.declared.record.Record.{Record}
use Rattle.kr_defs.specs.Apply.{apply_record}
use Rattle.kr_defs.specs.Guard.{and_then}
use Rattle.kr_defs.specs.Heartbeats.{heard}
use Rattle.kr_defs.specs.Image.{Image, IsValid}
use Rattle.kr_calls.specs.declared.alter_partition.AlterPartitionResult.{AlterPartitionResult}
use Rattle.kr_calls.specs.declared.alter_partition.AlterPartitionTopicResult.{AlterPartitionTopicResult}
use Rattle.kr_calls.specs.declared.alter_partition_reassignments.ReassignablePartitionResponse.{ReassignablePartitionResponse}
use Rattle.kr_calls.specs.declared.alter_partition_reassignments.ReassignableTopicResponse.{ReassignableTopicResponse}
use Rattle.kr_calls.specs.declared.broker_heartbeat.BrokerHeartbeatReply.{BrokerHeartbeatReply}
use Rattle.kr_calls.specs.declared.broker_registration.BrokerRegistrationReply.{BrokerRegistrationReply}
use Rattle.kr_calls.specs.declared.calls.Reply.{Reply}
use Rattle.kr_calls.specs.declared.calls.Request.{Request}
use Rattle.kr_calls.specs.declared.calls.Request.TheVariants as requests
use Rattle.kr_calls.specs.declared.create_partitions.CreatePartitionsTopicResult.{CreatePartitionsTopicResult}
use Rattle.kr_calls.specs.declared.create_topics.CreatableTopicResult.{CreatableTopicResult}
use Rattle.kr_calls.specs.declared.deciding.Draft.{Draft}
use Rattle.kr_calls.specs.declared.delete_topics.DeletableTopicResult.{DeletableTopicResult}
use Rattle.kr_calls.specs.declared.elect_leaders.PartitionElectionResult.{PartitionElectionResult}
use Rattle.kr_calls.specs.declared.elect_leaders.ReplicaElectionResult.{ReplicaElectionResult}
use Rattle.kr_calls.specs.declared.errors.TheConstants.{NOT_CONTROLLER, POLICY_VIOLATION}
use Rattle.kr_calls.specs.declared.incremental_alter_configs.ConfigResponse.{ConfigResponse}
use Rattle.kr_calls.specs.declared.unregister_broker.UnregisterBrokerReply.{UnregisterBrokerReply}
use Rattle.kr_calls.specs.AlterPartition as alter_partition
use Rattle.kr_calls.specs.AlterPartitionReassignments as alter_partition_reassignments
use Rattle.kr_calls.specs.BrokerHeartbeat as broker_heartbeat
use Rattle.kr_calls.specs.BrokerRegistration as broker_registration
use Rattle.kr_calls.specs.CreatePartitions as create_partitions
use Rattle.kr_calls.specs.CreateTopics as create_topics
use Rattle.kr_calls.specs.Decide.{work_of}
use Rattle.kr_calls.specs.Deciding.{Work, after_all, answers, apply_records, done, group_answers, is_within_limits, nothing_decided, one, over_a_limit, settled, taken, work_with}
use Rattle.kr_calls.specs.DeleteTopics as delete_topics
use Rattle.kr_calls.specs.ElectLeaders as elect_leaders
use Rattle.kr_calls.specs.IncrementalAlterConfigs as incremental_alter_configs
use Rattle.kr_calls.specs.Refuse.{refused_create_partitions, refused_create_topics, refused_delete_topics, refused_incremental_alter_configs}
use Rattle.kr_calls.specs.UnregisterBroker as unregister_broker
use Rattle.law_replies.specs.LimitReplies.{GroupsTellLimits, HasLimit, StopsAtLimit, PassesLimit, RepliesTellLimits, ReplyTellsLimits, TellLimits, TellsLimit, is_own}
use Rattle.law_replies.proofs.OwnAnswers as own
use Rattle.law_replies.proofs.OwnAnswers.{AnswersOwn, IsOwn}
use Rattle.law_safety.specs.RefusalLaws.{IsRefusedByLimits, is_past_limit}
use Rattle.law_safety.proofs.Refusals.{Breaks, BreaksBy}
use Rattle.law_safety.proofs.RefusedRules.{limits_alone_refuse}
use Rattle.law_safety.proofs.SafeRequests.{valid_after}

-- ---- records

-- the first record without a meaning is one that passes a limit
stopped : (place : ℤ) (image : Image) (records : List Record) (cause : Ill) → apply_records image records ≡ Err cause → Breaks place image records → StopsAtLimit place image records
stopped place image [] cause is breaks = absurd cc
stopped place image (r ∷ records) cause is breaks =
    elim (apply_record image r) as (λ x. and_then x (λ after. apply_records after records) ≡ Err cause → BreaksBy place image r (λ mid. Breaks place mid records) x → MatchResult x (λ after. StopsAtLimit place after records) (λ why. IsTrue (is_past_limit place image r why))) [
      | Ok mid ↦ λ is breaks. stopped place mid records cause is breaks
      | Err why ↦ λ is breaks. breaks
    ] is breaks

-- records with such a one have no image behind them
none_behind : (place : ℤ) (image after : Image) (records : List Record) → StopsAtLimit place image records → apply_records image records ≡ Ok after → ⊥
none_behind place image after [] stops is = stops
none_behind place image after (r ∷ records) stops is =
    elim (apply_record image r) as (λ x. MatchResult x (λ mid. StopsAtLimit place mid records) (λ why. IsTrue (is_past_limit place image r why)) → and_then x (λ mid. apply_records mid records) ≡ Ok after → ⊥) [
      | Ok mid ↦ λ stops is. none_behind place mid after records stops is
      | Err why ↦ λ stops is. absurd cc
    ] stops is

-- ---- a work

-- its image is valid, and its place is not below 0
record IsGoing (w : Work) : Type 0 where
  valid : IsValid w.image
  place : ℕ
  at : w.place ≡ pos place

-- records are taken, and pass no limit, or they aren't, and pass one
abbrev IsTaken : Work → List Record → Option Work → Type 0
IsTaken w records None = PassesLimit w records
IsTaken w records (Some after) = IsGoing after × (PassesLimit w records → ⊥)

within : (w : Work) (records : List Record) (image : Image) → is_within_limits w.records records ≡ true → apply_records w.image records ≡ Ok image → PassesLimit w records → ⊥
within w records image limits is (inl over) = absurd (let no = sym limits ∙ over in cc)
within w records image limits is (inr stops) = none_behind w.place w.image image records stops is

tried : (w : Work) → IsGoing w → (records : List Record) → Breaks w.place w.image records → (b : Bool) (r : Result Image Ill) → is_within_limits w.records records ≡ b → apply_records w.image records ≡ r → IsTaken w records (cond b (work_with w records r) None)
tried w k records breaks false r limits is = inl limits
tried w k records breaks true (Err cause) limits is = inr (stopped w.place w.image records cause is breaks)
tried w k records breaks true (Ok image) limits is =
    (record { valid = valid_after w.image records k.valid image is; place = k.place + length records; at = ap (λ (z : ℤ). z +ℤ pos (length records)) k.at }, within w records image limits is)

is_taken : (w : Work) → IsGoing w → (records : List Record) → Breaks w.place w.image records → IsTaken w records (taken w records)
unfolding taken
is_taken w k records breaks = tried w k records breaks (is_within_limits w.records records) (apply_records w.image records) refl refl

-- ---- errors

not_policy : (error : ℤ) → IsOwn error → error ≡ POLICY_VIOLATION → ⊥
not_policy error own is = let no : false ≡ true = sym (ap is_own is) ∙ own in absurd cc

or_not : (a b : Bool) → not (a || b) ≡ true → b ≡ false
or_not false false is = refl
or_not true b is = absurd cc
or_not false true is = absurd cc

-- ---- entries

module _ {E A : Type 0} (error_of : A → ℤ) (refused : ℤ → E → A) (rule : Image → ℤ → E → Result (Draft A) ℤ) (told : (error : ℤ) (entry : E) → error_of (refused error entry) ≡ error) (limited : IsRefusedByLimits rule) (answers_own : (image : Image) (place : ℤ) (entry : E) → AnswersOwn error_of (rule image place entry)) where
  Tells : Work → E → A → Type 0
  Tells = TellsLimit error_of refused rule

  -- an error of its own
  own_tells : (w : Work) (entry : E) (answer : A) → IsOwn (error_of answer) → (HasLimit error_of refused rule w entry → ⊥) → Tells w entry answer
  unfolding Tells
  own_tells w entry answer own none = record {
    policy = (λ is. absurd (not_policy (error_of answer) own is), λ passes. absurd (none passes));
    leads = or_not (int_eq (error_of answer) POLICY_VIOLATION) (int_eq (error_of answer) NOT_CONTROLLER) own;
  }

  Ends : Work → E → Work × A → Type 0
  Ends w entry d = Tells w entry d.1 × IsGoing d.0

  ok_same : (w : Work) (entry : E) (draft other : Draft A) → rule w.image w.place entry ≡ Ok draft → rule w.image w.place entry ≡ Ok other → PassesLimit w other.records → PassesLimit w draft.records
  ok_same w entry draft other is so passes = let given = sym so ∙ is in let same : other ≡ draft = cc in subst (λ (d : Draft A). PassesLimit w d.records) same passes

  settled_tells : (w : Work) → IsGoing w → (entry : E) (draft : Draft A) → rule w.image w.place entry ≡ Ok draft → IsOwn (error_of draft.answer) → (o : Option Work) → IsTaken w draft.records o → Ends w entry (settled refused w entry draft.answer o)
  unfolding Ends Tells
  settled_tells w k entry draft is own None passes =
      (record { policy = (λ _. (draft, is, passes), λ _. told over_a_limit entry); leads = ap (λ (error : ℤ). int_eq error NOT_CONTROLLER) (told over_a_limit entry) }, k)
  settled_tells w k entry draft is own (Some after) fits =
      (own_tells w entry draft.answer own (λ passes. fits.1 (ok_same w entry draft passes.0 is passes.1 passes.2)), fits.0)

  done_tells : (w : Work) → IsGoing w → (entry : E) (r : Result (Draft A) ℤ) → rule w.image w.place entry ≡ r → MatchResult r (λ draft. Breaks w.place w.image draft.records) (λ error. int_eq error POLICY_VIOLATION ≡ false) → AnswersOwn error_of r → Ends w entry (done refused w entry r)
  unfolding Ends Tells done
  done_tells w k entry (Err error) is limits own =
      (own_tells w entry (refused error entry) (subst IsOwn (sym (told error entry)) own) (λ passes. absurd (let no = sym is ∙ passes.1 in cc)), k)
  done_tells w k entry (Ok draft) is limits own = settled_tells w k entry draft is own (taken w draft.records) (is_taken w k draft.records limits)

  one_tells : (w : Work) → IsGoing w → (entry : E) → Ends w entry (one refused rule w entry)
  one_tells w k entry =
      done_tells w k entry (rule w.image w.place entry) refl
      (subst (λ (z : ℤ). MatchResult (rule w.image z entry) (λ draft. Breaks z w.image draft.records) (λ error. int_eq error POLICY_VIOLATION ≡ false)) (sym k.at) (limited w.image k.place entry k.valid))
      (answers_own w.image w.place entry)

  all_tell : (w : Work) → IsGoing w → (entries : List E) → TellLimits error_of refused rule w entries (answers refused rule w entries) × IsGoing (after_all refused rule w entries)
  unfolding Ends Tells
  all_tell w k [] = (tt, k)
  all_tell w k (entry ∷ entries) =
      let here = one_tells w k entry in
      let behind = all_tell (one refused rule w entry).0 here.1 entries in
      ((here.0, behind.0), behind.1)

  module _ {G B : Type 0} (entries_of : G → List E) (answer_of : G → List A → B) (parts_of : B → List A) (same : (group : G) (given : List A) → parts_of (answer_of group given) ≡ given) where
    groups_tell : (w : Work) → IsGoing w → (groups : List G) → GroupsTellLimits error_of refused rule entries_of parts_of w groups (group_answers refused rule entries_of answer_of w groups)
    groups_tell w k [] = tt
    groups_tell w k (group ∷ groups) =
        let here = all_tell w k (entries_of group) in (
          subst (λ (given : List A). TellLimits error_of refused rule w (entries_of group) given) (sym (same group (answers refused rule w (entries_of group)))) here.0,
          groups_tell (after_all refused rule w (entries_of group)) here.1 groups,
        )

-- ---- requests

module _ (options : Options) (basis : Basis) (image : Image) (place : ℕ) (valid : IsValid image) where
  abbrev start : Work
  start = nothing_decided (pos place) image

  going : IsGoing start
  going = record { valid = valid; place = place; at = refl }

  -- what is said of the whole request's work and reply
  abbrev Tell : Request → Work × Reply → Type 0
  Tell request d = ReplyTellsLimits options basis image (pos place) request d.1

  if_stale : (q : _) (test : Bool) (x y : Work × Reply) → Tell (requests.AlterPartition q) x → Tell (requests.AlterPartition q) y → Tell (requests.AlterPartition q) (cond test x y)
  if_stale q true x y first then = first
  if_stale q false x y first then = then

  if_kind : (q : _) (test : Bool) (x y : Work × Reply) → Tell (requests.ElectLeaders q) x → Tell (requests.ElectLeaders q) y → Tell (requests.ElectLeaders q) (cond test x y)
  if_kind q true x y first then = first
  if_kind q false x y first then = then

  tells : (request : Request) → Tell request (work_of options basis.time (heard basis) image (pos place) request)
  unfolding Ends Tells work_of broker_registration.decided broker_heartbeat.decided unregister_broker.decided create_topics.decided delete_topics.decided create_partitions.decided alter_partition.decided elect_leaders.decided alter_partition_reassignments.decided incremental_alter_configs.decided
  tells (requests.BrokerRegistration q) = (one_tells (λ (answer : BrokerRegistrationReply). answer.error) broker_registration.refused (broker_registration.rule options basis.time (heard basis)) (λ error entry. refl) (limits_alone_refuse.registrations options basis.time (heard basis)) (λ image place entry. own.registers image place options basis.time (heard basis) entry) start going q).0
  tells (requests.BrokerHeartbeat q) = (one_tells (λ (answer : BrokerHeartbeatReply). answer.error) broker_heartbeat.refused (broker_heartbeat.rule options (heard basis)) (λ error entry. refl) (limits_alone_refuse.heartbeats options (heard basis)) (λ image place entry. own.beats image place options (heard basis) entry) start going q).0
  tells (requests.UnregisterBroker q) = (one_tells (λ (answer : UnregisterBrokerReply). answer.error) unregister_broker.refused (unregister_broker.rule options) (λ error entry. refl) (limits_alone_refuse.unregistrations options) (λ image place entry. own.unregisters image place options entry) start going q).0
  tells (requests.CreateTopics q) = (all_tell (λ (answer : CreatableTopicResult). answer.error) refused_create_topics (create_topics.rule options q.validate_only) (λ error entry. refl) (limits_alone_refuse.new_topics options q.validate_only) (λ image place entry. own.creates image place options q.validate_only entry) start going q.topics).0
  tells (requests.DeleteTopics q) = (all_tell (λ (answer : DeletableTopicResult). answer.error) refused_delete_topics delete_topics.rule (λ error entry. refl) limits_alone_refuse.removed_topics (λ image place entry. own.deletes image place entry) start going q.topics).0
  tells (requests.CreatePartitions q) = (all_tell (λ (answer : CreatePartitionsTopicResult). answer.error) refused_create_partitions create_partitions.rule (λ error entry. refl) limits_alone_refuse.new_partitions (λ image place entry. own.grows image place entry) start going q.topics).0
  tells (requests.AlterPartition q) =
      if_stale q (alter_partition.is_stale image q) _ _ (refl, tt)
      (refl, groups_tell (λ (answer : AlterPartitionResult). answer.error) alter_partition.refused (alter_partition.rule options q.broker) (λ error entry. refl) (limits_alone_refuse.reports options q.broker) (λ image place entry. own.reports image place options q.broker entry) alter_partition.entries_of alter_partition.answer_of (λ (t : AlterPartitionTopicResult). t.partitions) (λ group given. refl) start going q.topics)
  tells (requests.ElectLeaders q) =
      let given = group_answers elect_leaders.answer (elect_leaders.rule options q.kind) elect_leaders.entries_of elect_leaders.answer_of start (elect_leaders.groups_of image q.topics) in
      let tell = groups_tell (λ (answer : PartitionElectionResult). answer.error) elect_leaders.answer (elect_leaders.rule options q.kind) (λ error entry. refl) (limits_alone_refuse.elections options q.kind) (λ image place entry. own.elects image place options q.kind entry) elect_leaders.entries_of elect_leaders.answer_of (λ (t : ReplicaElectionResult). t.partitions) (λ group given. refl) start going (elect_leaders.groups_of image q.topics) in
      if_kind q (not (elect_leaders.is_kind q.kind)) _ _ (refl, given, inr refl, tell) (refl, given, inl refl, tell)
  tells (requests.AlterPartitionReassignments q) =
      (refl, groups_tell (λ (answer : ReassignablePartitionResponse). answer.error) alter_partition_reassignments.answer (alter_partition_reassignments.rule options) (λ error entry. refl) (limits_alone_refuse.reassignments options) (λ image place entry. own.reassigns image place options entry) alter_partition_reassignments.entries_of alter_partition_reassignments.answer_of (λ (t : ReassignableTopicResponse). t.partitions) (λ group given. refl) start going q.topics)
  tells (requests.IncrementalAlterConfigs q) = (all_tell (λ (answer : ConfigResponse). answer.error) refused_incremental_alter_configs (incremental_alter_configs.rule options) (λ error entry. refl) (limits_alone_refuse.settings options) (λ image place entry. own.configures image place options entry) start going q.resources).0
  tells (requests.ListPartitionReassignments q) = tt
  tells (requests.Metadata q) = tt

pub replies_tell_limits : RepliesTellLimits
replies_tell_limits options basis image place request valid = tells options basis image place valid request
