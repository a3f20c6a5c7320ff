-- A decided reply has no NOT_CONTROLLER, so it is told from the refusal of each request that asks for something.
use Rattle.std.proofs.Common.{◌≡◌, ℕ, ℤ, pos, true, false, List, [], ◌∷◌, map, refl, subst}
use Rattle.std.specs.Prelude.{Result}
use Rattle.kr_defs.specs.declared.basis.Basis.{Basis}
use Rattle.kr_defs.specs.declared.options.Options.{Options}
use Rattle.kr_defs.specs.Image.{Image}
use Rattle.kr_calls.specs.declared.calls.Reply.{Reply}
use Rattle.kr_calls.specs.declared.calls.Request.{Request}
use Rattle.kr_calls.specs.declared.calls.Request.TheVariants as requests
use Rattle.kr_calls.specs.declared.create_partitions.CreatePartitionsTopicResult.{CreatePartitionsTopicResult}
use Rattle.kr_calls.specs.declared.create_topics.CreatableTopicResult.{CreatableTopicResult}
use Rattle.kr_calls.specs.declared.deciding.Draft.{Draft}
use Rattle.kr_calls.specs.declared.delete_topics.DeletableTopicResult.{DeletableTopicResult}
use Rattle.kr_calls.specs.declared.errors.TheConstants.{NOT_CONTROLLER}
use Rattle.kr_calls.specs.declared.incremental_alter_configs.ConfigResponse.{ConfigResponse}
use Rattle.kr_calls.specs.CreatePartitions as create_partitions
use Rattle.kr_calls.specs.CreateTopics as create_topics
use Rattle.kr_calls.specs.Decide.{is_read}
use Rattle.kr_calls.specs.Deciding.{Work, nothing_decided}
use Rattle.kr_calls.specs.DeleteTopics as delete_topics
use Rattle.kr_calls.specs.IncrementalAlterConfigs as incremental_alter_configs
use Rattle.kr_calls.specs.Refuse.{refuse, refused_create_partitions, refused_create_topics, refused_delete_topics, refused_incremental_alter_configs}
use Rattle.law_replies.specs.LimitReplies.{ReplyTellsLimits, TellLimits}
use Rattle.law_replies.specs.ToldApart.{AsksNothing, RefusalsAreToldApart}
use Rattle.law_replies.proofs.LimitReplies.{replies_tell_limits}

-- no entry is answered so
none_asked : {E A : Type 0} (error_of : A → ℤ) (refused : ℤ → E → A) (rule : Image → ℤ → E → Result (Draft A) ℤ) → ((entry : E) → error_of (refused NOT_CONTROLLER entry) ≡ NOT_CONTROLLER)
    → (w : Work) (entries : List E) → TellLimits error_of refused rule w entries (map (refused NOT_CONTROLLER) entries) → entries ≡ []
none_asked error_of refused rule told w [] tell = refl
none_asked error_of refused rule told w (entry ∷ entries) tell =
    absurd (let no : true ≡ false = subst (λ (error : ℤ). Rattle.std.specs.Ordering.int_eq error NOT_CONTROLLER ≡ false) (told entry) tell.0.leads in cc)

apart : (options : Options) (basis : Basis) (image : Image) (place : ℕ) (request : Request) → is_read request ≡ false → ReplyTellsLimits options basis image (pos place) request (refuse request NOT_CONTROLLER) → AsksNothing request
unfolding refuse
apart options basis image place (requests.BrokerRegistration q) write tell = absurd (let no : true ≡ false = tell.leads in cc)
apart options basis image place (requests.BrokerHeartbeat q) write tell = absurd (let no : true ≡ false = tell.leads in cc)
apart options basis image place (requests.UnregisterBroker q) write tell = absurd (let no : true ≡ false = tell.leads in cc)
apart options basis image place (requests.CreateTopics q) write tell = none_asked (λ (answer : CreatableTopicResult). answer.error) refused_create_topics (create_topics.rule options q.validate_only) (λ entry. refl) (nothing_decided (pos place) image) q.topics tell
apart options basis image place (requests.DeleteTopics q) write tell = none_asked (λ (answer : DeletableTopicResult). answer.error) refused_delete_topics delete_topics.rule (λ entry. refl) (nothing_decided (pos place) image) q.topics tell
apart options basis image place (requests.CreatePartitions q) write tell = none_asked (λ (answer : CreatePartitionsTopicResult). answer.error) refused_create_partitions create_partitions.rule (λ entry. refl) (nothing_decided (pos place) image) q.topics tell
apart options basis image place (requests.AlterPartition q) write tell = absurd (let no : false ≡ true = tell.0 in cc)
apart options basis image place (requests.ElectLeaders q) write tell = absurd (let no : false ≡ true = tell.0 in cc)
apart options basis image place (requests.AlterPartitionReassignments q) write tell = absurd (let no : false ≡ true = tell.0 in cc)
apart options basis image place (requests.IncrementalAlterConfigs q) write tell = none_asked (λ (answer : ConfigResponse). answer.error) refused_incremental_alter_configs (incremental_alter_configs.rule options) (λ entry. refl) (nothing_decided (pos place) image) q.resources tell
apart options basis image place (requests.ListPartitionReassignments q) write tell = absurd (let no : true ≡ false = write in cc)
apart options basis image place (requests.Metadata q) write tell = absurd (let no : true ≡ false = write in cc)

pub refusals_are_told_apart : RefusalsAreToldApart
refusals_are_told_apart options basis image place request valid write is =
    apart options basis image place request write (subst (λ (reply : Reply). ReplyTellsLimits options basis image (pos place) request reply) is (replies_tell_limits options basis image place request valid))
