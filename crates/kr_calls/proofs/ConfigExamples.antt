-- What is decided of settings, by computation: each refusal, and each operation.
use Rattle.std.specs.Prelude.{◌≡◌, ℕ, ℤ, pos, true, List, [], ◌∷◌, Option, Some, None, Result, Ok, Err, codes}
use Rattle.std.proofs.Common.{refl}
use Rattle.kr_defs.specs.declared.partition.Partition.{Partition}
use Rattle.kr_defs.specs.declared.record.Record.{Record}
use Rattle.kr_defs.specs.declared.record.Record.TheVariants as kinds
use Rattle.kr_defs.specs.Apply.{apply_record}
use Rattle.kr_defs.specs.Sizes.{value_bytes}
use Rattle.kr_calls.specs.declared.errors.TheConstants.{INVALID_CONFIG, INVALID_REQUEST, UNKNOWN_TOPIC_OR_PARTITION}
use Rattle.kr_calls.specs.declared.incremental_alter_configs.ConfigOperation.{ConfigOperation}
use Rattle.kr_calls.specs.declared.incremental_alter_configs.ConfigResource.{ConfigResource}
use Rattle.kr_calls.specs.declared.incremental_alter_configs.ConfigResponse.{ConfigResponse}
use Rattle.kr_calls.specs.declared.deciding.Draft.{Draft}
use Rattle.kr_calls.specs.IncrementalAlterConfigs as incremental_alter_configs
use Rattle.kr_calls.specs.declared.calls.Reply.TheVariants as replies
use Rattle.kr_calls.proofs.Cluster.{cluster, image, no_change, options, whole}
use Rattle.kr_calls.specs.Deciding.{nothing_decided, done, taken}

abbrev operation : List ℕ → ℤ → Option (List ℕ) → ConfigOperation
operation name kind value = record { name = name; operation = kind; value = value }

abbrev of_brokers : List ConfigOperation → ConfigResource
of_brokers configs = record { kind = pos 4; name = []; configs = configs }

abbrev configure : ConfigOperation → Result (Draft ConfigResponse) ℤ
configure o = incremental_alter_configs.rule options image (pos 30) (of_brokers (o ∷ []))

unknown_kind : incremental_alter_configs.rule options image (pos 30) (record (of_brokers []) { kind = pos 3 }) ≡ Err INVALID_REQUEST
unknown_kind = refl

unknown_topic : incremental_alter_configs.rule options image (pos 30) (record (of_brokers []) { kind = pos 2; name = codes "x" }) ≡ Err UNKNOWN_TOPIC_OR_PARTITION
unknown_topic = refl

bad_broker : incremental_alter_configs.rule options image (pos 30) (record (of_brokers []) { name = codes "01" }) ≡ Err INVALID_REQUEST
bad_broker = refl

unknown_operation : configure (operation (codes "k") (pos 4) (Some [])) ≡ Err INVALID_REQUEST
unknown_operation = refl

set_without_value : configure (operation (codes "k") (pos 0) None) ≡ Err INVALID_REQUEST
set_without_value = refl

append_without_value : configure (operation (codes "cleanup.policy") (pos 2) None) ≡ Err INVALID_REQUEST
append_without_value = refl

bad_key : configure (operation (codes "k k") (pos 0) (Some [])) ≡ Err INVALID_CONFIG
bad_key = refl

not_a_list : configure (operation (codes "k") (pos 3) (Some (codes "x"))) ≡ Err INVALID_CONFIG
not_a_list = refl

bad_minimum : configure (operation (codes "min.insync.replicas") (pos 0) (Some (codes "0"))) ≡ Err INVALID_CONFIG
bad_minimum = refl

bad_switch : configure (operation (codes "unclean.leader.election.enable") (pos 0) (Some (codes "yes"))) ≡ Err INVALID_CONFIG
bad_switch = refl

-- ---- values

abbrev gives : List Record → Draft ConfigResponse
gives records = record { records = records; answer = record { error = pos 0; kind = pos 4; name = [] } }

abbrev says : List ℕ → Option (List ℕ) → Record
says key value = kinds.Config (pos 4) [] key value

sets : configure (operation (codes "k") (pos 0) (Some (codes "x"))) ≡ Ok (gives (says (codes "k") (Some (codes "x")) ∷ []))
sets = refl

-- it stands so already
sets_nothing_new : configure (operation (codes "min.insync.replicas") (pos 0) (Some (codes "2"))) ≡ Ok (gives [])
sets_nothing_new = refl

deletes_nothing : configure (operation (codes "k") (pos 1) None) ≡ Ok (gives [])
deletes_nothing = refl

-- the topic's minimum is now the option's, 1; nobody stands by
deletes : configure (operation (codes "min.insync.replicas") (pos 1) None) ≡ Ok (gives (says (codes "min.insync.replicas") None ∷ []))
deletes = refl

appends_to_nothing : configure (operation (codes "cleanup.policy") (pos 2) (Some (codes "a,b,a"))) ≡ Ok (gives (says (codes "cleanup.policy") (Some (codes "a,b")) ∷ []))
appends_to_nothing = refl

-- an empty text comes where there was none
subtracts_from_nothing : configure (operation (codes "cleanup.policy") (pos 3) (Some (codes "a"))) ≡ Ok (gives (says (codes "cleanup.policy") (Some []) ∷ []))
subtracts_from_nothing = refl

-- later operations see what earlier ones left, and the records come in the order of first naming
one_after_the_other : incremental_alter_configs.rule options image (pos 30) (of_brokers (
    operation (codes "cleanup.policy") (pos 0) (Some (codes "a,b,a"))
    ∷ operation (codes "k") (pos 0) (Some (codes "1"))
    ∷ operation (codes "cleanup.policy") (pos 3) (Some (codes "a"))
    ∷ operation (codes "cleanup.policy") (pos 2) (Some (codes "c"))
    ∷ operation (codes "k") (pos 0) (Some (codes "2")) ∷ []))
    ≡ Ok (gives (says (codes "cleanup.policy") (Some (codes "b,c")) ∷ says (codes "k") (Some (codes "2")) ∷ []))
one_after_the_other = refl

-- ---- a lower minimum that enough replicas in sync meet: none stands by any more

abbrev short : Partition
short = record whole { in_sync = pos 1 ∷ []; eligible = pos 2 ∷ []; last_known = pos 3 ∷ [] }

lower : incremental_alter_configs.rule options (cluster short) (pos 30) (of_brokers (operation (codes "min.insync.replicas") (pos 0) (Some (codes "1")) ∷ []))
    ≡ Ok (gives (says (codes "min.insync.replicas") (Some (codes "1"))
    ∷ kinds.PartitionChange (pos 0) 77 (record no_change { eligible = Some []; last_known = Some [] }) ∷ []))
lower = refl

-- two of three aren't in sync
not_enough : incremental_alter_configs.rule options (cluster short) (pos 30) (of_brokers (operation (codes "min.insync.replicas") (pos 0) (Some (codes "3")) ∷ []))
    ≡ Ok (gives (says (codes "min.insync.replicas") (Some (codes "3")) ∷ []))
not_enough = refl

-- ---- validate-only: the same answers, and nothing stands

abbrev setting : ConfigResource
setting = of_brokers (operation (codes "k") (pos 0) (Some (codes "x")) ∷ [])

validated : incremental_alter_configs.decided options image (pos 30) (record { resources = setting ∷ []; validate_only = true })
    ≡ (nothing_decided (pos 30) image, replies.IncrementalAlterConfigs (record { responses = record { error = pos 0; kind = pos 4; name = [] } ∷ [] }))
unfolding incremental_alter_configs.decided done taken apply_record value_bytes
validated = refl
