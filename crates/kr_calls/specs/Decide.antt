-- What each request gives: a write its records, its reply and the next basis, a read its reply.
use Rattle.std.specs.Prelude.{ℤ, pos, Bool, true, false, List, Option, Some, None}
use Rattle.kr_defs.specs.declared.basis.Basis.{Basis}
use Rattle.kr_defs.specs.declared.options.Options.{Options}
use Rattle.kr_defs.specs.declared.record.Record.{Record}
use Rattle.kr_defs.specs.Heartbeats.{Heartbeats, heard}
use Rattle.kr_defs.specs.Image.{Image}
use Rattle.kr_calls.specs.declared.calls.Reply.{Reply}
use Rattle.kr_calls.specs.declared.calls.Request.{Request}
use Rattle.kr_calls.specs.AlterPartition as alter_partition
use Rattle.kr_calls.specs.AlterPartitionReassignments as alter_partition_reassignments
use Rattle.kr_calls.specs.BrokerHeartbeat as broker_heartbeat
use Rattle.kr_calls.specs.BrokerRegistration as broker_registration
use Rattle.kr_calls.specs.CreatePartitions as create_partitions
use Rattle.kr_calls.specs.CreateTopics as create_topics
use Rattle.kr_calls.specs.DeleteTopics as delete_topics
use Rattle.kr_calls.specs.ElectLeaders as elect_leaders
use Rattle.kr_calls.specs.IncrementalAlterConfigs as incremental_alter_configs
use Rattle.kr_calls.specs.ListPartitionReassignments as list_partition_reassignments
use Rattle.kr_calls.specs.Metadata as metadata
use Rattle.kr_calls.specs.UnregisterBroker as unregister_broker
use Rattle.kr_calls.specs.declared.calls.Reply.TheVariants as replies
use Rattle.kr_calls.specs.declared.calls.Request.TheVariants as requests
use Rattle.kr_calls.specs.Deciding.{Work, nothing_decided}
use Rattle.kr_calls.specs.NextBasis.{heartbeats_after}

-- the records, the image after them, the reply, and the brokers that are heard of
pub record Decision : Type 0 where
  pub records : List Record
  pub image : Image
  pub reply : Reply
  pub heartbeats : Heartbeats

-- a read changes nothing; its reply is given by `query`
abbrev pub no_work : Image → ℤ → Work × Reply
no_work image place = (nothing_decided place image, replies.Bare (pos 0))

-- at the time, by a node that hears of these brokers
unfoldable pub work_of : Options → ℤ → Heartbeats → Image → ℤ → Request → Work × Reply
work_of options time heartbeats image place (requests.BrokerRegistration q) = broker_registration.decided options time heartbeats image place q
work_of options time heartbeats image place (requests.BrokerHeartbeat q) = broker_heartbeat.decided options heartbeats image place q
work_of options time heartbeats image place (requests.UnregisterBroker q) = unregister_broker.decided options image place q
work_of options time heartbeats image place (requests.CreateTopics q) = create_topics.decided options image place q
work_of options time heartbeats image place (requests.DeleteTopics q) = delete_topics.decided image place q
work_of options time heartbeats image place (requests.CreatePartitions q) = create_partitions.decided image place q
work_of options time heartbeats image place (requests.AlterPartition q) = alter_partition.decided options image place q
work_of options time heartbeats image place (requests.ElectLeaders q) = elect_leaders.decided options image place q
work_of options time heartbeats image place (requests.AlterPartitionReassignments q) = alter_partition_reassignments.decided options image place q
work_of options time heartbeats image place (requests.IncrementalAlterConfigs q) = incremental_alter_configs.decided options image place q
work_of options time heartbeats image place (requests.ListPartitionReassignments q) = no_work image place
work_of options time heartbeats image place (requests.Metadata q) = no_work image place

-- the same, with whom is heard of then
abbrev pub decision_of : Options → ℤ → Heartbeats → Image → ℤ → Request → Decision
decision_of options time heartbeats image place request =
    let d = work_of options time heartbeats image place request in
    record {
      records = d.0.records;
      image = d.0.image;
      reply = d.1;
      heartbeats = heartbeats_after heartbeats image d.0.image time place request d.1;
    }

-- the request is decided on the image at the place, with the basis whose time is the present one
abbrev pub decide : Options → Image → Basis → ℤ → Request → Decision
decide options image basis place request = decision_of options basis.time (heard basis) image place request

-- it changes nothing, whoever leads
abbrev pub is_read : Request → Bool
is_read (requests.ListPartitionReassignments q) = true
is_read (requests.Metadata q) = true
is_read other = false

-- the reply to a read on an image
unfoldable pub query : Options → Image → Request → Option Reply
query options image (requests.ListPartitionReassignments q) = Some (list_partition_reassignments.queried image q)
query options image (requests.Metadata q) = Some (metadata.queried options image q)
query options image other = None
