-- The laws of replies: what is written stands for them and for no other.
use Rattle.std.proofs.Common.{◌≡◌, ℕ, ℤ, List, [], ◌++◌, refl, sym, ap, ◌∙◌}
use Rattle.std.specs.Int.{w32}
use Rattle.kr_wire.specs.Laws.{Apart}
use Rattle.kr_wire.specs.Schema.{Int16, Int32, End}
use Rattle.kr_wire.specs.Spelling.{signed, tags}
use Rattle.kr_wire.proofs.Apart.{apart, first_apart, written_once}
use Rattle.kr_wire.proofs.ReadingLaws.{joined}
use Rattle.kr_wire.proofs.Schemas.{stands}
use Rattle.kr_calls.specs.declared.calls.Reply.{Reply}
use Rattle.kr_calls.specs.declared.calls.Reply.TheVariants as replies
use Rattle.kr_req.specs.Messages.{IsReply, IsReplyBody}
use Rattle.kr_req.specs.WrittenReplies.{BodyFits, RepliesAreWritten, ReplyFits, answered, body_bytes, reply_bytes}
use Rattle.kr_bodies.specs.BrokerHeartbeat.{broker_heartbeat_reply}
use Rattle.kr_bodies.specs.BrokerRegistration.{broker_registration_reply}
use Rattle.kr_bodies.specs.UnregisterBroker.{unregister_broker_reply}
use Rattle.kr_bodies.specs.IncrementalAlterConfigs.{incremental_alter_configs_reply}
use Rattle.kr_bodies.specs.AlterPartition.{alter_partition_reply}
use Rattle.kr_bodies.specs.AlterPartitionReassignments.{alter_partition_reassignments_reply}
use Rattle.kr_bodies.specs.ElectLeaders.{elect_leaders_reply}
use Rattle.kr_bodies.specs.ListPartitionReassignments.{list_partition_reassignments_reply}
use Rattle.kr_bodies.specs.CreatePartitions.{create_partitions_reply}
use Rattle.kr_bodies.specs.CreateTopics.{create_topics_reply}
use Rattle.kr_bodies.specs.DeleteTopics.{delete_topics_reply}
use Rattle.kr_bodies.specs.Metadata.{metadata_reply}

-- ---- bodies

body_stands : (reply : Reply) → BodyFits reply → IsReplyBody reply (body_bytes reply)
body_stands (replies.BrokerRegistration p) fits = stands broker_registration_reply p fits
body_stands (replies.BrokerHeartbeat p) fits = stands broker_heartbeat_reply p fits
body_stands (replies.UnregisterBroker p) fits = stands unregister_broker_reply p fits
body_stands (replies.CreateTopics p) fits = stands create_topics_reply p fits
body_stands (replies.DeleteTopics p) fits = stands delete_topics_reply p fits
body_stands (replies.CreatePartitions p) fits = stands create_partitions_reply p fits
body_stands (replies.AlterPartition p) fits = stands alter_partition_reply p fits
body_stands (replies.ElectLeaders p) fits = stands elect_leaders_reply p fits
body_stands (replies.AlterPartitionReassignments p) fits = stands alter_partition_reassignments_reply p fits
body_stands (replies.ListPartitionReassignments p) fits = stands list_partition_reassignments_reply p fits
body_stands (replies.IncrementalAlterConfigs p) fits = stands incremental_alter_configs_reply p fits
body_stands (replies.Metadata p) fits = stands metadata_reply p fits
body_stands (replies.Bare error) fits = stands Int16 error fits

-- the bodies of one layout
module _ {X : Type 0} {One : X → List ℕ → Type 0} (of : X → Reply) (one : Apart One) where
  as_replies : (p q : X) (a b s t : List ℕ) → One p a → One q b → a ++ s ≡ b ++ t → (of p ≡ of q) × (s ≡ t)
  as_replies p q a b s t is other same = let f = one p q a b s t is other same in (ap of f.0, f.1)

body_apart : (p q : Reply) (a b s t : List ℕ) → answered p ≡ answered q → IsReplyBody p a → IsReplyBody q b → a ++ s ≡ b ++ t → (p ≡ q) × (s ≡ t)
body_apart (replies.BrokerRegistration p) (replies.BrokerRegistration q) a b s t to is other same = as_replies replies.BrokerRegistration (apart broker_registration_reply) p q a b s t is other same
body_apart (replies.BrokerRegistration p) q a b s t to is other same = absurd cc
body_apart (replies.BrokerHeartbeat p) (replies.BrokerHeartbeat q) a b s t to is other same = as_replies replies.BrokerHeartbeat (apart broker_heartbeat_reply) p q a b s t is other same
body_apart (replies.BrokerHeartbeat p) q a b s t to is other same = absurd cc
body_apart (replies.UnregisterBroker p) (replies.UnregisterBroker q) a b s t to is other same = as_replies replies.UnregisterBroker (apart unregister_broker_reply) p q a b s t is other same
body_apart (replies.UnregisterBroker p) q a b s t to is other same = absurd cc
body_apart (replies.CreateTopics p) (replies.CreateTopics q) a b s t to is other same = as_replies replies.CreateTopics (apart create_topics_reply) p q a b s t is other same
body_apart (replies.CreateTopics p) q a b s t to is other same = absurd cc
body_apart (replies.DeleteTopics p) (replies.DeleteTopics q) a b s t to is other same = as_replies replies.DeleteTopics (apart delete_topics_reply) p q a b s t is other same
body_apart (replies.DeleteTopics p) q a b s t to is other same = absurd cc
body_apart (replies.CreatePartitions p) (replies.CreatePartitions q) a b s t to is other same = as_replies replies.CreatePartitions (apart create_partitions_reply) p q a b s t is other same
body_apart (replies.CreatePartitions p) q a b s t to is other same = absurd cc
body_apart (replies.AlterPartition p) (replies.AlterPartition q) a b s t to is other same = as_replies replies.AlterPartition (apart alter_partition_reply) p q a b s t is other same
body_apart (replies.AlterPartition p) q a b s t to is other same = absurd cc
body_apart (replies.ElectLeaders p) (replies.ElectLeaders q) a b s t to is other same = as_replies replies.ElectLeaders (apart elect_leaders_reply) p q a b s t is other same
body_apart (replies.ElectLeaders p) q a b s t to is other same = absurd cc
body_apart (replies.AlterPartitionReassignments p) (replies.AlterPartitionReassignments q) a b s t to is other same = as_replies replies.AlterPartitionReassignments (apart alter_partition_reassignments_reply) p q a b s t is other same
body_apart (replies.AlterPartitionReassignments p) q a b s t to is other same = absurd cc
body_apart (replies.ListPartitionReassignments p) (replies.ListPartitionReassignments q) a b s t to is other same = as_replies replies.ListPartitionReassignments (apart list_partition_reassignments_reply) p q a b s t is other same
body_apart (replies.ListPartitionReassignments p) q a b s t to is other same = absurd cc
body_apart (replies.IncrementalAlterConfigs p) (replies.IncrementalAlterConfigs q) a b s t to is other same = as_replies replies.IncrementalAlterConfigs (apart incremental_alter_configs_reply) p q a b s t is other same
body_apart (replies.IncrementalAlterConfigs p) q a b s t to is other same = absurd cc
body_apart (replies.Metadata p) (replies.Metadata q) a b s t to is other same = as_replies replies.Metadata (apart metadata_reply) p q a b s t is other same
body_apart (replies.Metadata p) q a b s t to is other same = absurd cc
body_apart (replies.Bare p) (replies.Bare q) a b s t to is other same = as_replies replies.Bare (apart Int16) p q a b s t is other same
body_apart (replies.Bare p) q a b s t to is other same = absurd cc

-- ---- messages

pub reply_stands : (correlation : ℤ) (reply : Reply) → ReplyFits correlation reply → IsReply correlation reply (reply_bytes correlation reply)
reply_stands correlation reply fits =
    joined (signed w32 correlation) (tags [] ++ body_bytes reply) (stands Int32 correlation fits.0) (joined (tags []) (body_bytes reply) (stands End tt tt) (body_stands reply fits.1))

pub replies_apart : (c d : ℤ) (p q : Reply) (a b s t : List ℕ) → answered p ≡ answered q → IsReply c p a → IsReply d q b → a ++ s ≡ b ++ t → (c ≡ d) × (p ≡ q) × (s ≡ t)
replies_apart c d p q a b s t to j k same =
    let f = first_apart (apart Int32) c d _ _ a b s t j k same in
    let g = first_apart (apart End) tt tt _ _ j.right k.right s t j.second k.second f.1 in
    let h = body_apart p q j.second.right k.second.right s t to j.second.second k.second.second g.1 in
    (f.0, h.0, h.1)

pub replies_written : RepliesAreWritten
replies_written request = written_once
    (λ m fits. (fits.0, reply_stands m.0 m.1 fits.1))
    (λ m n a b s t is other same.
    let f = replies_apart m.0 n.0 m.1 n.1 a b s t (is.0 ∙ sym other.0) is.1 other.1 same in
    let both : (m.0, m.1) ≡ (n.0, n.1) = rw (f.0, f.1) refl in
    (both, f.2))
