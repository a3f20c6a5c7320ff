use Rattle.std.proofs.Common.{sym, subst}
use Rattle.serde_json.specs.View.{view}
use Rattle.kr_messages.specs.declared.message_type.ApiMessageType.TheVariants as types
use Rattle.kr_req.specs.declared.api.ApiKey.{ApiKey}
use Rattle.kr_request_json.specs.Messages.{IsAnswerTo, message_for}
use Rattle.kr_request_json.proofs.message.put_served.Goals as goal

pub returns-in-BrokerRegistration : goal.returns-in-BrokerRegistration
unfolding message_for
returns-in-BrokerRegistration c = subst (λ (api : ApiKey). IsAnswerTo c.put_message.result (message_for (view c.args.json.now) (types.Served api))) (sym c.in-BrokerRegistration.is) c.put_message.ensures

pub returns-in-BrokerHeartbeat : goal.returns-in-BrokerHeartbeat
unfolding message_for
returns-in-BrokerHeartbeat c = subst (λ (api : ApiKey). IsAnswerTo c.put_message-in-BrokerHeartbeat.result (message_for (view c.args.json.now) (types.Served api))) (sym c.in-BrokerHeartbeat.is) c.put_message-in-BrokerHeartbeat.ensures

pub returns-in-UnregisterBroker : goal.returns-in-UnregisterBroker
unfolding message_for
returns-in-UnregisterBroker c = subst (λ (api : ApiKey). IsAnswerTo c.put_message-in-UnregisterBroker.result (message_for (view c.args.json.now) (types.Served api))) (sym c.in-UnregisterBroker.is) c.put_message-in-UnregisterBroker.ensures

pub returns-in-CreateTopics : goal.returns-in-CreateTopics
unfolding message_for
returns-in-CreateTopics c = subst (λ (api : ApiKey). IsAnswerTo c.put_message-in-CreateTopics.result (message_for (view c.args.json.now) (types.Served api))) (sym c.in-CreateTopics.is) c.put_message-in-CreateTopics.ensures

pub returns-in-DeleteTopics : goal.returns-in-DeleteTopics
unfolding message_for
returns-in-DeleteTopics c = subst (λ (api : ApiKey). IsAnswerTo c.put_message-in-DeleteTopics.result (message_for (view c.args.json.now) (types.Served api))) (sym c.in-DeleteTopics.is) c.put_message-in-DeleteTopics.ensures

pub returns-in-CreatePartitions : goal.returns-in-CreatePartitions
unfolding message_for
returns-in-CreatePartitions c = subst (λ (api : ApiKey). IsAnswerTo c.put_message-in-CreatePartitions.result (message_for (view c.args.json.now) (types.Served api))) (sym c.in-CreatePartitions.is) c.put_message-in-CreatePartitions.ensures

pub returns-in-AlterPartition : goal.returns-in-AlterPartition
unfolding message_for
returns-in-AlterPartition c = subst (λ (api : ApiKey). IsAnswerTo c.put_message-in-AlterPartition.result (message_for (view c.args.json.now) (types.Served api))) (sym c.in-AlterPartition.is) c.put_message-in-AlterPartition.ensures

pub returns-in-ElectLeaders : goal.returns-in-ElectLeaders
unfolding message_for
returns-in-ElectLeaders c = subst (λ (api : ApiKey). IsAnswerTo c.put_message-in-ElectLeaders.result (message_for (view c.args.json.now) (types.Served api))) (sym c.in-ElectLeaders.is) c.put_message-in-ElectLeaders.ensures

pub returns-in-AlterPartitionReassignments : goal.returns-in-AlterPartitionReassignments
unfolding message_for
returns-in-AlterPartitionReassignments c = subst (λ (api : ApiKey). IsAnswerTo c.put_message-in-AlterPartitionReassignments.result (message_for (view c.args.json.now) (types.Served api))) (sym c.in-AlterPartitionReassignments.is) c.put_message-in-AlterPartitionReassignments.ensures

pub returns-in-ListPartitionReassignments : goal.returns-in-ListPartitionReassignments
unfolding message_for
returns-in-ListPartitionReassignments c = subst (λ (api : ApiKey). IsAnswerTo c.put_message-in-ListPartitionReassignments.result (message_for (view c.args.json.now) (types.Served api))) (sym c.in-ListPartitionReassignments.is) c.put_message-in-ListPartitionReassignments.ensures

pub returns-in-IncrementalAlterConfigs : goal.returns-in-IncrementalAlterConfigs
unfolding message_for
returns-in-IncrementalAlterConfigs c = subst (λ (api : ApiKey). IsAnswerTo c.put_message-in-IncrementalAlterConfigs.result (message_for (view c.args.json.now) (types.Served api))) (sym c.in-IncrementalAlterConfigs.is) c.put_message-in-IncrementalAlterConfigs.ensures

pub returns-in-Metadata : goal.returns-in-Metadata
unfolding message_for
returns-in-Metadata c = subst (λ (api : ApiKey). IsAnswerTo c.put_message-in-Metadata.result (message_for (view c.args.json.now) (types.Served api))) (sym c.in-Metadata.is) c.put_message-in-Metadata.ensures
