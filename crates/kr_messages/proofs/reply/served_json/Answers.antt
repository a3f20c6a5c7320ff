use Rattle.kr_req.specs.declared.api.ApiKey.TheVariants as apis
use Rattle.kr_messages.proofs.Whole.{shown_of_key}
use Rattle.kr_messages.proofs.reply.served_json.Goals as goal

pub returns-in-BrokerRegistration : goal.returns-in-BrokerRegistration
returns-in-BrokerRegistration c = shown_of_key _ apis.BrokerRegistration _ _ c.in-BrokerRegistration.is c.show_message.ensures

pub returns-in-BrokerHeartbeat : goal.returns-in-BrokerHeartbeat
returns-in-BrokerHeartbeat c = shown_of_key _ apis.BrokerHeartbeat _ _ c.in-BrokerHeartbeat.is c.show_message-in-BrokerHeartbeat.ensures

pub returns-in-UnregisterBroker : goal.returns-in-UnregisterBroker
returns-in-UnregisterBroker c = shown_of_key _ apis.UnregisterBroker _ _ c.in-UnregisterBroker.is c.show_message-in-UnregisterBroker.ensures

pub returns-in-CreateTopics : goal.returns-in-CreateTopics
returns-in-CreateTopics c = shown_of_key _ apis.CreateTopics _ _ c.in-CreateTopics.is c.show_message-in-CreateTopics.ensures

pub returns-in-DeleteTopics : goal.returns-in-DeleteTopics
returns-in-DeleteTopics c = shown_of_key _ apis.DeleteTopics _ _ c.in-DeleteTopics.is c.show_message-in-DeleteTopics.ensures

pub returns-in-CreatePartitions : goal.returns-in-CreatePartitions
returns-in-CreatePartitions c = shown_of_key _ apis.CreatePartitions _ _ c.in-CreatePartitions.is c.show_message-in-CreatePartitions.ensures

pub returns-in-AlterPartition : goal.returns-in-AlterPartition
returns-in-AlterPartition c = shown_of_key _ apis.AlterPartition _ _ c.in-AlterPartition.is c.show_message-in-AlterPartition.ensures

pub returns-in-ElectLeaders : goal.returns-in-ElectLeaders
returns-in-ElectLeaders c = shown_of_key _ apis.ElectLeaders _ _ c.in-ElectLeaders.is c.show_message-in-ElectLeaders.ensures

pub returns-in-AlterPartitionReassignments : goal.returns-in-AlterPartitionReassignments
returns-in-AlterPartitionReassignments c = shown_of_key _ apis.AlterPartitionReassignments _ _ c.in-AlterPartitionReassignments.is c.show_message-in-AlterPartitionReassignments.ensures

pub returns-in-ListPartitionReassignments : goal.returns-in-ListPartitionReassignments
returns-in-ListPartitionReassignments c = shown_of_key _ apis.ListPartitionReassignments _ _ c.in-ListPartitionReassignments.is c.show_message-in-ListPartitionReassignments.ensures

pub returns-in-IncrementalAlterConfigs : goal.returns-in-IncrementalAlterConfigs
returns-in-IncrementalAlterConfigs c = shown_of_key _ apis.IncrementalAlterConfigs _ _ c.in-IncrementalAlterConfigs.is c.show_message-in-IncrementalAlterConfigs.ensures

pub returns-in-Metadata : goal.returns-in-Metadata
returns-in-Metadata c = shown_of_key _ apis.Metadata _ _ c.in-Metadata.is c.show_message-in-Metadata.ensures
