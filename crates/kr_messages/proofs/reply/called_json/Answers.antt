use Rattle.kr_messages.specs.declared.message_type.ApiMessageType.TheVariants as types
use Rattle.kr_messages.proofs.Whole.{shown_of_type}
use Rattle.kr_messages.proofs.reply.called_json.Goals as goal

pub returns-in-Served : goal.returns-in-Served
returns-in-Served c = shown_of_type _ _ _ _ c.in-Served.is c.served_json.ensures

pub returns-in-DescribeTopicPartitions : goal.returns-in-DescribeTopicPartitions
returns-in-DescribeTopicPartitions c = shown_of_type _ types.DescribeTopicPartitions _ _ c.in-DescribeTopicPartitions.is c.show_message.ensures
