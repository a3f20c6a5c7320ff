use Rattle.std.proofs.Common.{sym, subst}
use Rattle.serde_json.specs.View.{view}
use Rattle.kr_messages.specs.declared.message_type.ApiMessageType.{ApiMessageType}
use Rattle.kr_request_json.specs.Messages.{IsAnswerTo, message_for}
use Rattle.kr_request_json.proofs.message.put_known.Goals as goal

pub returns-in-Served : goal.returns-in-Served
returns-in-Served c = subst (λ (request : ApiMessageType). IsAnswerTo c.put_served.result (message_for (view c.args.json.now) request)) (sym c.in-Served.is) c.put_served.ensures

pub returns-in-DescribeTopicPartitions : goal.returns-in-DescribeTopicPartitions
unfolding message_for
returns-in-DescribeTopicPartitions c =
    subst (λ (request : ApiMessageType). IsAnswerTo c.put_message.result (message_for (view c.args.json.now) request)) (sym c.in-DescribeTopicPartitions.is) c.put_message.ensures
