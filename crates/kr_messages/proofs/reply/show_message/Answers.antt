use Rattle.kr_messages.proofs.Whole.{message_shown}
use Rattle.kr_messages.proofs.reply.show_message.Goals as goal

pub returns : goal.returns
returns g c = message_shown g.T.Shape.form _ g.met.T.Shape.is_whole (λ i. (c.type_inv.bytes i).fits) _ c.show_whole.ensures
