use Rattle.kr_messages.proofs.Showing.{message_taken}
use Rattle.kr_messages.proofs.reply.ResponseMessageShape.show.Goals as goal

pub returns : goal.returns
returns g c =
    message_taken g.H.Shape.form g.B.Shape.form _ _ _ _ _ _ _ _ _ c.in_ok-put_str.ensures c.in_ok-show.ensures c.in_ok-put_str-2.ensures c.in_ok-show-2.ensures c.in_ok-put_str-3.ensures
