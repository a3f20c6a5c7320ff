use denote.Param.Send.{arg_send, param_send}
use Rattle.kr_view.proofs.Sent.{seat_send}
use Rattle.kr_view.proofs.sharing.a_seat_is_sent.Goals as goal

pub is_sent-requires-send-T : goal.is_sent-requires-send-T
is_sent-requires-send-T c κs = search (param_send, arg_send, seat_send) depth 8
