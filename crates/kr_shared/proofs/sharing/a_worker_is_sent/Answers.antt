use denote.Param.Send.{arg_send, param_send}
use Rattle.kr_shared.proofs.Sent.{worker_send}
use Rattle.kr_shared.proofs.sharing.a_worker_is_sent.Goals as goal

pub is_sent-requires-send-T : goal.is_sent-requires-send-T
is_sent-requires-send-T c κs = search (param_send, arg_send, worker_send) depth 8
