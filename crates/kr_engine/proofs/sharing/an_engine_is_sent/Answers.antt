use denote.Param.Send.{arg_send, param_send}
use Rattle.kr_engine.proofs.Sent.{engine_send}
use Rattle.kr_engine.proofs.sharing.an_engine_is_sent.Goals as goal

pub is_sent-requires-send-T : goal.is_sent-requires-send-T
is_sent-requires-send-T c κs = search (param_send, arg_send, engine_send) depth 8
