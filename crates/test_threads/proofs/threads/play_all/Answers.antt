use denote.Param.Send.{arg_send, param_send}
use Rattle.kr_shared.proofs.Sent.{client_send}
use Rattle.test_threads.proofs.threads.play_all.Goals as goal

pub for_each_mut-requires-send-T : goal.for_each_mut-requires-send-T
for_each_mut-requires-send-T g c κs within = search (param_send, arg_send, client_send) depth 8
