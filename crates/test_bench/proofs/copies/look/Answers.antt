use denote.Param.Send.{arg_send, param_send}
use Rattle.kr_view.proofs.Sent.{seat_send}
use Rattle.test_bench.proofs.copies.look.Goals as goal

pub map_vec-requires-send-J : goal.map_vec-requires-send-J
map_vec-requires-send-J g c κs within = search (param_send, arg_send, seat_send) depth 8
