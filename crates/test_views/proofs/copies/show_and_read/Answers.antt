use denote.Param.Send.{sendable}
use denote.Param.SendFields.{declared_send}
use Rattle.kr_view.proofs.Sent.{seat_send}
use Rattle.test_views.proofs.copies.show_and_read.Goals as goal

pub spawn-requires-send-F : goal.spawn-requires-send-F
spawn-requires-send-F g c κs within = search (sendable, declared_send, seat_send) depth 20

pub spawn-requires-send-T : goal.spawn-requires-send-T
spawn-requires-send-T g c κs within = search (sendable, declared_send, seat_send) depth 20
