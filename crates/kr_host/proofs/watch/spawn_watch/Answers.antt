use denote.Param.Send.{sendable}
use denote.Param.SendFields.{declared_send}
use Rattle.std.proofs.Crossing as heap
use Rattle.kr_host.proofs.door.Door.TheSendSync as door
use Rattle.kr_host.proofs.watch.Watch.TheSendSync as watch
use Rattle.kr_host.proofs.watch.spawn_watch.Goals as goal

-- the watches and the door may go to another thread
pub spawn-requires-send-F : goal.spawn-requires-send-F
spawn-requires-send-F g c κs within = search (sendable, declared_send, heap.Vec-send, heap.Arc-send, door.the_send, door.the_sync, watch.the_send, watch.the_sync) depth 20
