use denote.Param.Send.{sendable}
use denote.Param.SendFields.{declared_send}
use Rattle.std.proofs.Crossing as heap
use Rattle.kr_shared.proofs.Sent.{client_send}
use Rattle.kr_host.proofs.door.Door.TheSendSync as door
use Rattle.kr_host.proofs.watch.Watch.TheSendSync as watch
use Rattle.kr_host.proofs.clients.spawn_client.Goals as goal

-- the seat, its watch and the door may go to another thread
pub spawn-requires-send-F : goal.spawn-requires-send-F
spawn-requires-send-F g c κs within = search (sendable, declared_send, client_send, heap.Arc-send, door.the_send, door.the_sync, watch.the_send, watch.the_sync) depth 20
