use denote.Param.Send.{sendable}
use denote.Param.SendFields.{declared_send}
use Rattle.std.proofs.Crossing as heap
use Rattle.std.proofs.net.tcp.TcpStream.TheSendSync as stream
use Rattle.kr_host.proofs.asked_images.AskedImages.TheSendSync as asked
use Rattle.kr_host.proofs.door.Door.TheSendSync as door
use Rattle.kr_host.proofs.link.spawn_link.Goals as goal

-- the stream, the door and the questions may go to another thread
pub spawn-requires-send-F : goal.spawn-requires-send-F
spawn-requires-send-F g c κs within = search (sendable, declared_send, heap.Arc-send, stream.the_send, asked.the_send, asked.the_sync, door.the_send, door.the_sync) depth 20
