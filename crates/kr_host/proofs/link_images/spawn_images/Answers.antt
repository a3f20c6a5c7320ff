use denote.Param.Send.{IsSend, sendable}
use denote.Param.SendFields.{declared_send}
use Rattle.std.proofs.Crossing as heap
use Rattle.kr_shared.proofs.Sent.{client_send}
use Rattle.kr_host.specs.contracts.asked_images.AskedImages.{the_row as asked_row}
use Rattle.kr_host.proofs.asked_images.AskedImages.TheSendSync as asked
use Rattle.kr_host.proofs.line.Line.TheSendSync as line
use Rattle.kr_host.specs.contracts.link_images.LinkImages.{the_row as images_row, the_type as images_type}
use Rattle.kr_host.proofs.link_images.spawn_images.Goals as goal

-- the line, the seat and the questions may go to another thread
images_send : IsSend images_row
images_send = declared_send images_type (search sendable depth 20, (line.the_send, (client_send, (heap.Arc-send asked_row asked.the_send asked.the_sync, (search sendable depth 20, (search sendable depth 20, tt))))))

pub spawn-requires-send-F : goal.spawn-requires-send-F
spawn-requires-send-F g c κs within = search (sendable, declared_send, images_send) depth 20
