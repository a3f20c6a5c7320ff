-- A client's seat and the worker's may go to another thread.
use denote.Param.Send.{IsSend, sendable, view_send}
use denote.Param.SendFields.{declared_send}
use Rattle.std.proofs.Crossing as heap
use Rattle.std.proofs.option.Option.TheSendSync as option
use Rattle.kr_calls.specs.contracts.events.Entry.{the_row as entry_row}
use Rattle.kr_calls.proofs.events.Entry.TheSendSync as entry
use Rattle.kr_calls.proofs.events.Reason.TheSendSync as reason
use Rattle.kr_engine.proofs.Sent.{engine_send}
use Rattle.kr_queue.specs.contracts.queue.Queue.{the_row as queue_row}
use Rattle.kr_queue.proofs.jobs.Job.TheSendSync as job
use Rattle.kr_queue.proofs.passes.Pass.TheSendSync as pass
use Rattle.kr_queue.proofs.queue.Queue.TheSendSync as queue
use Rattle.kr_view.proofs.Sent.{publisher_send, seat_send}
use Rattle.kr_shared.specs.contracts.asked.Asked.{the_row as asked_row}
use Rattle.kr_shared.proofs.asked.Asked.TheSendSync as asked
use Rattle.kr_shared.specs.contracts.bell.Bell.{the_row as bell_row}
use Rattle.kr_shared.proofs.bell.Bell.TheSendSync as bell
use Rattle.kr_shared.specs.contracts.bell.SeatBells.{the_row as seat_bells_row}
use Rattle.kr_shared.proofs.bell.SeatBells.TheSendSync as seat_bells
use Rattle.kr_shared.specs.contracts.clients.Bells.{the_row as bells_row}
use Rattle.kr_shared.proofs.clients.Bells.TheSendSync as bells
use Rattle.kr_shared.specs.contracts.clients.ClientSeat.{the_row as client_row}
use Rattle.kr_shared.specs.contracts.clients.ClientSeat.TheInside.{the_type as client_type}
use Rattle.kr_shared.specs.contracts.desk.Desk.{the_row as desk_row}
use Rattle.kr_shared.specs.contracts.desk.Desk.TheInside.{the_type as desk_type}
use Rattle.kr_shared.specs.contracts.line.Line.{the_row as line_row}
use Rattle.kr_shared.specs.contracts.line.Line.TheInside.{the_type as line_type}
use Rattle.kr_shared.specs.contracts.line.Note.{the_row as note_row}
use Rattle.kr_shared.proofs.line.Note.TheSendSync as note
use Rattle.kr_shared.proofs.places.Places.TheSendSync as places
use Rattle.kr_shared.specs.contracts.worker.WorkerSeat.{the_row as worker_row}
use Rattle.kr_shared.specs.contracts.worker.WorkerSeat.TheInside.{the_type as worker_type}

-- the allocator, the queue with its pass, the bells, the reader, the number of the last call, and the places
pub client_send : IsSend client_row
client_send = view_send _ _ _ _ _ (declared_send client_type (search sendable depth 20, (heap.Arc-send queue_row queue.the_send queue.the_sync, (pass.the_send, (heap.Arc-send bell_row bell.the_send bell.the_sync, (heap.Arc-send seat_bells_row seat_bells.the_send seat_bells.the_sync, (seat_send, (search sendable depth 20, (places.the_send, tt)))))))))

-- the writes that wait, and what is due
line_send : IsSend line_row
line_send = view_send _ _ _ _ _ (declared_send line_type (heap.Deque-send asked_row asked.the_send, (search (sendable, option.the_send, asked.the_send) depth 20, (heap.Deque-send note_row note.the_send, tt))))

desk_send : IsSend desk_row
desk_send =
    view_send _ _ _ _ _ (declared_send desk_type (search sendable depth 20, (publisher_send, (engine_send, (line_send, (heap.Deque-send entry_row entry.the_send, (heap.Deque-send entry_row entry.the_send, tt)))))))

-- the queue with its pass, the bells, the desk, and what the last turns left
pub worker_send : IsSend worker_row
worker_send =
    view_send _ _ _ _ _ (declared_send worker_type (heap.Arc-send queue_row queue.the_send queue.the_sync, (pass.the_send, (bells.the_send, (desk_send, (search (sendable, option.the_send, job.the_send) depth 20, (search sendable depth 20, (search (sendable, option.the_send, reason.the_send) depth 20, (search sendable depth 20, (search sendable depth 20, (search sendable depth 20, tt)))))))))))
