-- A copy may go to another thread, and threads may share it; a seat and the publisher may go to another thread.
use denote.RattleType.{RattleType}
use denote.Param.Send.{IsSend, IsSync, part_keyless, sendable, view_send, view_sync}
use denote.Param.SendFields.{declared_send, declared_sync}
use Rattle.core.specs.contracts.snapshot.Snapshot.{the_row as snapshot_row}
use Rattle.std.proofs.Crossing as heap
use Rattle.left_right.proofs.reader.Reader.TheSendSync as reader
use Rattle.left_right.proofs.writer.Writer.TheSendSync as writer
use Rattle.kr_base.specs.contracts.history.History.{the_row as history_row}
use Rattle.kr_base.specs.contracts.shared.Shared.{the_row as shared_row}
use Rattle.kr_base.proofs.shared.Shared.TheSendSync as shared
use Rattle.kr_defs.specs.contracts.options.Options.{the_row as options_row}
use Rattle.kr_defs.proofs.options.Options.TheSendSync as options
use Rattle.kr_calls.specs.contracts.events.Entry.{the_row as entry_row}
use Rattle.kr_calls.proofs.events.Entry.TheSendSync as entry
use Rattle.kr_view.specs.contracts.edge.Edge.{the_row as edge_row, the_type as edge_type}
use Rattle.kr_view.specs.contracts.publisher.Publisher.{the_row as publisher_row}
use Rattle.kr_view.specs.contracts.publisher.Publisher.TheInside.{the_type as publisher_type}
use Rattle.kr_view.specs.contracts.run.Step.{the_row as step_row}
use Rattle.kr_view.specs.contracts.seat.Held.{the_row as held_row, the_type as held_type}
use Rattle.kr_view.specs.contracts.seat.ReaderSeat.{the_row as seat_row}
use Rattle.kr_view.specs.contracts.seat.ReaderSeat.TheInside.{the_type as seat_type}
use Rattle.kr_view.specs.contracts.shown.Shown.{the_row}
use Rattle.kr_view.specs.contracts.shown.Shown.TheInside.{the_type}
use Rattle.kr_view.specs.contracts.window.Window.{the_row as window_row}
use Rattle.kr_view.specs.contracts.window.Window.TheInside.{the_type as window_type}
use Rattle.kr_view.proofs.run.Run.TheSendSync as run
use Rattle.kr_view.proofs.run.Step.TheSendSync as step
use Rattle.kr_view.proofs.standing.Standing.TheSendSync as standing
use Rattle.kr_view.proofs.table.Table.TheSendSync as table

-- what only clauses see has no bytes and owns nothing
snapshot_send : (A : RattleType) → IsSend (snapshot_row A)
snapshot_send A = search sendable depth 20

snapshot_sync : (A : RattleType) → IsSync (snapshot_row A)
snapshot_sync A = record { shared = λ d b o κ q. part_keyless (snapshot_row A) (snapshot_send A) q d b o }

history_send : (A : RattleType) → IsSend (history_row A)
history_send A = search sendable depth 20

history_sync : (A : RattleType) → IsSync (history_row A)
history_sync A = search (sendable, snapshot_sync) depth 20

options_send : IsSend (shared_row options_row)
options_send = shared.the_send options_row options.the_send options.the_sync

options_sync : IsSync (shared_row options_row)
options_sync = shared.the_sync options_row options.the_send options.the_sync

-- the options, the allocator, the standing store, the table, the first stop, the number of loads, and the history, field by field
pub shown_send : IsSend the_row
shown_send =
    view_send _ _ _ _ _ (declared_send the_type (options_send, (search sendable depth 20, (standing.the_send, (table.the_send, (search sendable depth 20, (search sendable depth 20, (history_send step_row, tt))))))))

pub shown_sync : IsSync the_row
shown_sync =
    view_sync _ _ _ _ _ (declared_sync the_type (options_sync, (search sendable depth 20, (standing.the_sync, (table.the_sync, (search sendable depth 20, (search sendable depth 20, (history_sync step_row, tt))))))))

-- a reader, with its count; with the end and the number of loads beside it; and with its number
edge_send : IsSend edge_row
edge_send = declared_send edge_type (search (reader.the_send, shown_sync, heap.send, heap.sync, heap.frees) depth 20, (search sendable depth 20, tt))

held_send : IsSend held_row
held_send = declared_send held_type (edge_send, (search sendable depth 20, (search sendable depth 20, tt)))

pub seat_send : IsSend seat_row
seat_send = view_send _ _ _ _ _ (declared_send seat_type (search sendable depth 20, (held_send, tt)))

step_send : IsSend step_row
step_send = step.the_send

entry_send : IsSend entry_row
entry_send = entry.the_send

-- the copies' writer, a run and the allocator; and with what is staged
window_send : IsSend window_row
window_send =
    view_send _ _ _ _ _ (declared_send window_type (search (writer.the_send, shown_send, shown_sync, step_send, heap.send, heap.sync, heap.frees) depth 20, (run.the_send, (search sendable depth 20, tt))))

pub publisher_send : IsSend publisher_row
publisher_send = view_send _ _ _ _ _ (declared_send publisher_type (window_send, (heap.Deque-send _ entry_send, (heap.Deque-send _ entry_send, tt))))
