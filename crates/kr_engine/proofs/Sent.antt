-- An engine may go to another thread.
use denote.Param.Send.{IsSend, sendable, view_send}
use denote.Param.SendFields.{declared_send}
use Rattle.std.proofs.Crossing as heap
use Rattle.std.proofs.option.Option.TheSendSync as option
use Rattle.kr_calls.specs.contracts.events.Entry.{the_row as entry_row}
use Rattle.kr_calls.specs.contracts.events.Output.{the_row as output_row}
use Rattle.kr_calls.proofs.calls.Reply.TheSendSync as reply
use Rattle.kr_calls.proofs.events.Entry.TheSendSync as entry
use Rattle.kr_calls.proofs.events.Output.TheSendSync as output
use Rattle.kr_defs.proofs.options.Options.TheSendSync as options
use Rattle.kr_image.proofs.store.ImageStore.TheSendSync as store
use Rattle.kr_sessions.proofs.sessions.Sessions.TheSendSync as sessions
use Rattle.kr_model.specs.contracts.past_basis.PastBasis.{the_row as basis_row}
use Rattle.kr_model.specs.contracts.writes.Decided.{the_row as decided_row, the_type as decided_type}
use Rattle.kr_model.specs.contracts.writes.Write.{the_row as write_row, the_type as write_type}
use Rattle.kr_engine.specs.contracts.engine.Engine.{the_row}
use Rattle.kr_engine.specs.contracts.engine.Engine.TheInside.{the_type}

-- what clauses alone see has no bytes
basis_send : IsSend basis_row
basis_send = search sendable depth 20

-- the place, the number of records, and the basis
decided_send : IsSend decided_row
decided_send = declared_send decided_type (search sendable depth 20, (search sendable depth 20, (basis_send, tt)))

-- four numbers, the replies, and what it was decided on
write_send : IsSend write_row
write_send =
    declared_send write_type (search sendable depth 20, (search sendable depth 20, (search sendable depth 20, (search sendable depth 20, (reply.the_send, (reply.the_send, (decided_send, tt)))))))

-- the allocator, the options, the store, the sessions, eight numbers, the writes, the outputs, the refusal, and the entries
pub engine_send : IsSend the_row
engine_send =
    view_send _ _ _ _ _ (declared_send the_type (
      search sendable depth 20,
      (
        options.the_send,
        (
          store.the_send,
          (
            sessions.the_send,
            (
              search sendable depth 20,
              (
                search sendable depth 20,
                (
                  search sendable depth 20,
                  (
                    search sendable depth 20,
                    (
                      search sendable depth 20,
                      (
                        search sendable depth 20,
                        (
                          search sendable depth 20,
                          (
                            search sendable depth 20,
                            (heap.Deque-send write_row write_send, (heap.Deque-send output_row output.the_send, (search (sendable, option.the_send, output.the_send) depth 20, (heap.Vec-send entry_row entry.the_send, tt)))),
                          ),
                        ),
                      ),
                    ),
                  ),
                ),
              ),
            ),
          ),
        ),
      ),
    ))
