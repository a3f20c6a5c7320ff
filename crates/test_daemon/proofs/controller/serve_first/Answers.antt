use denote.Exit.{no}
use denote.Param.Send.{arg_send, mut_send, param_send, param_sync, shr_send}
use Rattle.std.proofs.Crossing as heap
use Rattle.std.proofs.sync.atomic.AtomicU64.TheSendSync as number
use Rattle.kr_base.proofs.memory.MemorySource.TheSendSync as source
use Rattle.kr_shared.proofs.Sent.{client_send}
use Rattle.test_daemon.proofs.Closures.{and_more, closure_send, none}
use Rattle.test_daemon.proofs.replies.ReplySink.TheSendSync as sink
use Rattle.test_daemon.proofs.controller.serve_first.Goals as goal

-- the runtime, the allocator, the client's seat, its source, its sink, and where it says that it is done
pub join-has_turned-requires-send-F : goal.join-has_turned-requires-send-F
join-has_turned-requires-send-F g c κs within =
    param_send 1 _ (arg_send _ no _ (closure_send (and_more (shr_send _ _ _ (param_sync 0 _ c.type_bounds.sync-R)) (and_more (shr_send _ _ _ heap.sync) (and_more (mut_send _ _ _ client_send)
    (and_more (mut_send _ _ _ source.the_send) (and_more (mut_send _ _ _ sink.the_send) (and_more (shr_send _ _ _ number.the_sync) none))))))))
