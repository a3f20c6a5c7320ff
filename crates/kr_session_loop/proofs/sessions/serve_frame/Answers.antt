use Rattle.std.proofs.Common.{sym, subst}
use Rattle.kr_stream.specs.declared.frame.Frame.TheVariants as frames
use Rattle.kr_session_loop.specs.Endings.{EndsWith}
use Rattle.kr_session_loop.proofs.SessionSteps.{ended, never_opens, on_ok, stopped_there, taken_as, took_further, unread_next}
use Rattle.kr_session_loop.proofs.sessions.serve_frame.Goals as goal

pub returns-in-Err-clause-goes : goal.returns-in-Err-clause-goes
returns-in-Err-clause-goes g c = λ left written going.
    subst (EndsWith left (g.S.Source.left c.next.new.source) written (g.K.Sink.written c.args.output.now)) (sym c.unread.ensures)
    (unread_next left _ _ written _ _ _ going c.in-Err.fault _ _ (stopped_there _ c.requires.stage _ _ _ _ _ c.in-Err.fault c.in-Err.ensures.stopped))

pub unreachable-requires : goal.unreachable-requires
unreachable-requires g c = never_opens _ c.requires.stage c.in-Ok-Open.field-0 _ _ _ _ c.in-Ok-Open.ensures.frame c.in-Ok-Open.field-0-0 c.in-Ok-Open.field-0-is

pub returns-in-Ok-Event-clause-goes : goal.returns-in-Ok-Event-clause-goes
returns-in-Ok-Event-clause-goes g c = λ left written going.
    c.take_event.ensures.goes left _ _ written _ _ going (taken_as _ c.requires.stage c.in-Ok-Event.field-0 _ _ _ _ c.in-Ok-Event.ensures.frame (frames.Event c.in-Ok-Event.event) c.in-Ok-Event.field-0-is)

pub returns-in-Ok-Event-clause-further : goal.returns-in-Ok-Event-clause-further
returns-in-Ok-Event-clause-further g c =
    on_ok c.take_event.result (took_further (frames.Event c.in-Ok-Event.event) _ _ _ _ (taken_as _ c.requires.stage c.in-Ok-Event.field-0 _ _ _ _ c.in-Ok-Event.ensures.frame (frames.Event c.in-Ok-Event.event) c.in-Ok-Event.field-0-is))

pub returns-in-Ok-End-clause-goes : goal.returns-in-Ok-End-clause-goes
returns-in-Ok-End-clause-goes g c = λ left written going.
    ended left _ _ written _ _ _ going _ (taken_as _ c.requires.stage c.in-Ok-End.field-0 _ _ _ _ c.in-Ok-End.ensures.frame frames.End c.in-Ok-End.field-0-is)
