use Rattle.std.proofs.Common.{sym, subst}
use Rattle.kr_session_loop.specs.Endings.{EndsWith}
use Rattle.kr_session_loop.proofs.Handed.{sound_behind}
use Rattle.kr_session_loop.proofs.SessionSteps.{goes_on, unwritten_event}
use Rattle.kr_session_loop.proofs.sessions.take_event.Goals as goal

pub returns-in-Err-clause-goes : goal.returns-in-Err-clause-goes
returns-in-Err-clause-goes g c = λ left mid left' written at end going t.
    subst (EndsWith left left' written (g.K.Sink.written c.serve_event.new.sink)) (sym c.unwritten.ensures)
    (unwritten_event left mid left' written _ _ at going c.args.event end t _ c.in-Err.ensures.err c.in-Err.fault)

pub returns-clause-goes : goal.returns-clause-goes
returns-clause-goes g c = λ left mid left' written at end going t. goes_on left mid left' written _ _ at going c.args.event end t _ _ c.in-Ok.ensures.ok

pub returns-clause-ready : goal.returns-clause-ready
returns-clause-ready g c =
    let s = c.in-Ok.ensures.ok in
    sound_behind _ s.stepped _ c.args.event s.given c.requires.sound s.step s.drains
