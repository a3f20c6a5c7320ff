use Rattle.kr_session_loop.proofs.OutputFrames.{none_written}
use Rattle.kr_session_loop.proofs.SessionSteps.{opened, unopened}
use Rattle.kr_session_loop.proofs.sessions.serve.Goals as goal

pub returns-in-Err-clause-ends : goal.returns-in-Err-clause-ends
returns-in-Err-clause-ends g c = c.in-Err.ensures.stopped (g.K.Sink.written c.args.output.now)

pub returns-in-Err-new-clause-ends : goal.returns-in-Err-new-clause-ends
returns-in-Err-new-clause-ends g c = unopened _ _ _ _ c.in-Ok.options _ c.in-Ok.ensures.open (none_written (g.K.Sink.written c.args.output.now))

pub returns-clause-ends : goal.returns-clause-ends
returns-clause-ends g c =
    c.serve_frames.ensures.ends _ _ (opened _ _ _ _ c.in-Ok.options _ c.in-Ok.ensures.open (none_written _) _ c.in-Ok-new.ensures.options c.in-Ok-new.ensures.stands c.in-Ok-new.ensures.drained)
