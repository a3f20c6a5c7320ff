use Rattle.std.proofs.Common.{ap}
use Rattle.kr_session_loop.proofs.OutputFrames.{one_written, one_unwritten}
use Rattle.kr_session_loop.proofs.outputs.write_output.Goals as goal

pub returns-clause-ok : goal.returns-clause-ok
returns-clause-ok g c = one_written c.args.output _ _ c.write_frame.result c.write_frame.ensures.ok

pub returns-clause-err : goal.returns-clause-err
returns-clause-err g c =
    one_unwritten c.args.output _ _ c.write_frame.result c.write_frame.ensures.front (λ is. ap (λ sink. g.K.Sink.written sink) (c.write_frame.ensures.memory is))
