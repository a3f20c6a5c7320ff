use Rattle.kr_stream.proofs.BodyAnswers.{fault_as, open_misfit_as}
use Rattle.kr_stream.proofs.bodies.frame_of.Goals as goal

pub returns-in-Open-clause-misfit : goal.returns-in-Open-clause-misfit
returns-in-Open-clause-misfit c = λ is frame of. open_misfit_as c.args.kind c.args.body.items c.as_slice.result.now c.in-Open.is c.as_slice.ensures.value (c.in-Err.ensures.misfit (fault_as _ _ is)) frame of
