use Rattle.kr_stream.proofs.BodyAnswers.{request_found, request_unstamped, request_too_long}
use Rattle.kr_stream.proofs.bodies.request.Goals as goal

pub returns-in-Ok-clause-found : goal.returns-in-Ok-clause-found
returns-in-Ok-clause-found c = request_found c.in-Ok.stamp.client c.in-Ok.stamp.now c.in-Ok.at c.args.body.now _ c.request_with.result c.type_inv.body c.in-Ok.ensures.0 c.split_at.ensures.back c.request_with.ensures.found

pub returns-in-Err-clause-misfit : goal.returns-in-Err-clause-misfit
returns-in-Err-clause-misfit c = λ is. request_unstamped c.args.body.now _ c.in-Err.ensures

pub returns-in-Ok-clause-misfit : goal.returns-in-Ok-clause-misfit
returns-in-Ok-clause-misfit c = λ is. request_too_long c.args.body.now _ c.in-Ok.stamp.client c.in-Ok.stamp.now c.in-Ok.at c.in-Ok.ensures.0 c.split_at.ensures.back (c.request_with.ensures.misfit is)
