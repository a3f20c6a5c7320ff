use Rattle.kr_stream.proofs.BodyLaws.{numbers_law, none_read}
use Rattle.kr_stream.proofs.BodyAnswers.{whole_found, whole_misfit}
use Rattle.kr_stream.proofs.bodies.numbers.Goals as goal

pub returns-in-Ok-clause-found : goal.returns-in-Ok-clause-found
returns-in-Ok-clause-found c = whole_found (numbers_law c.args.kind c.requires) c.args.body.now c.in-Ok.event c.in-Ok.at _ c.whole.ensures c.type_inv.body c.in-Ok.ensures.0

pub returns-in-Ok-clause-misfit : goal.returns-in-Ok-clause-misfit
returns-in-Ok-clause-misfit c = whole_misfit (numbers_law c.args.kind c.requires) c.args.body.now c.in-Ok.event c.in-Ok.at _ c.whole.ensures c.in-Ok.ensures

pub returns-in-Err-clause-misfit : goal.returns-in-Err-clause-misfit
returns-in-Err-clause-misfit c = none_read (numbers_law c.args.kind c.requires) c.args.body.now _ c.in-Err.ensures
