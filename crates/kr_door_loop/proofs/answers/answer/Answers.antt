use Rattle.kr_door_loop.proofs.Answering.{known_answer}
use Rattle.kr_door_loop.proofs.answers.answer.Goals as goal

pub returns-in-Some : goal.returns-in-Some
returns-in-Some c = known_answer c.args.number c.args.body.now c.in-Some.kind _ c.in-Some.ensures.some c.answer_of.ensures
