use Rattle.kr_door_loop.proofs.Calls.{value_answered}
use Rattle.kr_door_loop.specs.Elections.{elect_question, elects}
use Rattle.kr_door_loop.proofs.elections.elect_leader.Goals as goal

pub returns-in-Ok : goal.returns-in-Ok
returns-in-Ok c = value_answered elect_question elects c.args.body.now c.in-Ok.question _ c.in-Ok.ensures c.elect_for.ensures
