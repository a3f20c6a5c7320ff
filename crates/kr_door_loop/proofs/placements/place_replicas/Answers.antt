use Rattle.kr_door_loop.proofs.Calls.{value_answered}
use Rattle.kr_door_loop.specs.Placements.{place_question, places}
use Rattle.kr_door_loop.proofs.placements.place_replicas.Goals as goal

pub returns-in-Ok : goal.returns-in-Ok
returns-in-Ok c = value_answered place_question places c.args.body.now c.in-Ok.question _ c.in-Ok.ensures c.place_for.ensures
