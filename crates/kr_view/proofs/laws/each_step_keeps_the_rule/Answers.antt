use Rattle.kr_view.proofs.Moves.{seat_is_made, publishes}
use Rattle.kr_view.proofs.laws.each_step_keeps_the_rule.Goals as goal

pub returns-clause-seat_made : goal.returns-clause-seat_made
returns-clause-seat_made c = seat_is_made

pub returns-clause-publish : goal.returns-clause-publish
returns-clause-publish c = publishes
