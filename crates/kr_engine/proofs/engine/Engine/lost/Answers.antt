use Rattle.std.proofs.Common.{w32}
use Rattle.std.proofs.lemmas.Int.{to_z-of_z}
use Rattle.kr_engine.proofs.LostSteps.{lost_within}
use Rattle.kr_engine.proofs.engine.Engine.lost.Goals as goal

pub returns-clause-bound : goal.returns-clause-bound
returns-clause-bound g c = lost_within c.args.self.now c.args.epoch c.args.steps.now c.take_lost.new.steps (rw (to_z-of_z w32 c.args.epoch c.ranges.epoch) at c.take_lost.ensures.bound)
