use Rattle.std.proofs.Common.{sym, subst}
use Rattle.kr_snapshot.specs.ReaderState.{IsUnfinished}
use Rattle.kr_snapshot.proofs.ReaderSteps.{goal_none, goal_some}
use Rattle.kr_snapshot.proofs.pieces.Pieces.goal.Goals as goal

pub batch_goal-requires : goal.batch_goal-requires
batch_goal-requires c = subst IsUnfinished (sym c.as_slice.ensures.value) (goal_some c.args.self.now _ c.in-Some.is c.requires)

pub returns-in-None-clause-more : goal.returns-in-None-clause-more
returns-in-None-clause-more c = (goal_none c.args.self.now c.in-None.is c.requires).0

pub returns-in-None-clause-waits : goal.returns-in-None-clause-waits
returns-in-None-clause-waits c = (goal_none c.args.self.now c.in-None.is c.requires).1
