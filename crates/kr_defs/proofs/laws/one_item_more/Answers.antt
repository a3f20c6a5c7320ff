use Rattle.kr_defs.proofs.Logs.{at_start, more_at_tip, more_below}
use Rattle.kr_defs.proofs.laws.one_item_more.Goals as goal

pub returns-clause-start : goal.returns-clause-start
returns-clause-start c = at_start

pub returns-clause-tip : goal.returns-clause-tip
returns-clause-tip c = more_at_tip

pub returns-clause-below : goal.returns-clause-below
returns-clause-below c = more_below
