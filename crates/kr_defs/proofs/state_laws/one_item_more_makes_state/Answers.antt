use Rattle.kr_defs.proofs.StateLogs.{state_at_start, state_more_at_tip, state_more_below}
use Rattle.kr_defs.proofs.state_laws.one_item_more_makes_state.Goals as goal

pub returns-clause-start : goal.returns-clause-start
returns-clause-start c = state_at_start

pub returns-clause-tip : goal.returns-clause-tip
returns-clause-tip c = state_more_at_tip

pub returns-clause-below : goal.returns-clause-below
returns-clause-below c = state_more_below
