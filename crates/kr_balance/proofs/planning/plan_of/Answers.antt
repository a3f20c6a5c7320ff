use Rattle.kr_balance.proofs.RightTallies.{all_planned}
use Rattle.kr_balance.proofs.planning.plan_of.Goals as goal

pub returns : goal.returns
returns g c = all_planned c.args.seen.now c.in_ok-tallies.tallies.entries c.args.percent c.in_ok-rows.rows c.in_ok-tallies.ensures c.in_ok-rows.ensures
