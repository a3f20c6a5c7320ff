use Rattle.std.proofs.Common.{◌∙◌, []}
use Rattle.kr_replication.proofs.LedPartitions.{leads_listed}
use Rattle.kr_replication.proofs.leaders.leads.Goals as goal

pub returns-in-Some : goal.returns-in-Some
returns-in-Some g c = c.leads_any.ensures ∙ leads_listed c.args.seen.now c.args.broker.now c.in-Some.keys.now c.is_valid.ensures c.requires c.in-Some.ensures

pub returns-in-None : goal.returns-in-None
returns-in-None g c = leads_listed c.args.seen.now c.args.broker.now [] c.is_valid.ensures c.requires c.in-None.ensures
