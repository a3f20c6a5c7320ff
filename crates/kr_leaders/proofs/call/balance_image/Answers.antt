use Rattle.kr_leaders.proofs.Endings.{fault_ends}
use Rattle.kr_leaders.proofs.call.balance_image.Goals as goal

pub returns-in-Err-clause-ends : goal.returns-in-Err-clause-ends
returns-in-Err-clause-ends g c = fault_ends _ _ c.args.percent _ c.in-Err.fault c.in-Err.ensures.fault
