use Rattle.kr_defs.proofs.ReadingOrder.{own_order}
use Rattle.kr_defs.proofs.laws.records_are_in_order.Goals as goal

pub returns : goal.returns
returns c = own_order
