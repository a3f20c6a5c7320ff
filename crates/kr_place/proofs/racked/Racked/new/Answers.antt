use Rattle.kr_place.proofs.Brokers.{distinct-none}
use Rattle.kr_place.proofs.racked.Racked.new.Goals as goal

pub invariant_of-result : goal.invariant_of-result
invariant_of-result c = distinct-none c.new.result.items c.new.ensures.items
