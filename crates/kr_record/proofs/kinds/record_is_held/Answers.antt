use Rattle.std.proofs.Common.{subst, sym}
use Rattle.kr_record.specs.Records.{chosen}
use Rattle.kr_record.specs.Encodable.{IsHeld}
use Rattle.kr_record.proofs.kinds.record_is_held.Goals as goal

pub returns-in-RegisterBroker : goal.returns-in-RegisterBroker
returns-in-RegisterBroker c = unfold chosen in subst IsHeld (sym c.in-RegisterBroker.is) (search)
