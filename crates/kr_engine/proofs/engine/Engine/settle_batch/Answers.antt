use Rattle.std.proofs.Common.{refl}
use Rattle.kr_engine.proofs.Undoing.{same_breaks}
use Rattle.kr_engine.proofs.engine.Engine.settle_batch.Goals as goal

pub returns-in-Err-NoMemory-clause-broken : goal.returns-in-Err-NoMemory-clause-broken
returns-in-Err-NoMemory-clause-broken g c = same_breaks c.args.self.now c.args.self.now refl
