use Rattle.std.proofs.Common.{refl, arith}
use Rattle.std.proofs.lemmas.Result.{on_ok_weaker}
use Rattle.kr_workload.proofs.Goings.{lost, lost_so}
use Rattle.kr_workload.proofs.host.Host.lose.Goals as goal

pub returns : goal.returns
returns g c = on_ok_weaker c.take.result (λ t. lost c.args.self.now _ _ c.requires.ready t refl (lost_so c.args.self.now.epoch (omega (arith, c.requires.few))) refl refl) c.take.ensures
