use Rattle.std.proofs.Common.{refl, arith}
use Rattle.std.proofs.lemmas.Result.{on_ok_weaker}
use Rattle.kr_workload.proofs.Goings.{commit_so, committed}
use Rattle.kr_workload.proofs.host.Host.commit.Goals as goal

pub returns : goal.returns
returns g c = on_ok_weaker c.take.result
    (λ t. committed c.args.self.now _ _ c.requires.ready t refl c.tip.result (commit_so c.args.self.now.epoch c.tip.result (omega (arith, c.requires.few)) (record { sfits = c.tip.type_inv })) c.tip.ensures refl refl) c.take.ensures
