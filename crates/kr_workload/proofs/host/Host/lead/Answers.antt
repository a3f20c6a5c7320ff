use Rattle.std.proofs.Common.{◌+◌, refl, arith}
use Rattle.std.proofs.lemmas.Result.{on_ok_weaker}
use Rattle.kr_workload.proofs.Goings.{lead_so, led}
use Rattle.kr_workload.proofs.host.Host.lead.Goals as goal

pub returns : goal.returns
returns g c = on_ok_weaker c.take.result
    (λ t. led c.args.self.now _ _ c.requires.ready t refl c.committed.result (lead_so (c.args.self.now.epoch + 1) c.committed.result (omega (arith, c.requires.few)) (record { sfits = c.committed.type_inv })) c.committed.ensures refl refl) c.take.ensures
