use Rattle.std.proofs.Common.{refl}
use Rattle.std.proofs.lemmas.Result.{on_ok_weaker}
use Rattle.kr_workload.proofs.Goings.{asked}
use Rattle.kr_workload.proofs.host.Host.ask.Goals as goal

pub returns : goal.returns
returns g c = on_ok_weaker c.take.result (λ t. asked c.args.self.now _ _ c.requires.ready t refl c.args.request c.request_event-event.ensures refl refl) c.take.ensures
