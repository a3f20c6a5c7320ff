use Rattle.std.proofs.Common.{◌∙◌, ap, arith}
use Rattle.std.proofs.lemmas.Result.{on_ok_weaker}
use Rattle.kr_workload.specs.Session.{ask_and_commit}
use Rattle.kr_workload.proofs.Goings.{goes_as}
use Rattle.kr_workload.proofs.Parts.{create_is}
use Rattle.kr_workload.proofs.host.Host.create.Goals as goal

pub returns : goal.returns
returns g c = on_ok_weaker c.ask_and_commit.result (λ last. goes_as _ _ _ _ 1 0 1 0 (λ seed made stands. ap (ask_and_commit seed made) c.in_ok-request.ensures ∙ create_is seed made c.args.topic) (omega arith) (omega arith) last) c.ask_and_commit.ensures
