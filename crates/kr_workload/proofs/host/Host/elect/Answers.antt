use Rattle.std.proofs.Common.{◌∙◌, ap, w32, arith}
use Rattle.std.proofs.lemmas.Int.{to_z-of_z}
use Rattle.std.proofs.lemmas.Result.{on_ok_weaker}
use Rattle.std.specs.Prelude.{ℤ}
use Rattle.kr_workload.specs.Requests.{election}
use Rattle.kr_workload.specs.Session.{ask_and_commit}
use Rattle.kr_workload.proofs.Goings.{goes_as}
use Rattle.kr_workload.proofs.host.Host.elect.Goals as goal

pub returns : goal.returns
returns g c =
    let index = to_z-of_z w32 c.index_of.result (record { sfits = c.index_of.type_inv }) ∙ c.index_of.ensures in
    on_ok_weaker c.ask_and_commit.result
    (λ last. goes_as _ _ _ _ 1 0 1 0 (λ seed made stands. ap (ask_and_commit seed made) (c.in_ok-request.ensures ∙ ap (λ (z : ℤ). election c.args.topic z) index)) (omega arith) (omega arith) last) c.ask_and_commit.ensures
