use Rattle.std.proofs.Common.{arith}
use Rattle.std.proofs.lemmas.Result.{on_ok_weaker}
use Rattle.kr_workload.proofs.Goings.{goes_as, goes_both, may_go_on}
use Rattle.kr_workload.proofs.Parts.{ask_and_commit_is}
use Rattle.kr_workload.proofs.host.Host.ask_and_commit.Goals as goal

pub commit-requires : goal.commit-requires
commit-requires g c = may_go_on _ _ _ 1 0 c.in_ok-ask.ensures 0 0 c.requires

pub returns : goal.returns
returns g c = on_ok_weaker c.commit.result (λ last. goes_as _ _ _ _ 1 0 1 0 (λ seed made stands. ask_and_commit_is seed made c.args.request) (omega arith) (omega arith) (goes_both _ _ _ 1 0 c.in_ok-ask.ensures _ _ 0 0 last)) c.commit.ensures
