use Rattle.std.proofs.Common.{◌∙◌, ap, arith}
use Rattle.std.proofs.lemmas.Result.{on_ok_weaker}
use Rattle.kr_calls.specs.declared.calls.Request.{Request}
use Rattle.kr_workload.specs.Session.{ask, commit_all, lead_next, lose}
use Rattle.kr_workload.proofs.Goings.{goes_as, goes_both, may_go_on, may_less}
use Rattle.kr_workload.proofs.Parts.{fail_over_is}
use Rattle.kr_workload.proofs.host.Host.fail_over.Goals as goal

pub ask-requires : goal.ask-requires
ask-requires g c = may_less _ 1 1 1 0 (omega arith) (omega arith) c.requires

pub lose-requires : goal.lose-requires
lose-requires g c = may_go_on _ _ _ 1 0 c.in_ok-ask.ensures 0 0 (may_less _ 1 1 1 0 (omega arith) (omega arith) c.requires)

pub lead-requires : goal.lead-requires
lead-requires g c =
    let two = goes_both _ _ _ 1 0 c.in_ok-ask.ensures _ _ 0 0 c.in_ok-lose.ensures in
    may_go_on _ _ _ 1 0 two 0 1 c.requires

pub commit-requires : goal.commit-requires
commit-requires g c =
    let two = goes_both _ _ _ 1 0 c.in_ok-ask.ensures _ _ 0 0 c.in_ok-lose.ensures in
    let three = goes_both _ _ _ 1 0 two _ _ 0 1 c.in_ok-lead.ensures in
    may_go_on _ _ _ 1 1 three 0 0 c.requires

pub returns : goal.returns
returns g c =
    let two = goes_both _ _ _ 1 0 c.in_ok-ask.ensures _ _ 0 0 c.in_ok-lose.ensures in
    let three = goes_both _ _ _ 1 0 two _ _ 0 1 c.in_ok-lead.ensures in
    on_ok_weaker c.commit.result (λ last. goes_as _ _ _ _ 1 1 1 1
    (λ seed made stands. ap (λ (r : Request). commit_all seed (lead_next seed (lose (ask made r)))) c.in_ok-request.ensures ∙ fail_over_is seed made c.args.round)
    (omega arith) (omega arith) (goes_both _ _ _ 1 1 three _ _ 0 0 last)) c.commit.ensures
