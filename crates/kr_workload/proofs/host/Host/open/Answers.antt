use Rattle.std.proofs.Common.{arith}
use Rattle.std.proofs.lemmas.Result.{on_ok_weaker}
use Rattle.kr_workload.proofs.Goings.{goes_as, goes_both, may_go_on, may_less}
use Rattle.kr_workload.proofs.Parts.{open_is}
use Rattle.kr_workload.proofs.host.Host.open.Goals as goal

pub lead-requires : goal.lead-requires
lead-requires g c = may_less _ 312 1 0 1 (omega arith) (omega arith) c.requires

pub register_brokers-requires : goal.register_brokers-requires
register_brokers-requires g c = may_go_on _ _ _ 0 1 c.in_ok-lead.ensures 6 0 (may_less _ 312 1 6 1 (omega arith) (omega arith) c.requires)

pub beat_brokers-requires : goal.beat_brokers-requires
beat_brokers-requires g c =
    let two = goes_both _ _ _ 0 1 c.in_ok-lead.ensures _ _ 6 0 c.in_ok-register_brokers.ensures in
    may_go_on _ _ _ 6 1 two 6 0 (may_less _ 312 1 12 1 (omega arith) (omega arith) c.requires)

pub create_topics-requires : goal.create_topics-requires
create_topics-requires g c =
    let two = goes_both _ _ _ 0 1 c.in_ok-lead.ensures _ _ 6 0 c.in_ok-register_brokers.ensures in
    let three = goes_both _ _ _ 6 1 two _ _ 6 0 c.in_ok-beat_brokers.ensures in
    may_go_on _ _ _ 12 1 three 300 0 c.requires

pub returns : goal.returns
returns g c =
    let two = goes_both _ _ _ 0 1 c.in_ok-lead.ensures _ _ 6 0 c.in_ok-register_brokers.ensures in
    let three = goes_both _ _ _ 6 1 two _ _ 6 0 c.in_ok-beat_brokers.ensures in
    on_ok_weaker c.create_topics.result (λ last. goes_as _ _ _ _ 312 1 312 1 (λ seed made stands. open_is seed made) (omega arith) (omega arith) (goes_both _ _ _ 12 1 three _ _ 300 0 last)) c.create_topics.ensures
