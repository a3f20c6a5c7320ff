use Rattle.std.proofs.Common.{◌+◌, refl, arith}
use Rattle.kr_workload.specs.Session.{first_heartbeat}
use Rattle.kr_workload.proofs.Goings.{goes_more, goes_none, goes_times, may_go_on, may_less}
use Rattle.kr_workload.proofs.host.Host.beat_brokers.Goals as goal

pub loop-n-init : goal.loop-n-init
loop-n-init g c = goes_none first_heartbeat _ c.requires.ready

pub beat-requires : goal.beat-requires
beat-requires g c = may_go_on _ _ _ _ _ c.loop-n.invariant 1 0 (may_less _ 6 0 (c.loop-n.n + 1) 0 (omega arith) (omega arith) c.requires)

pub loop-n-preserved : goal.loop-n-preserved
loop-n-preserved g c = goes_more first_heartbeat _ _ _ c.loop-n.n c.loop-n.n 0 1 0 c.loop-n.invariant c.in_ok-beat.ensures

pub returns : goal.returns
returns g c = goes_times first_heartbeat _ _ c.loop-n.n 6 c.loop-n.n 0 0 (omega arith) (omega arith) refl c.loop-n.invariant
