use Rattle.std.proofs.Common.{◌+◌, refl, arith}
use Rattle.kr_workload.specs.Session.{create}
use Rattle.kr_workload.proofs.Goings.{goes_more, goes_none, goes_times, may_go_on, may_less}
use Rattle.kr_workload.proofs.host.Host.create_topics.Goals as goal

pub loop-n-init : goal.loop-n-init
loop-n-init g c = goes_none create _ c.requires.ready

pub create-requires : goal.create-requires
create-requires g c = may_go_on _ _ _ _ _ c.loop-n.invariant 1 0 (may_less _ 300 0 (c.loop-n.n + 1) 0 (omega arith) (omega arith) c.requires)

pub loop-n-preserved : goal.loop-n-preserved
loop-n-preserved g c = goes_more create _ _ _ c.loop-n.n c.loop-n.n 0 1 0 c.loop-n.invariant c.in_ok-create.ensures

pub returns : goal.returns
returns g c = goes_times create _ _ c.loop-n.n 300 c.loop-n.n 0 0 (omega arith) (omega arith) refl c.loop-n.invariant
