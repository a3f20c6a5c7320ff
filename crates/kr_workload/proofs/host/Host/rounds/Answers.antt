use Rattle.std.proofs.Common.{◌+◌, arith}
use Rattle.kr_workload.specs.Session.{play_round}
use Rattle.kr_workload.proofs.Goings.{goes_more, goes_none, goes_times, may_go_on, may_less}
use Rattle.kr_workload.proofs.host.Host.rounds.Goals as goal

pub loop-n-init : goal.loop-n-init
loop-n-init g c = goes_none play_round _ c.requires.ready

pub play_round-requires : goal.play_round-requires
play_round-requires g c = may_go_on _ _ _ _ _ c.loop-n.invariant 1 1 (may_less _ c.args.rounds c.args.rounds (c.loop-n.n + 1) (c.loop-n.n + 1) (omega arith) (omega arith) c.requires)

pub loop-n-preserved : goal.loop-n-preserved
loop-n-preserved g c = goes_more play_round _ _ _ c.loop-n.n c.loop-n.n c.loop-n.n 1 1 c.loop-n.invariant c.in_ok-play_round.ensures

pub returns : goal.returns
returns g c = goes_times play_round _ _ c.loop-n.n c.args.rounds c.loop-n.n c.loop-n.n c.args.rounds (omega arith) (omega arith) (omega arith) c.loop-n.invariant
