use Rattle.std.proofs.Common.{◌≡◌, length}
use Rattle.kr_timeline.specs.Chains.{cut}
use Rattle.kr_timeline.proofs.chain.Chain.drop_above.Given as goal

abbrev pub invariant-loop-self : goal.invariant-loop-self
invariant-loop-self g l = cut l.number l.self ≡ cut l.number l.initial.self

abbrev pub decreases-loop-self : goal.decreases-loop-self
decreases-loop-self g l = length l.self
