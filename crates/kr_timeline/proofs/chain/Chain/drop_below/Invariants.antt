use Rattle.std.proofs.Common.{◌≡◌, length}
use Rattle.kr_timeline.specs.Chains.{Falls, settled}
use Rattle.kr_timeline.proofs.chain.Chain.drop_below.Given as goal

abbrev pub invariant-loop-self : goal.invariant-loop-self
invariant-loop-self g l = record {
  left : settled l.number l.self ≡ settled l.number l.initial.self;
  falls : Falls l.self;
}

abbrev pub decreases-loop-self : goal.decreases-loop-self
decreases-loop-self g l = length l.self
