use Rattle.std.proofs.Common.{◌≡◌, ◌∷◌, drop}
use Rattle.kr_rebalance.specs.inner.Grouping.{entries_with}
use Rattle.kr_rebalance.proofs.election.topics_from.Given as goal
use Rattle.law_balance.specs.Election.{entries_by_topic}

abbrev pub invariant-loop-named : goal.invariant-loop-named
invariant-loop-named l = entries_with l.grouping (drop l.named-index l.others) ≡ entries_by_topic (l.fn.first ∷ l.others)
