use Rattle.kr_nodes.specs.Standing.{AreFirst}
use Rattle.kr_nodes.proofs.cluster.first_nodes.Given as goal

abbrev pub invariant-loop : goal.invariant-loop
invariant-loop l = AreFirst l.options l.counter l.nodes.items
