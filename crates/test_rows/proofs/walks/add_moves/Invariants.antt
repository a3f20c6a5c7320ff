use Rattle.kr_nodes.specs.Standing.{IsReadyCluster}
use Rattle.test_rows.proofs.walks.add_moves.Given as goal

abbrev pub invariant-loop : goal.invariant-loop
invariant-loop l = IsReadyCluster l.cluster
