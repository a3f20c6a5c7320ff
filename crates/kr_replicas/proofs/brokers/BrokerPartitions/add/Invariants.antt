use Rattle.std.proofs.Common.{drop}
use Rattle.kr_replicas.specs.BrokerPartitions.{Grows}
use Rattle.kr_replicas.proofs.Listed.{Left}
use Rattle.kr_replicas.proofs.brokers.BrokerPartitions.add.Given as goal

abbrev pub invariant-loop-broker : goal.invariant-loop-broker
invariant-loop-broker l =
    Left l.replicas l.key l.fn.self (drop l.broker-index l.replicas) l.self-inside.listed.entries × Grows l.fn.self l.self-inside.listed.entries
