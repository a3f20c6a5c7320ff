use Rattle.std.proofs.Common.{◌≡◌, ◌++◌, drop, length, map}
use Rattle.kr_calls.specs.declared.create_partitions.CreatePartitionsAssignment.{CreatePartitionsAssignment}
use Rattle.kr_topics.proofs.create_partitions.lists_of.Given as goal

abbrev pub invariant-loop-assignment : goal.invariant-loop-assignment
invariant-loop-assignment l =
    let brokers = λ (a : CreatePartitionsAssignment). a.brokers in
    record {
      told : l.lists ++ map brokers (drop l.assignment-index l.assignments) ≡ map brokers l.assignments;
      count : length l.lists ≡ l.assignment-index;
    }
