use Rattle.std.proofs.Common.{◌≡◌, take}
use Rattle.std.specs.Prelude.{map}
use Rattle.kr_partitions.proofs.groups.given_groups.Given as goal

abbrev pub invariant-loop-topic : goal.invariant-loop-topic
invariant-loop-topic l = l.groups ≡ map (λ t. (t.topic, t.partitions)) (take l.topic-index l.topics)
