use Rattle.std.proofs.Common.{◌≡◌, take}
use Rattle.std.specs.Prelude.{map}
use Rattle.kr_calls.specs.Refuse.{refused_create_partitions}
use Rattle.kr_rules.proofs.whole_refusal.refuse_create_partitions.Given as goal

abbrev pub invariant-loop-topic : goal.invariant-loop-topic
invariant-loop-topic l = l.results ≡ map (refused_create_partitions l.error) (take l.topic-index l.topics)
