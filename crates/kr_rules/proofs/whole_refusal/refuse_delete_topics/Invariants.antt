use Rattle.std.proofs.Common.{◌≡◌, take}
use Rattle.std.specs.Prelude.{map}
use Rattle.kr_calls.specs.Refuse.{refused_delete_topics}
use Rattle.kr_rules.proofs.whole_refusal.refuse_delete_topics.Given as goal

abbrev pub invariant-loop-topic : goal.invariant-loop-topic
invariant-loop-topic l = l.results ≡ map (refused_delete_topics l.error) (take l.topic-index l.topics)
