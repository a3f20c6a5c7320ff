use Rattle.kr_view.specs.StagedLaws.{HasNothing}
use Rattle.test_bench.proofs.copies.publish_changes.Given as goal

abbrev pub invariant-loop-round : goal.invariant-loop-round
invariant-loop-round g l = HasNothing l.publisher
