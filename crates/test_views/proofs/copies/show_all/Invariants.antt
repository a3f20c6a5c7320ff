use Rattle.kr_view.specs.StagedLaws.{HasNothing}
use Rattle.test_views.proofs.copies.show_all.Given as goal

abbrev pub invariant-loop-run : goal.invariant-loop-run
invariant-loop-run g l = HasNothing l.publisher
