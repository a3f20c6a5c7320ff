use Rattle.kr_view.specs.StagedLaws.{IsPlain}
use Rattle.test_views.proofs.copies.stage_run.Given as goal

abbrev pub invariant-loop-place : goal.invariant-loop-place
invariant-loop-place l = IsPlain l.publisher
