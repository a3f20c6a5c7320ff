use Rattle.std.specs.Prelude.{[], ◌∷◌}
use Rattle.testlib_rule_answers.specs.Histories.{AreClosed, AreEpochs}
use Rattle.test_requests.proofs.leader_image.apply_all.Given as goal

abbrev pub invariant-loop-record : goal.invariant-loop-record
invariant-loop-record g l = AreEpochs l.store.kept (l.place ∷ []) × AreClosed l.store
