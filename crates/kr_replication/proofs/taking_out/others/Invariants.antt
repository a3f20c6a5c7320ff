use Rattle.std.proofs.Common.{◌≡◌, ◌++◌, drop, [], ◌∷◌}
use Rattle.kr_defs.specs.Ids.{without}
use Rattle.kr_replication.proofs.taking_out.others.Given as goal

abbrev pub invariant-loop-id : goal.invariant-loop-id
invariant-loop-id l = l.left ++ without (drop l.id-index l.ids) (l.broker ∷ []) ≡ without l.ids (l.broker ∷ [])
