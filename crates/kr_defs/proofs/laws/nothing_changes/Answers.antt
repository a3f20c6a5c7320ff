use Rattle.std.proofs.Common.{refl}
use Rattle.kr_defs.specs.Apply.{apply, apply_record}
use Rattle.kr_defs.proofs.laws.nothing_changes.Goals as goal

pub returns-clause-control : goal.returns-clause-control
unfolding apply
returns-clause-control c image = refl

pub returns-clause-no_op : goal.returns-clause-no_op
unfolding apply apply_record
returns-clause-no_op c image = refl
