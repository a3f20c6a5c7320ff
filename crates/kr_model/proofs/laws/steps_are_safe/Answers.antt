use Rattle.kr_model.proofs.SafeEntries.{steps_are_safe}
use Rattle.kr_model.proofs.laws.steps_are_safe.Goals as goal

pub returns : goal.returns
returns c = steps_are_safe
