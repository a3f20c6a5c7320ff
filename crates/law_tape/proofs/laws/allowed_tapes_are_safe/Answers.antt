use Rattle.law_tape.proofs.Verdicts.{allowed_tapes_are_safe}
use Rattle.law_tape.proofs.laws.allowed_tapes_are_safe.Goals as goal

pub returns : goal.returns
returns c = allowed_tapes_are_safe
