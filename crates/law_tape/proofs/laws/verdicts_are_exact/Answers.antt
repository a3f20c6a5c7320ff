use Rattle.law_tape.proofs.Verdicts.{verdicts_are_exact}
use Rattle.law_tape.proofs.laws.verdicts_are_exact.Goals as goal

pub returns : goal.returns
returns c = verdicts_are_exact
