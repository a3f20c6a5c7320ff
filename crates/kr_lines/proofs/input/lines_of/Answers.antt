use Rattle.kr_lines.proofs.Runs.{not_shown}
use Rattle.kr_lines.proofs.input.lines_of.Goals as goal

pub returns-in-Err-clause-why : goal.returns-in-Err-clause-why
returns-in-Err-clause-why c = not_shown c.args.word c.args.bytes.now _ _ c.in-Some.ensures.is c.in-Err.fault c.in-Err.ensures
