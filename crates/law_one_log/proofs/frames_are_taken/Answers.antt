use Rattle.law_one_log.proofs.Turns.{frames_are_taken}
use Rattle.law_one_log.proofs.frames_are_taken.Goals as goal

pub returns : goal.returns
returns c = frames_are_taken
