use Rattle.law_published_log.proofs.Decided.{decided_answers_are_right}
use Rattle.law_published_log.proofs.decided_answers_are_right.Goals as goal

pub returns : goal.returns
returns c = decided_answers_are_right
