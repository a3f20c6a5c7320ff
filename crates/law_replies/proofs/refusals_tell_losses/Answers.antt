use Rattle.law_replies.proofs.Losses.{none_at_once, refused_without_lead}
use Rattle.law_replies.proofs.refusals_tell_losses.Goals as goal

pub returns-clause-at_once : goal.returns-clause-at_once
returns-clause-at_once c = none_at_once

pub returns-clause-later : goal.returns-clause-later
returns-clause-later c = refused_without_lead
