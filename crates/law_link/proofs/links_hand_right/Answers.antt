use Rattle.law_link.proofs.StepLaws.{links_hand_right}
use Rattle.law_link.proofs.links_hand_right.Goals as goal

pub returns : goal.returns
returns c = links_hand_right
