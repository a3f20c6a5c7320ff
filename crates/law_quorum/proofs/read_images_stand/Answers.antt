use Rattle.law_quorum.proofs.ReadKeys.{read_images_stand}
use Rattle.law_quorum.proofs.read_images_stand.Goals as goal

pub returns : goal.returns
returns c = read_images_stand
