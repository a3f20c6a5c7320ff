use Rattle.kr_defs.proofs.WalkedOnce.{walked_once}
use Rattle.kr_defs.proofs.map_laws.valid_images_are_walked_once.Goals as goal

pub returns : goal.returns
returns c = walked_once
