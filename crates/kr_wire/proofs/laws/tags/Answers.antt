use Rattle.kr_wire.proofs.Tags.{no_tags_law}
use Rattle.kr_wire.proofs.laws.tags.Goals as goal

pub returns : goal.returns
returns c = no_tags_law
