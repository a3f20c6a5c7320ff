use Rattle.kr_defs.proofs.Elections.{sound}
use Rattle.kr_defs.proofs.partition_laws.elections_are_sound.Goals as goal

pub returns : goal.returns
returns c = sound
