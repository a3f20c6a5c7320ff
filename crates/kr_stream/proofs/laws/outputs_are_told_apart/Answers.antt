use Rattle.kr_stream.proofs.FrameLaws.{outputs_apart}
use Rattle.kr_stream.proofs.laws.outputs_are_told_apart.Goals as goal

pub returns : goal.returns
returns c = outputs_apart
