use Rattle.kr_stream.proofs.FrameLaws.{frames_apart}
use Rattle.kr_stream.proofs.laws.frames_are_told_apart.Goals as goal

pub returns : goal.returns
returns c = frames_apart
