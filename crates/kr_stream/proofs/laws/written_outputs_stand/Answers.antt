use Rattle.kr_stream.proofs.OutputFrames.{frames_stand}
use Rattle.kr_stream.proofs.laws.written_outputs_stand.Goals as goal

pub returns : goal.returns
returns c = frames_stand
