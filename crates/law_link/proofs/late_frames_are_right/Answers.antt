use Rattle.law_link.proofs.LateFrames.{late_frames_are_right}
use Rattle.law_link.proofs.late_frames_are_right.Goals as goal

pub returns : goal.returns
returns c = late_frames_are_right
