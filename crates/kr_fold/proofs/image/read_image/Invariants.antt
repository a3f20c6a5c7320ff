use Rattle.std.proofs.Common.{length, ◌-◌}
use Rattle.kr_fold.specs.inner.ImageParts.{IsPart}
use Rattle.kr_fold.proofs.image.read_image.Given as goal

abbrev pub invariant-loop-at : goal.invariant-loop-at
invariant-loop-at l = IsPart l.bytes l.reader l.at

abbrev pub decreases-loop-at : goal.decreases-loop-at
decreases-loop-at l = length l.bytes - l.at
