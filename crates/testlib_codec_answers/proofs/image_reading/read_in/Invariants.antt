use Rattle.std.proofs.Common.{length}
use Rattle.testlib_codec_answers.proofs.ImagePieces.{IsFed}
use Rattle.testlib_codec_answers.proofs.image_reading.read_in.Given as goal

abbrev pub invariant-loop-rest : goal.invariant-loop-rest
invariant-loop-rest l = IsFed l.reader l.rest l.bytes

abbrev pub decreases-loop-rest : goal.decreases-loop-rest
decreases-loop-rest l = length l.rest
