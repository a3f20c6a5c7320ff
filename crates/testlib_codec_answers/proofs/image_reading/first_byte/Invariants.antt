use Rattle.std.proofs.Common.{◌≤◌, length}
use Rattle.testlib_codec_answers.proofs.image_reading.first_byte.Given as goal

abbrev pub invariant-loop-batch : goal.invariant-loop-batch
invariant-loop-batch l = length l.rest ≤ length l.bytes

abbrev pub decreases-loop-batch : goal.decreases-loop-batch
decreases-loop-batch l = length l.rest
