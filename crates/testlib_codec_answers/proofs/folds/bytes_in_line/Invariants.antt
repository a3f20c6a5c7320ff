use Rattle.std.proofs.Common.{◌≡◌, take}
use Rattle.testlib_codec_answers.specs.FoldWords.{in_one_line}
use Rattle.testlib_codec_answers.proofs.folds.bytes_in_line.Given as goal

abbrev pub invariant-loop-byte : goal.invariant-loop-byte
invariant-loop-byte l = l.line.items ≡ in_one_line (take l.byte-index l.written)
