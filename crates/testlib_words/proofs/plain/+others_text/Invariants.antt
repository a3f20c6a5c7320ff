use Rattle.std.proofs.Common.{length}
use Rattle.testlib_words.proofs.plain.+others_text.Given as goal

abbrev pub decreases-others_text : goal.decreases-others_text
decreases-others_text l = length l.ids.now
