use Rattle.std.proofs.Common.{◌≡◌, drop}
use Rattle.law_tape.specs.Rules.{digest_at}
use Rattle.kr_tape_judge.proofs.seat.is_fold.Given as goal

abbrev pub invariant-loop-fold : goal.invariant-loop-fold
invariant-loop-fold l = digest_at (drop l.fold-index l.folds) l.image.offset ≡ digest_at l.folds l.image.offset
