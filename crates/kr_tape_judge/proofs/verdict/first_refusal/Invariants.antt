use Rattle.std.proofs.Common.{◌≡◌, drop}
use Rattle.law_tape.specs.Rules.{first_refused, tape_begins}
use Rattle.kr_tape_judge.proofs.verdict.first_refusal.Given as goal

abbrev pub invariant-loop-at : goal.invariant-loop-at
invariant-loop-at l = first_refused l.folds l.at l.tape (drop l.at l.lines) ≡ first_refused l.folds 0 tape_begins l.lines
