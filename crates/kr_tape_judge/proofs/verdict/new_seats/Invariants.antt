use Rattle.std.proofs.Common.{◌≡◌, replicate}
use Rattle.law_tape.specs.Rules.{new_side}
use Rattle.kr_tape_judge.proofs.verdict.new_seats.Given as goal

abbrev pub invariant-loop-node : goal.invariant-loop-node
invariant-loop-node l = l.seats.items ≡ replicate l._node new_side
