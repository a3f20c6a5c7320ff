use Rattle.std.proofs.Common.{◌≡◌, drop}
use Rattle.law_tape.specs.Rules.{end_behind}
use Rattle.kr_tape_judge.proofs.lists.end_behind.Given as goal

abbrev pub invariant-loop-batch : goal.invariant-loop-batch
invariant-loop-batch l = end_behind l.end (drop l.batch-index l.group) ≡ end_behind l.from l.group
