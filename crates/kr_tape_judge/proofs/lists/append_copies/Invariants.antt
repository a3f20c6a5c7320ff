use Rattle.std.proofs.Common.{◌≡◌, ◌++◌, take}
use Rattle.kr_tape_judge.proofs.lists.append_copies.Given as goal

abbrev pub invariant-loop-batch : goal.invariant-loop-batch
invariant-loop-batch l = l.list.items ≡ l.initial.list.items ++ take l.batch-index l.more
