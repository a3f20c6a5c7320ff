use Rattle.std.proofs.Common.{◌≡◌, ◌++◌, take}
use Rattle.kr_tape_judge.proofs.store.Log.append.Given as goal

abbrev pub invariant-loop-batch : goal.invariant-loop-batch
invariant-loop-batch l = l.self ≡ l.initial.self ++ take l.batch-index l.group
