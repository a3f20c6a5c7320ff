-- What is copied so far is the front of the list.
use Rattle.std.proofs.Common.{◌≡◌, length, ◌≤◌, take}
use Rattle.kr_repeat.proofs.lists.RowsRepeat.again.Given as goal

abbrev pub invariant-loop-value : goal.invariant-loop-value
invariant-loop-value g l = record {
  so_far : l.copy ≡ take l.value-index l.self;
  within : l.value-index ≤ length l.self;
}
