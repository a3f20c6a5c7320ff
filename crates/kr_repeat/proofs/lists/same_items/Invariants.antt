-- So far the items are the same, in lists of one length.
use Rattle.std.proofs.Common.{◌≡◌, length, ◌≤◌, take}
use Rattle.kr_repeat.proofs.lists.same_items.Given as goal

abbrev pub invariant-loop-index : goal.invariant-loop-index
invariant-loop-index g l = record {
  so_far : take l.index l.left ≡ take l.index l.right;
  alike : length l.left ≡ length l.right;
  within : l.index ≤ length l.left;
}
