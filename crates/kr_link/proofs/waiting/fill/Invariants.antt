-- What goes together so far, and what goes with it still, go together.
use Rattle.std.proofs.Common.{◌≡◌, ◌++◌}
use Rattle.law_core.specs.Core.{append_group_behind}
use Rattle.kr_link.proofs.waiting.fill.Given as goal

abbrev pub invariant-loop-most : goal.invariant-loop-most
invariant-loop-most l = record {
  group : l.group ++ (append_group_behind l.most l.room l.waits.items).0 ≡ l.fn.group ++ (append_group_behind 99 l.fn.room l.fn.waits.items).0;
  rest : (append_group_behind l.most l.room l.waits.items).1 ≡ (append_group_behind 99 l.fn.room l.fn.waits.items).1;
}

abbrev pub decreases-loop-most : goal.decreases-loop-most
decreases-loop-most l = l.most
