use Rattle.std.proofs.Common.{◌≡◌, ◌++◌, drop}
use Rattle.kr_nodes.specs.inner.Taking.{all_items}
use Rattle.kr_nodes.proofs.node.items_of.Given as goal

abbrev pub invariant-loop-entry : goal.invariant-loop-entry
invariant-loop-entry l = l.items.items ++ all_items (drop l.entry-index l.entries) ≡ all_items l.entries
