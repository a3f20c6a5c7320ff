use Rattle.std.proofs.Common.{take}
use Rattle.std.specs.Prelude.{All}
use Rattle.law_nodes.specs.ReadingBack.{IsHeldEntry}
use Rattle.kr_nodes.proofs.node.hold.Given as goal

abbrev pub invariant-loop-entry : goal.invariant-loop-entry
invariant-loop-entry l = All IsHeldEntry (take l.entry-index l.entries)
