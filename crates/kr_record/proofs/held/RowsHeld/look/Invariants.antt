use Rattle.std.specs.List.{AllWithin}
use Rattle.kr_record.proofs.held.RowsHeld.look.Given as goal

abbrev pub invariant-loop-row : goal.invariant-loop-row
invariant-loop-row g l = AllWithin g.T.Held.held l.self 0 l.row-index
