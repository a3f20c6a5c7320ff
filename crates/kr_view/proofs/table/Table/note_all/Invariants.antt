use Rattle.std.proofs.Common.{◌≡◌, fold, length}
use Rattle.kr_view.specs.Tables.{noted}
use Rattle.kr_view.proofs.table.Table.note_all.Given as goal

abbrev pub invariant-loop-told : goal.invariant-loop-told
invariant-loop-told l = fold noted l.self l.left.items ≡ fold noted l.initial.self l.initial.left.items

abbrev pub decreases-loop-told : goal.decreases-loop-told
decreases-loop-told l = length l.left.items
