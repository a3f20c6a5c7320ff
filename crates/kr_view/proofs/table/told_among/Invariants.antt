use Rattle.std.proofs.Common.{◌≡◌, drop, fold}
use Rattle.kr_view.specs.Tables.{told_among, with_entry}
use Rattle.kr_view.proofs.table.told_among.Given as goal

abbrev pub invariant-loop-entry : goal.invariant-loop-entry
invariant-loop-entry l = fold with_entry l.all.items (drop l.entry-index l.entries) ≡ told_among l.entries
