use Rattle.std.proofs.Common.{◌∙◌, sym}
use Rattle.kr_describe.proofs.NamedLines.{of_all, of_names}
use Rattle.kr_describe.proofs.SoFar.{begun, no_room_left}
use Rattle.kr_describe.proofs.pages.add_lines.Goals as goal

pub returns-in_err-cursor-clause-went : goal.returns-in_err-cursor-clause-went
returns-in_err-cursor-clause-went g c = no_room_left c.from_residual.result c.requires.steady (begun g.R.RecordReader.reading g.R.RecordReader.with_reading c.args.steady.now c.args.reader.now c.requires.steady) c.from_residual.ensures.1

pub returns-in_err-names-clause-went : goal.returns-in_err-names-clause-went
returns-in_err-names-clause-went g c = no_room_left c.from_residual-in_err-names.result c.requires.steady (begun g.R.RecordReader.reading g.R.RecordReader.with_reading c.args.steady.now c.args.reader.now c.requires.steady) c.from_residual-in_err-names.ensures.1

pub returns-then-is_empty-clause-entries : goal.returns-then-is_empty-clause-entries
returns-then-is_empty-clause-entries g c =
    of_all _ c.requires.steady.valid _ _ _ _ _ c.in_ok-cursor.ensures c.args.describe.now.names (sym c.is_empty.ensures ∙ c.if-is_empty.true) c.in_ok-add_all.ensures.entries

pub returns-clause-entries : goal.returns-clause-entries
returns-clause-entries g c =
    of_names _ c.requires.steady.valid _ _ _ _ _ c.in_ok-cursor.ensures c.args.describe.now.names (sym c.is_empty.ensures ∙ c.if-is_empty.false) _ c.in_ok-names.ensures c.in_ok-add_names.ensures.entries
