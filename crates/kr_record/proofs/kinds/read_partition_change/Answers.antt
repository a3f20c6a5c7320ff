use Rattle.std.proofs.Common.{rules, w32}
use Rattle.std.proofs.lemmas.Int.{to_z-of_z}
use Rattle.std.proofs.lemmas.Result.{err_from_is_err_and}
use Rattle.kr_record.specs.Records.{partition_change}
use Rattle.kr_record.proofs.RecordLaws.{read_as, refused_as}
use Rattle.kr_record.proofs.kinds.read_partition_change.Goals as goal

pub returns-in_err-index : goal.returns-in_err-index
returns-in_err-index c =
    let p = err_from_is_err_and c.from_residual.result c.from_residual.ensures.1 in
    rw (p.1, p.2) (refused_as partition_change c.args.version c.args.from.now c.in_err-index.field-0.0 c.in_err-index.ensures)

pub returns : goal.returns
returns c =
    rw (c.change_of-change.ensures, to_z-of_z w32 c.in_ok-index.index (search rules)) (read_as partition_change c.args.version c.args.from.now c.read_version.new.from _ c.in_ok-index.ensures)
