use Rattle.std.proofs.Common.{rules, sym}
use Rattle.std.specs.Int.{w128}
use Rattle.std.specs.Prelude.{FitsSigned}
use Rattle.std.proofs.lemmas.Int.{to_z-of_z}
use Rattle.kr_json.proofs.Joined.{three}
use Rattle.kr_json.proofs.line.put_place.Goals as goal

pub returns : goal.returns
returns c =
    let fits : FitsSigned w128 c.offset_of-offset.result = search rules in
    let first = rw (to_z-of_z w128 c.offset_of-offset.result fits) at c.in_ok-put_i128.ensures in
    rw (sym c.offset_of-offset.ensures) (three _ _ _ _ _ _ _ first c.in_ok-put_i32.ensures c.in_ok-put_i64.ensures)
