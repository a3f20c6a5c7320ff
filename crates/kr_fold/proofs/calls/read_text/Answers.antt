use Rattle.std.proofs.Common.{rules, w64}
use Rattle.std.specs.Prelude.{FitsSigned}
use Rattle.std.proofs.lemmas.Int.{to_z-of_z}
use Rattle.kr_fold.proofs.CallEnds.{dumps_of}
use Rattle.kr_fold.proofs.calls.read_text.Goals as goal

pub returns-clause-text : goal.returns-clause-text
returns-clause-text g c =
    let fits : FitsSigned w64 c.in-Ok.image.offset = search rules in
    dumps_of _ _ c.in-Ok.image.bytes.items c.in_ok-dump.field-0 c.in-Ok.image.offset c.in-Ok.image.store.tip
    c.in-Ok.ensures.took c.in-Ok.ensures.image (rw (to_z-of_z w64 c.in-Ok.image.offset fits, c.tip.ensures) at c.in_ok-dump.ensures)
