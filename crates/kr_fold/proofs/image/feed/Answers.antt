use Rattle.std.proofs.Common.{Err, sym, subst, ◌++◌}
use Rattle.kr_snapshot.specs.Reading.{so_far}
use Rattle.kr_fold.specs.declared.fault.ToolFault.{ToolFault}
use Rattle.kr_fold.specs.inner.ImageParts.{IsFed}
use Rattle.kr_fold.proofs.PartReading.{fed_ok, fed_fault}
use Rattle.kr_fold.proofs.image.feed.Goals as goal

pub returns-in-Ok : goal.returns-in-Ok
returns-in-Ok c = λ fed stands. fed_ok fed c.args.part.now c.args.reader.now c.feed.new.self c.args.at c.in-Ok.ensures.stands stands c.in-Ok.ensures.answer

pub returns-in-Err : goal.returns-in-Err
returns-in-Err c = λ fed stands.
    subst (λ (f : ToolFault). IsFed (so_far (fed ++ c.args.part.now)) c.feed.new.self c.args.at (Err f)) (sym c.fault_as.ensures)
    (fed_fault fed c.args.part.now c.args.reader.now c.feed.new.self c.args.at c.in-Err.ensures.stands stands c.in-Err.fault c.in-Err.ensures.answer)
