use Rattle.std.proofs.Common.{sym, subst}
use Rattle.kr_fold.specs.inner.ImageParts.{IsImageFault}
use Rattle.kr_fold.proofs.PartReading.{all_begun, end_fault}
use Rattle.kr_fold.proofs.image.close.Goals as goal

pub returns-in-Ok-clause-image : goal.returns-in-Ok-clause-image
returns-in-Ok-clause-image c = c.in-Ok.ensures.found c.args.bytes.now c.are_bytes.ensures (all_begun c.args.bytes.now c.args.reader c.requires).0

pub returns-in-Err-clause-fault : goal.returns-in-Err-clause-fault
returns-in-Err-clause-fault c =
    let a = all_begun c.args.bytes.now c.args.reader c.requires in
    subst (IsImageFault c.args.bytes.now) (sym c.fault_as.ensures) (end_fault c.args.bytes.now c.in-Err.fault a.1 (c.in-Err.ensures.exact c.args.bytes.now a.0))
