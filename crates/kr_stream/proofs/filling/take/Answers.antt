use Rattle.std.proofs.Common.{sym, subst}
use Rattle.kr_stream.specs.inner.Taken.{Short}
use Rattle.kr_stream.proofs.Causes.{short_of}
use Rattle.kr_stream.proofs.filling.take.Goals as goal

pub returns-in-Err-clause-short : goal.returns-in-Err-clause-short
returns-in-Err-clause-short g c =
    subst (Short c.args.start c.args.at _ _ _ _ _) (sym c.shortage_fault.ensures) (short_of _ _ c.args.start c.args.at _ _ _ c.in-Err.shortage c.in-Err.ensures.short)
