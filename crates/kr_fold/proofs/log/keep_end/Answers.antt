use Rattle.std.proofs.Common.{rules, sym, w64}
use Rattle.std.specs.Prelude.{FitsSigned}
use Rattle.std.proofs.lemmas.Int.{to_z-of_z}
use Rattle.kr_fold.proofs.KeptEnds.{forgotten_stands, may_forget}
use Rattle.kr_fold.proofs.log.keep_end.Goals as goal

pub forget_below-requires : goal.forget_below-requires
forget_below-requires g c =
    let fits : FitsSigned w64 c.in-Some.begin = search rules in
    rw (to_z-of_z w64 c.in-Some.begin fits) (may_forget c.args.store.now c.in-Some.begin c.args.tip.now c.requires (sym c.in-Some.ensures))

pub returns-in-Some-clause-stands : goal.returns-in-Some-clause-stands
returns-in-Some-clause-stands g c =
    let fits : FitsSigned w64 c.in-Some.begin = search rules in
    let same = rw (to_z-of_z w64 c.in-Some.begin fits) at c.forget_below.ensures.images in
    forgotten_stands c.args.store.now c.forget_below.new.self c.in-Some.begin c.args.tip.now c.counts-valid.ensures.valid c.requires (sym c.in-Some.ensures) same
