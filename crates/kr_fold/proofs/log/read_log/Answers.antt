use Rattle.std.proofs.Common.{pos, refl, rules, arith, w64}
use Rattle.std.specs.Prelude.{FitsSigned}
use Rattle.std.proofs.lemmas.Int.{ints, to_z-of_z}
use Rattle.std.proofs.lemmas.Result.{err_from_is_err_and}
use Rattle.kr_fold.proofs.LogReading.{marked_new, nothing_forgotten, reads_nothing}
use Rattle.kr_fold.proofs.log.read_log.Goals as goal

pub loop-next-init : goal.loop-next-init
loop-next-init g c =
    let new = marked_new c.new-store.result c.mark.new.self c.new-store.ensures c.in_ok-mark.ensures.ok in
    record {
      stands = new.0;
      within = record { natural = omega (arith, ints); few = omega (arith, ints); bytes = omega arith };
      reads = reads_nothing _ (record { tip = pos 0; at = 0 }) c.mark.new.self refl refl new.1;
      faults = omega arith;
    }

pub returns-in-Ok-None-clause-log : goal.returns-in-Ok-None-clause-log
returns-in-Ok-None-clause-log g c =
    let ends = rw c.in-Ok-None.field-0-is at c.in-Ok-None.ensures.next _ c.loop-next.invariant.reads in
    let fits : FitsSigned w64 c.loop-next.place.tip = search rules in
    rw (to_z-of_z w64 c.loop-next.place.tip fits) ends

pub returns-in-Err-clause-fault : goal.returns-in-Err-clause-fault
returns-in-Err-clause-fault g c = c.in-Err.ensures.next _ c.loop-next.invariant.reads

pub returns-in_err-mark-clause-fault : goal.returns-in_err-mark-clause-fault
returns-in_err-mark-clause-fault g c =
    let p = err_from_is_err_and c.from_residual.result c.from_residual.ensures.1 in
    rw (p.1, p.2) (nothing_forgotten _)
