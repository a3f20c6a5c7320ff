use Rattle.std.proofs.Common.{sym, subst, ap}
use Rattle.kr_shared.specs.Desks.{settled}
use Rattle.kr_shared.specs.Turns.{Bench, StaysLate}
use Rattle.kr_shared.proofs.Turning.{stays_late, whatever}
use Rattle.kr_shared.proofs.worker.WorkerSeat.catch_up.Goals as goal

pub returns-in_err-settle-clause-err : goal.returns-in_err-settle-clause-err
returns-in_err-settle-clause-err g c =
    let later = c.settle.new.self in
    let is = ap (λ (b : Bench). record b { work = settled later; shown = later.shelf.list }) c.self.view_is in
    whatever c.from_residual.result (subst (StaysLate c.args.self.now) (sym is)
    (stays_late c.args.self.now c.self.inside.desk later (sym (ap (λ (b : Bench). b.work) c.self.view_is)) (sym (ap (λ (b : Bench). b.shown) c.self.view_is)) c.settle.ensures.same c.settle.ensures.onwards))
