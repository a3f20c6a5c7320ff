use Rattle.std.proofs.Common.{◌∙◌, ap, subst, sym}
use Rattle.std.proofs.lemmas.Result.{on_err_weaker}
use Rattle.kr_view.specs.CopiesRule.{GoesOn}
use Rattle.kr_shared.specs.Turns.{Bench, caught_up}
use Rattle.kr_shared.proofs.Settling.{due_behind}
use Rattle.kr_shared.proofs.Turning.{late_so}
use Rattle.kr_shared.proofs.worker.WorkerSeat.turn.Goals as goal

pub returns-clause-late : goal.returns-clause-late
returns-clause-late g c =
    let due = subst (λ (b : Bench). GoesOn b.work.shelf.list b.shown) c.self.view_is (due_behind c.self.inside.desk) in
    on_err_weaker c.work.result
    (late_so _ c.args.self.now c.catch_up.new.self c.take_up.new.self c.work.new.self c.in-Some.job (c.in_ok-catch_up.ensures.ok ∙ ap caught_up c.self.view_is) (sym (ap (λ (b : Bench). b.stopped) c.self-2.view_is) ∙ c.if-self.false) c.take_up.ensures.same c.in-Some.ensures.some.0 due)
    c.work.ensures.late
