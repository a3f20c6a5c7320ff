use Rattle.std.proofs.Common.{◌∙◌, refl, sym}
use Rattle.kr_shared.proofs.Desks.{none_fresh, steps_serve, steps_stand, when_no_err}
use Rattle.kr_shared.proofs.desk.Desk.serve.Goals as goal

pub keep_fresh-requires : goal.keep_fresh-requires
keep_fresh-requires g c =
    none_fresh c.args.self.now c.step.new.self c.enter-aside.new.self c.give_out-appended.new.self c.answer.new.self c.drop_lost.new.self _ c.has_lost-lost.result
    c.step.ensures.same c.enter-aside.ensures.same c.give_out-appended.ensures.same c.answer.ensures.same c.drop_lost.ensures.same refl c.requires.rests c.drop_lost.ensures.fresh

pub returns-clause-done : goal.returns-clause-done
returns-clause-done g c =
    steps_serve c.args.self.now c.step.new.self c.enter-aside.new.self c.give_out-appended.new.self c.answer.new.self c.drop_lost.new.self c.keep_fresh.new.self c.has_lost-lost.result
    c.step.ensures.same c.enter-aside.ensures.same c.give_out-appended.ensures.same c.answer.ensures.same c.drop_lost.ensures.same c.keep_fresh.ensures
    c.requires.rests c.requires.stands c.args.event c.args.asking c.requires.task c.give_out-appended.result c.enter-aside.result c.is_led-led.result c.takes_writes-takes.result _ _ _ _
    c.is_led-led.ensures c.takes_writes-takes.ensures (when_no_err c.step.result c.step.ensures.done (sym c.is_err.ensures.value ∙ c.if-is_err.false)) c.enter-aside.ensures.aside c.enter-aside.ensures.entered c.enter-aside.ensures.due
    c.give_out-appended.ensures.given c.answer.ensures.due c.answer.ensures.waiting c.has_lost-lost.ensures c.drop_lost.ensures.left c.drop_lost.ensures.fresh

pub returns-clause-stands : goal.returns-clause-stands
returns-clause-stands g c =
    steps_stand c.args.self.now c.step.new.self c.enter-aside.new.self c.give_out-appended.new.self c.answer.new.self c.drop_lost.new.self c.keep_fresh.new.self c.has_lost-lost.result
    c.step.ensures.same c.enter-aside.ensures.same c.give_out-appended.ensures.same c.answer.ensures.same c.drop_lost.ensures.same c.keep_fresh.ensures
    c.requires.rests c.requires.stands c.args.event c.args.asking c.requires.task c.give_out-appended.result c.enter-aside.result c.is_led-led.result c.takes_writes-takes.result _ _ _ _
    c.is_led-led.ensures c.takes_writes-takes.ensures (when_no_err c.step.result c.step.ensures.done (sym c.is_err.ensures.value ∙ c.if-is_err.false)) c.enter-aside.ensures.aside c.enter-aside.ensures.entered c.enter-aside.ensures.due
    c.give_out-appended.ensures.given c.answer.ensures.due c.answer.ensures.waiting c.has_lost-lost.ensures c.drop_lost.ensures.left c.drop_lost.ensures.fresh c.answer.ensures.room
