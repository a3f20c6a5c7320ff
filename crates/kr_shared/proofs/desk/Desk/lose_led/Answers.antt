use Rattle.std.proofs.Common.{◌≡◌, ◌∙◌, [], ap, refl, w32}
use Rattle.std.proofs.lemmas.Int.{to_z-of_z}
use Rattle.kr_model.specs.Engine.{Core}
use Rattle.kr_shared.specs.Desks.{DeskState}
use Rattle.kr_shared.proofs.Desks.{steps_lose, steps_lost, when_ok}
use Rattle.kr_shared.proofs.desk.Desk.lose_led.Goals as goal

pub returns-clause-done : goal.returns-clause-done
returns-clause-done g c =
    let w2 = c.give_out-given.new.self in
    let w4 = c.drop_lost.new.self in
    let taken = c.take_fresh-fresh.ensures.taken ∙ ap (λ (k : DeskState). record k.engine { fresh = [] }) c.self.view_is in
    let three = ap (λ (k : DeskState). record k { engine = c.take_fresh-fresh.new.self }) c.self.view_is ∙ ap (λ (e : Core). record w2 { engine = e }) taken in
    steps_lose c.args.self.now c.step.new.self w2 _ w4 c.step.ensures.same c.give_out-given.ensures.same three c.drop_lost.ensures.same
    c.requires.stands c.requires.bare c.args.epoch c.requires.led c.give_out-given.result _ _ _ _ (when_ok c.step.result (rw (to_z-of_z w32 c.args.epoch c.ranges.epoch) at c.step.ensures.done) (c.step.ensures.lost _ refl)) c.give_out-given.ensures.given c.drop_lost.ensures.left

pub returns-clause-stands : goal.returns-clause-stands
returns-clause-stands g c =
    let w2 = c.give_out-given.new.self in
    let w4 = c.drop_lost.new.self in
    let taken = c.take_fresh-fresh.ensures.taken ∙ ap (λ (k : DeskState). record k.engine { fresh = [] }) c.self.view_is in
    let three = ap (λ (k : DeskState). record k { engine = c.take_fresh-fresh.new.self }) c.self.view_is ∙ ap (λ (e : Core). record w2 { engine = e }) taken in
    steps_lost c.args.self.now c.step.new.self w2 _ w4 c.step.ensures.same c.give_out-given.ensures.same three c.drop_lost.ensures.same
    c.requires.stands c.requires.bare c.args.epoch c.requires.led c.give_out-given.result _ _ _ _ (when_ok c.step.result (rw (to_z-of_z w32 c.args.epoch c.ranges.epoch) at c.step.ensures.done) (c.step.ensures.lost _ refl)) c.give_out-given.ensures.given c.drop_lost.ensures.left
