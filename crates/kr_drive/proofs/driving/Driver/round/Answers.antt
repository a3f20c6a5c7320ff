use Rattle.std.proofs.Common.{rules, w32, to_z, of_z, ◌≡◌, ◌∙◌, ◌+◌, ap, refl, ℕ, ℤ}
use Rattle.kr_workload.specs.Chances.{drawn_below, next_drawn}
use Rattle.kr_workload.specs.Session.{options}
use Rattle.kr_drive.specs.Driving.{drawn_move, run_behind}
use Rattle.kr_drive.proofs.DrivenMoves.{driven_more}
use Rattle.kr_drive.proofs.driving.Driver.round.Goals as goal

pub returns-clause-stands : goal.returns-clause-stands
returns-clause-stands c = λ seed d has.
    let round = c.args.round + 1 in
    let kind = c.next_drawn-kind.ensures ∙ ap (λ (x : ℕ). next_drawn x) has.drawn in
    let node = c.next_drawn-node.ensures ∙ ap (λ (x : ℕ). next_drawn x) kind in
    let first = c.drawn_below.ensures.value ∙ ap (λ (x : ℕ). drawn_below x 8) kind in
    let second = c.drawn_below-2.ensures.value ∙ ap (λ (x : ℕ). drawn_below x 3) node in
    let same : to_z w32 (of_z w32 c.greatest_epoch-elected.result) ≡ c.greatest_epoch-elected.result = search rules in
    let elected = same ∙ c.greatest_epoch-elected.ensures (options seed) 3 d.past has.cluster in
    let turn =
    c.in_ok-turn.ensures.turn
    ∙ (ap (λ (z : ℤ). drawn_move z round c.drawn_below.result c.drawn_below-2.result) elected
    ∙ (ap (λ (x : ℕ). drawn_move (run_behind seed d).elected round x c.drawn_below-2.result) first
    ∙ ap (λ (x : ℕ). drawn_move (run_behind seed d).elected round (drawn_below (next_drawn d.drawn) 8) x) second)) in
    driven_more seed c.args.round d c.in_ok-turn.turn c.args.self.now c.take.new.self (record c.take.new.self { drawn = c.next_drawn-node.result }) has c.in_ok-take.ensures turn refl refl
    (c.next_drawn-node.ensures ∙ ap (λ (x : ℕ). next_drawn x) c.next_drawn-kind.ensures)
