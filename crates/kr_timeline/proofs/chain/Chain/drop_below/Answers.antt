use Rattle.std.proofs.Common.{◌≡◌, ◌∙◌, ap, sym}
use Rattle.std.proofs.lemmas.Bool.{OnTrue_at, OnFalse_at, OnTrue_from}
use Rattle.kr_timeline.specs.Chains.{settled, EndsCovered, EndsOpen, is_left, newer}
use Rattle.kr_timeline.proofs.Versions.{settled_covered, settled_open, falls-newer, left_covered, shorter_covered}
use Rattle.kr_timeline.proofs.chain.Chain.drop_below.Goals as goal

pub loop-self-preserved : goal.loop-self-preserved
loop-self-preserved g c =
    let covered : EndsCovered c.args.number c.loop-self.self = OnTrue_at c.loop-self-test.true c.is_covered.ensures.covered in
    let is : c.drop_oldest.new.self ≡ newer c.loop-self.self = OnTrue_at (c.drop_oldest.ensures.answer ∙ left_covered c.args.number c.loop-self.self covered) c.drop_oldest.ensures.left in
    record {
      left = ap (settled c.args.number) is ∙ settled_covered c.args.number c.loop-self.self covered ∙ c.loop-self.invariant.left;
      falls = rw is (falls-newer c.loop-self.self c.loop-self.invariant.falls);
    }

pub loop-self-smaller : goal.loop-self-smaller
loop-self-smaller g c =
    let covered : EndsCovered c.args.number c.loop-self.self = OnTrue_at c.loop-self-test.true c.is_covered.ensures.covered in
    let is : c.drop_oldest.new.self ≡ newer c.loop-self.self = OnTrue_at (c.drop_oldest.ensures.answer ∙ left_covered c.args.number c.loop-self.self covered) c.drop_oldest.ensures.left in
    rw is (shorter_covered c.args.number c.loop-self.self covered)

pub returns-clause-answer : goal.returns-clause-answer
returns-clause-answer g c =
    let «open» : EndsOpen c.args.number c.loop-self.self = OnFalse_at c.loop-self-test.false c.is_covered.ensures.«open» in
    c.drop_gone-is_left.ensures.answer ∙ ap is_left (sym (settled_open c.args.number c.loop-self.self c.loop-self.invariant.falls «open») ∙ c.loop-self.invariant.left)

pub returns-clause-left : goal.returns-clause-left
returns-clause-left g c =
    let «open» : EndsOpen c.args.number c.loop-self.self = OnFalse_at c.loop-self-test.false c.is_covered.ensures.«open» in
    OnTrue_from c.drop_gone-is_left.result _ (λ holds. c.free_block.ensures ∙ OnTrue_at holds c.drop_gone-is_left.ensures.left ∙ sym (settled_open c.args.number c.loop-self.self c.loop-self.invariant.falls «open») ∙ c.loop-self.invariant.left)
