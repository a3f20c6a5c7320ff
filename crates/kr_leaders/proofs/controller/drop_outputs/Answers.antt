use Rattle.std.proofs.Common.{◌∙◌, refl}
use Rattle.kr_leaders.proofs.controller.drop_outputs.Goals as goal

pub loop-output-init : goal.loop-output-init
loop-output-init c =
    let sound = c.requires in
    record { sound = sound; ordered = sound.stands.ordered; options = refl; stands = λ s writes stands. stands }

pub loop-output-preserved-in-Some : goal.loop-output-preserved-in-Some
loop-output-preserved-in-Some c =
    let before = c.loop-output.invariant in
    let hands = c.in-Some.ensures.hands in
    record {
      sound = c.in-Some.ensures.sound before.sound;
      ordered = hands.ordered;
      options = hands.options ∙ before.options;
      stands = λ s writes stands. hands.stands s writes (before.stands s writes stands);
    }

pub loop-output-preserved-in-Some-2 : goal.loop-output-preserved-in-Some-2
loop-output-preserved-in-Some-2 c =
    let before = c.loop-output.invariant in
    let hands = c.in-Some.ensures.hands in
    record {
      sound = c.in-Some.ensures.sound before.sound;
      ordered = hands.ordered;
      options = hands.options ∙ before.options;
      stands = λ s writes stands. hands.stands s writes (before.stands s writes stands);
    }

pub loop-output-preserved-in-Some-3 : goal.loop-output-preserved-in-Some-3
loop-output-preserved-in-Some-3 c =
    let before = c.loop-output.invariant in
    let hands = c.in-Some.ensures.hands in
    record {
      sound = c.in-Some.ensures.sound before.sound;
      ordered = hands.ordered;
      options = hands.options ∙ before.options;
      stands = λ s writes stands. hands.stands s writes (before.stands s writes stands);
    }

pub loop-output-preserved : goal.loop-output-preserved
loop-output-preserved c =
    let before = c.loop-output.invariant in
    let hands = c.in-Some.ensures.hands in
    record {
      sound = c.in-Some.ensures.sound before.sound;
      ordered = hands.ordered;
      options = hands.options ∙ before.options;
      stands = λ s writes stands. hands.stands s writes (before.stands s writes stands);
    }

pub returns : goal.returns
returns c =
    let before = c.loop-output.invariant in
    let hands = c.in_default.ensures.hands in
    record {
      idle = record { sound = c.in_default.ensures.sound before.sound; drained = hands.all refl };
      options = hands.options ∙ before.options;
      stands = λ s writes stands. hands.stands s writes (before.stands s writes stands);
    }
