use Rattle.std.proofs.Common.{◌∙◌}
use Rattle.kr_leaders.proofs.controller.take.Goals as goal

pub returns : goal.returns
returns g c =
    let d = c.drop_outputs.ensures in
    let step = c.in_ok-step.ensures.step in
    record {
      idle = d.idle;
      options = d.options ∙ step.options;
      stands = λ s writes stands. d.stands _ _ (step.stands s writes stands);
    }
