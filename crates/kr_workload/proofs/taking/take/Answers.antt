use Rattle.std.proofs.Common.{List, ap, ◌∙◌}
use Rattle.kr_calls.specs.declared.events.Entry.{Entry}
use Rattle.kr_workload.specs.declared.tally.Tally.{Tally}
use Rattle.kr_workload.specs.inner.Counting.{with_appended, with_outputs}
use Rattle.kr_workload.proofs.taking.take.Goals as goal

pub hand_out-requires : goal.hand_out-requires
hand_out-requires g c =
    let sound = c.requires.sound in
    (c.in_ok-step.ensures.step.stands sound.state sound.writes sound.stands).ordered

pub returns : goal.returns
returns g c =
    let w = c.hand_out.ensures in
    record {
      stepped = _;
      given = w.0;
      step = c.in_ok-step.ensures.step;
      drains = w.1;
      counted = w.2 ∙ ap (λ (t : Tally). with_outputs t w.0) (c.count_event.ensures ∙ ap (λ (entries : List Entry). with_appended c.args.tally.now entries) c.fresh.ensures);
    }
