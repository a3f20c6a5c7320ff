use Rattle.std.proofs.Common.{◌≡◌, ◌-◌, ◌∙◌, ap, sym, arith, length, take, filter, not}
use Rattle.std.specs.Prelude.{int_lt}
use Rattle.kr_image.specs.declared.kept_counts.KeptCounts.{KeptCounts}
use Rattle.kr_image.proofs.EpochEnds.{up_to_last, without_last, left_rises, shorter_last}
use Rattle.kr_image.proofs.kept_counts.keep_up_to.Goals as goal

pub loop-steps-preserved : goal.loop-steps-preserved
loop-steps-preserved g c =
    let above = sym c.is_last_above.ensures ∙ c.loop-steps-test.true in
    let is : c.pop_back.new.self.items ≡ take (length c.loop-steps.kept.items - 1) c.loop-steps.kept.items = c.pop_back.ensures.rest ∙ ap (λ n. take (n - 1) c.loop-steps.kept.items) (omega (arith, c.loop-steps.kept.ok)) in
    record {
      left = ap (filter (λ (k : KeptCounts). not (int_lt c.args.epoch.now k.epoch))) is ∙ without_last (λ (k : KeptCounts). k.epoch) c.args.epoch.now c.loop-steps.kept.items above ∙ c.loop-steps.invariant.left;
      rises = rw is (left_rises (λ (k : KeptCounts). k.epoch) c.args.epoch.now c.loop-steps.kept.items above c.loop-steps.invariant.rises);
      counted = omega (arith, ap length is, shorter_last (λ (k : KeptCounts). k.epoch) c.args.epoch.now c.loop-steps.kept.items above);
    }

pub returns-clause-left : goal.returns-clause-left
returns-clause-left g c = sym (up_to_last (λ (k : KeptCounts). k.epoch) c.args.epoch.now c.loop-steps.kept.items c.loop-steps.invariant.rises (sym c.is_last_above.ensures ∙ c.loop-steps-test.false)) ∙ c.loop-steps.invariant.left
