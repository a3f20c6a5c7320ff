use Rattle.std.proofs.Common.{◌∙◌, ap, sym, arith, length, filter, not}
use Rattle.std.specs.Prelude.{int_lt}
use Rattle.kr_image.specs.declared.kept_counts.KeptCounts.{KeptCounts}
use Rattle.kr_image.proofs.EpochEnds.{from_first, without_first, rest_rises, shorter_first}
use Rattle.kr_image.proofs.kept_counts.keep_from.Goals as goal

pub loop-steps-preserved : goal.loop-steps-preserved
loop-steps-preserved g c =
    let below = sym c.is_first_below.ensures ∙ c.loop-steps-test.true in
    let is = c.pop_front.ensures.rest in
    record {
      left = ap (filter (λ (k : KeptCounts). not (int_lt k.epoch c.args.epoch.now))) is ∙ without_first (λ (k : KeptCounts). k.epoch) c.args.epoch.now c.loop-steps.kept.items below ∙ c.loop-steps.invariant.left;
      rises = rw is (rest_rises (λ (k : KeptCounts). k.epoch) c.loop-steps.kept.items c.loop-steps.invariant.rises);
      counted = omega (arith, ap length is, shorter_first (λ (k : KeptCounts). k.epoch) c.args.epoch.now c.loop-steps.kept.items below);
    }

pub returns-clause-left : goal.returns-clause-left
returns-clause-left g c = sym (from_first (λ (k : KeptCounts). k.epoch) c.args.epoch.now c.loop-steps.kept.items c.loop-steps.invariant.rises (sym c.is_first_below.ensures ∙ c.loop-steps-test.false)) ∙ c.loop-steps.invariant.left
