use Rattle.std.proofs.Common.{◌∙◌, ap, arith, length, refl, sym, ℕ, ℤ}
use Rattle.std.specs.Prelude.{◌==◌}
use Rattle.kr_defs.specs.Map.{partition_order}
use Rattle.kr_defs.proofs.ImageParts.{partition_total}
use Rattle.kr_defs.proofs.Maps.{IsMap-remove}
use Rattle.kr_defs.proofs.EntryCounts.{length-gone}
use Rattle.kr_image.proofs.Owners.{partition_same, partition_self, partitions_between, partitions_forward, partitions_within}
use Rattle.kr_image.proofs.Removal.{count-gone, goes, none_between, others-gone}
use Rattle.kr_image.proofs.partitions.remove_partitions.Goals as goal

pub loop-key-init : goal.loop-key-init
loop-key-init c = record {
  others = refl;
  ordered = c.requires.ordered;
  end = c.end_of-end.ensures;
  own = rw c.key_of-after.ensures (partition_self c.args.topic.now);
  forward = rw (c.key_of-after.ensures, c.end_of-end.ensures) (partitions_forward c.args.topic.now);
  between = rw (c.key_of-after.ensures, c.end_of-end.ensures) (partitions_within c.args.topic.now c.args.partitions.now.maps.present c.requires.indexes);
  counted = c.requires.counted;
  made = omega arith;
  kept = refl;
}

pub loop-key-smaller : goal.loop-key-smaller
loop-key-smaller c =
    let i = c.loop-key.invariant in
    let own : ℕ × ℤ → _ = λ (k : ℕ × ℤ). k.0 == c.args.topic.now in
    let step = goes partition_order own partition_total c.loop-key.after c.end_of-end.result c.loop-key.partitions.maps.present c.in-Some.key i.ordered i.between (rw (c.in-Some.is, c.timeline.ensures) at c.in_ok-key.ensures) in
    let gone = length-gone partition_order c.loop-key.partitions.maps.present c.in-Some.key step.there in
    let less = ap length c.in_ok-unset_counted.ensures.present in
    omega (arith, gone, less)

pub loop-key-preserved : goal.loop-key-preserved
loop-key-preserved c =
    let i = c.loop-key.invariant in
    let es = c.loop-key.partitions.maps.present in
    let key = c.in-Some.key in
    let own : ℕ × ℤ → _ = λ (k : ℕ × ℤ). k.0 == c.args.topic.now in
    let step = goes partition_order own partition_total c.loop-key.after c.end_of-end.result es key i.ordered i.between (rw (c.in-Some.is, c.timeline.ensures) at c.in_ok-key.ensures) in
    let theirs = partitions_between c.args.topic.now c.loop-key.after key i.own step.above (rw i.end at step.below) in
    let same = λ (x : ℕ × ℤ). partition_same c.args.topic.now key x theirs in
    let count = count-gone partition_order own key same es step.there in
    let is = c.in_ok-unset_counted.ensures.present in
    record {
      others = rw is (others-gone partition_order own key same es ∙ i.others);
      ordered = rw is (IsMap-remove partition_total es key i.ordered);
      end = i.end;
      own = theirs;
      forward = step.below;
      between = rw is step.rest;
      counted = c.in_ok-unset_counted.ensures.counted;
      made = rw is (let more = c.in_ok-unset_counted.ensures.made in let so_far = i.made in omega (arith, count, more, so_far));
      kept = c.unset_counted.ensures.kept ∙ i.kept;
    }

pub returns-clause-present : goal.returns-clause-present
returns-clause-present c =
    sym (none_between partition_order (λ (k : ℕ × ℤ). k.0 == c.args.topic.now) partition_total c.loop-key.after c.end_of-end.result c.loop-key.partitions.maps.present c.loop-key.invariant.between (rw (c.in_default.is, c.timeline.ensures) at c.in_ok-key.ensures)) ∙ c.loop-key.invariant.others
