use Rattle.std.proofs.Common.{◌≡◌, ◌+◌, length, filter, not}
use Rattle.std.specs.Prelude.{int_lt}
use Rattle.kr_image.specs.declared.kept_counts.KeptCounts.{KeptCounts}
use Rattle.kr_image.proofs.EpochEnds.{Rises}
use Rattle.kr_image.proofs.kept_counts.keep_from.Given as goal

abbrev pub invariant-loop-steps : goal.invariant-loop-steps
invariant-loop-steps g l = record {
  left : filter (λ (k : KeptCounts). not (int_lt k.epoch l.epoch)) l.kept.items ≡ filter (λ (k : KeptCounts). not (int_lt k.epoch l.epoch)) l.initial.kept.items;
  rises : Rises (λ (k : KeptCounts). k.epoch) l.kept.items;
  counted : l.steps + length l.kept.items ≡ l.initial.steps + length l.initial.kept.items;
}

abbrev pub decreases-loop-steps : goal.decreases-loop-steps
decreases-loop-steps g l = length l.kept.items
