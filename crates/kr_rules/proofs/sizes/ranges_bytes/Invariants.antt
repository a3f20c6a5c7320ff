use Rattle.std.proofs.Common.{◌≡◌, ◌≤◌, ◌+◌, drop, sum_by}
use Rattle.kr_defs.specs.declared.broker.Range.{Range}
use Rattle.kr_defs.specs.declared.limits.TheConstants.{MOST_REQUEST_BYTES as most}
use Rattle.kr_defs.specs.Sizes.{text_bytes, no_tags_bytes}
use Rattle.kr_rules.proofs.sizes.ranges_bytes.Given as goal

abbrev pub invariant-loop-range : goal.invariant-loop-range
invariant-loop-range l =
    let bytes = (λ (r : Range). text_bytes r.name + 2 + 2 + no_tags_bytes) in
    record {
      sum : l.total + sum_by bytes (drop l.range-index l.ranges) ≡ sum_by bytes l.ranges;
      little : l.total ≤ most;
    }
