use Rattle.std.proofs.Common.{◌≡◌, ◌≤◌, ◌+◌, length, drop, sum_by}
use Rattle.kr_defs.specs.declared.broker.Range.{Range}
use Rattle.kr_defs.specs.declared.limits.TheConstants.{MOST_REGISTRATION_TEXT}
use Rattle.kr_image.proofs.registrations.with_features.Given as goal

abbrev pub invariant-loop-range : goal.invariant-loop-range
invariant-loop-range l = record {
  sum : l.total + sum_by (λ (r : Range). length r.name) (drop l.range-index l.features) ≡ l.start + sum_by (λ (r : Range). length r.name) l.features;
  little : l.total ≤ MOST_REGISTRATION_TEXT;
}
