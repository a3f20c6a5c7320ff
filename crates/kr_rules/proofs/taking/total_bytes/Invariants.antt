use Rattle.std.proofs.Common.{◌≡◌, ◌≤◌, ◌+◌, drop, sum_by}
use Rattle.kr_defs.specs.declared.limits.TheConstants.{MOST_REQUEST_BYTES as most_bytes}
use Rattle.kr_defs.specs.Sizes.{value_bytes}
use Rattle.kr_rules.proofs.taking.total_bytes.Given as goal

abbrev pub invariant-loop-record : goal.invariant-loop-record
invariant-loop-record l = record {
  sum : l.total + sum_by value_bytes (drop l.record-index l.records) ≡ l.bytes + sum_by value_bytes l.records;
  little : l.total ≤ most_bytes;
}
