use Rattle.std.proofs.Common.{◌≡◌, ◌≤◌, ◌+◌}
use Rattle.test_calls.proofs.costs.fill.Given as goal

abbrev pub invariant-loop-key : goal.invariant-loop-key
invariant-loop-key l = record {
  kept : l.timeline.maps.kept ≡ l.fn.timeline.maps.kept;
  made : l.timeline.maps.made ≤ l.fn.timeline.maps.made + l.key;
  most : l.key ≤ 1000;
}
