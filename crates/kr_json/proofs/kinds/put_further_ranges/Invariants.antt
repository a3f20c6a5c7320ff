use Rattle.std.proofs.Common.{◌≡◌, ◌++◌, drop}
use Rattle.std.specs.List.{flat_map}
use Rattle.kr_json.specs.JsonText.{further}
use Rattle.kr_json.specs.Lines.{range_object}
use Rattle.kr_json.proofs.kinds.put_further_ranges.Given as goal

abbrev pub invariant-loop-range : goal.invariant-loop-range
invariant-loop-range l = l.out.items ++ flat_map (further range_object) (drop l.range-index l.ranges) ≡ l.fn.out.items ++ flat_map (further range_object) l.ranges
