use Rattle.kr_json.proofs.Joined.{element_more}
use Rattle.std.proofs.Common.{arith}
use Rattle.kr_json.specs.JsonText.{further}
use Rattle.kr_json.specs.Lines.{range_object}
use Rattle.kr_json.proofs.kinds.put_further_ranges.Goals as goal

pub loop-range-preserved : goal.loop-range-preserved
loop-range-preserved c = element_more (further range_object) c.args.ranges.now c.loop-range.range-index c.range-item.result _ _ _ (omega arith) c.range-item.is c.loop-range.invariant c.in_ok-put_further_range.ensures
