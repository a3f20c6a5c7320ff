use Rattle.std.proofs.Common.{◌≡◌, ◌+◌, length}
use Rattle.std.specs.Option.{option_copied}
use Rattle.kr_defs.specs.Map.{above, partition_order}
use Rattle.kr_workload.specs.Summary.{led_of}
use Rattle.kr_workload.proofs.LedPartitions.{led_left}
use Rattle.kr_workload.proofs.summary.count_led.Given as goal

abbrev pub invariant-loop-key : goal.invariant-loop-key
invariant-loop-key g l = l.led + led_left l.seen.partitions (option_copied l.after) ≡ led_of l.seen

abbrev pub decreases-loop-key : goal.decreases-loop-key
decreases-loop-key g l = length (above partition_order l.seen.partitions (option_copied l.after))
