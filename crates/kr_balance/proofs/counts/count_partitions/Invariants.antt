use Rattle.std.proofs.Common.{length}
use Rattle.std.specs.Option.{option_copied}
use Rattle.kr_defs.specs.Map.{above, partition_order}
use Rattle.kr_balance.proofs.Counted.{Counted}
use Rattle.kr_balance.proofs.counts.count_partitions.Given as goal

abbrev pub invariant-loop-key : goal.invariant-loop-key
invariant-loop-key g l = Counted l.seen l.tallies.entries (option_copied l.after)

abbrev pub decreases-loop-key : goal.decreases-loop-key
decreases-loop-key g l = length (above partition_order l.seen.partitions (option_copied l.after))
