use Rattle.std.proofs.Common.{◌≡◌, ◌≤◌, ◌+◌}
use Rattle.std.specs.VecDeque.{deque_len, deque_capacity}
use Rattle.kr_timeline.specs.Chains.{AreFalling}
use Rattle.kr_timeline.specs.Intervals.{DropsLast, touches}
use Rattle.kr_timeline.proofs.intervals.drop_after.Given as goal

abbrev pub invariant-loop-chains : goal.invariant-loop-chains
invariant-loop-chains g l = record {
  drops : DropsLast g.K.Ord.cmp l.number l.initial.kept.items l.kept.items l.initial.chains.entries l.chains.entries;
  falls : AreFalling l.chains.entries;
  capacity : deque_capacity l.kept ≡ deque_capacity l.initial.kept;
  counted : l.steps + touches l.kept.items ≡ l.initial.steps + touches l.initial.kept.items;
  within : l.count ≤ deque_len l.kept;
}

abbrev pub decreases-loop-chains : goal.decreases-loop-chains
decreases-loop-chains g l = deque_len l.kept
