use Rattle.std.proofs.Common.{◌≡◌, ◌≤◌, ◌+◌}
use Rattle.std.specs.VecDeque.{deque_len, deque_capacity}
use Rattle.kr_timeline.specs.Chains.{AreFalling}
use Rattle.kr_timeline.specs.Intervals.{Forgets, touches}
use Rattle.kr_timeline.proofs.intervals.drop_below.Given as goal

abbrev pub invariant-loop-chains : goal.invariant-loop-chains
invariant-loop-chains g l = record {
  forgets : Forgets g.K.Ord.cmp l.epoch l.initial.kept.items l.kept.items l.initial.chains.entries l.chains.entries;
  falls : AreFalling l.chains.entries;
  capacity : deque_capacity l.kept ≡ deque_capacity l.initial.kept;
  len : deque_len l.kept ≤ deque_len l.initial.kept;
  counted : l.steps + touches l.kept.items ≡ l.initial.steps + touches l.initial.kept.items;
}

abbrev pub decreases-loop-chains : goal.decreases-loop-chains
decreases-loop-chains g l = deque_len l.kept
