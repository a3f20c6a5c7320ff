use Rattle.std.proofs.Common.{◌≡◌, ◌≤◌, ◌++◌, ◌-◌, length, take, drop}
use Rattle.std.specs.VecDeque.{deque_len}
use Rattle.kr_timeline.specs.Intervals.{keys_in}
use Rattle.kr_timeline.proofs.restoration.list_after.Given as goal

abbrev pub invariant-loop-place : goal.invariant-loop-place
invariant-loop-place g l = record {
  listed : l.keys.items ++ keys_in (drop l.place l.kept.items) ≡ l.initial.keys.items ++ keys_in (drop l.count l.kept.items);
  front : take (length l.initial.keys.items) l.keys.items ≡ l.initial.keys.items;
  within : l.place ≤ deque_len l.kept;
}

abbrev pub decreases-loop-place : goal.decreases-loop-place
decreases-loop-place g l = deque_len l.kept - l.place
