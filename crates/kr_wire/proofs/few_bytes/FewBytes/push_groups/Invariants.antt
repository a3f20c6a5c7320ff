use Rattle.std.proofs.Common.{◌≡◌, ◌+◌, ◌^◌, ◌<◌, ◌≤◌, ◌++◌, length}
use Rattle.kr_wire.specs.Spelling.{groups}
use Rattle.kr_wire.proofs.few_bytes.FewBytes.push_groups.Given as goal

abbrev pub invariant-loop-left : goal.invariant-loop-left
invariant-loop-left l = record {
  fits : l.rest < 128 ^ (l.left + 1);
  space : length l.self + l.left ≤ length l.fn.self + l.fn.room;
  so_far : l.self ++ groups l.left l.rest ≡ l.fn.self ++ groups l.fn.room l.fn.value;
}

abbrev pub decreases-loop-left : goal.decreases-loop-left
decreases-loop-left l = l.left
