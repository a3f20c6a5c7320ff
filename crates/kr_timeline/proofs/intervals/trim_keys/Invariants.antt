use Rattle.std.proofs.Common.{◌≡◌, ◌+◌, drop}
use Rattle.kr_timeline.specs.Chains.{AreFalling, all_trimmed, left_of}
use Rattle.kr_timeline.proofs.intervals.trim_keys.Given as goal

abbrev pub invariant-loop-key : goal.invariant-loop-key
invariant-loop-key g l = record {
  left : all_trimmed g.K.Ord.cmp (left_of l.part l.number) (drop l.key-index l.keys.items) l.chains.entries ≡ all_trimmed g.K.Ord.cmp (left_of l.part l.number) l.keys.items l.initial.chains.entries;
  falls : AreFalling l.chains.entries;
  counted : l.steps ≡ l.initial.steps + l.key-index;
}
