use Rattle.std.proofs.Common.{◌≡◌, take}
use Rattle.kr_timeline.specs.Chains.{AreFalling, all_trimmed, cut}
use Rattle.kr_timeline.proofs.restoration.cut_keys.Given as goal

abbrev pub invariant-loop-key : goal.invariant-loop-key
invariant-loop-key g l = record {
  is : l.chains.entries ≡ all_trimmed g.K.Ord.cmp (cut l.number) (take l.key-index l.keys.items) l.initial.chains.entries;
  falls : AreFalling l.chains.entries;
}
