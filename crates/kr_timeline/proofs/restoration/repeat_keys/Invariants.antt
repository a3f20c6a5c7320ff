use Rattle.std.proofs.Common.{◌≡◌, nat_le, take}
use Rattle.kr_timeline.specs.Chains.{AreFalling, Versions, all_trimmed, repeated}
use Rattle.kr_timeline.proofs.restoration.repeat_keys.Given as goal

abbrev pub invariant-loop-key : goal.invariant-loop-key
invariant-loop-key g l = record {
  is : l.chains.entries ≡ all_trimmed g.K.Ord.cmp (repeated l.from l.above) (take l.key-index l.keys.items) l.initial.chains.entries;
  falls : AreFalling l.chains.entries;
  up_to : Versions (λ _ n. nat_le n l.above) l.chains.entries;
}
