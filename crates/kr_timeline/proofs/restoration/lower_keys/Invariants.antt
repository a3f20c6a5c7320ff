use Rattle.std.proofs.Common.{◌≡◌, take}
use Rattle.kr_timeline.specs.Chains.{all_trimmed, lowered}
use Rattle.kr_timeline.proofs.restoration.lower_keys.Given as goal

abbrev pub invariant-loop-key : goal.invariant-loop-key
invariant-loop-key g l = l.chains.entries ≡ all_trimmed g.K.Ord.cmp (lowered l.above l.number) (take l.key-index l.keys.items) l.initial.chains.entries
