use Rattle.std.proofs.Common.{◌≡◌, slice_get}
use Rattle.kr_timeline.specs.Chains.{AreFalling, map_of}
use Rattle.kr_timeline.proofs.chains.first_of.Given as goal

abbrev pub invariant-loop-key : goal.invariant-loop-key
invariant-loop-key g l = record {
  first : slice_get (map_of l.number l.key-iterator) 0 ≡ slice_get (map_of l.number l.chains.entries) 0;
  falls : AreFalling l.key-iterator;
}
