use Rattle.std.proofs.Common.{◌≡◌, slice_get, Some}
use Rattle.kr_defs.specs.Map as entries
use Rattle.kr_timeline.specs.Chains.{AreFalling, map_of}
use Rattle.kr_timeline.proofs.chains.first_above.Given as goal

abbrev pub invariant-loop-key : goal.invariant-loop-key
invariant-loop-key g l = record {
  first : slice_get (map_of l.number l.key-iterator) 0 ≡ slice_get (map_of l.number (entries.above g.K.Ord.cmp l.chains.entries (Some l.after))) 0;
  falls : AreFalling l.key-iterator;
}
