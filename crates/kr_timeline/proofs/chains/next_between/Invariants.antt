use Rattle.std.proofs.Common.{◌≡◌, slice_get}
use Rattle.std.specs.BTreeMap.Range.{entries_between}
use Rattle.std.specs.declared.ops.Bound.TheVariants.{Excluded}
use Rattle.kr_timeline.specs.Chains.{AreFalling, map_of}
use Rattle.kr_timeline.proofs.chains.next_between.Given as goal

abbrev pub invariant-loop-key : goal.invariant-loop-key
invariant-loop-key g l = record {
  first : slice_get (map_of l.number l.key-iterator) 0 ≡ slice_get (map_of l.number (entries_between g.K.Ord.cmp (Excluded l.after) (Excluded l.end) l.chains.entries)) 0;
  falls : AreFalling l.key-iterator;
}
