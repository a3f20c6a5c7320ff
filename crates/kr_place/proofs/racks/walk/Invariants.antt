use Rattle.std.proofs.Common.{◌≡◌, ◌≤◌, length}
use Rattle.kr_defs.specs.Placed.{visited}
use Rattle.kr_place.proofs.racks.walk.Given as goal

abbrev pub invariant-loop-k : goal.invariant-loop-k
invariant-loop-k l = record {
  chosen : l.chosen ≡ visited l.racks l.start l.k;
  short : length l.chosen ≤ l.factor;
}
