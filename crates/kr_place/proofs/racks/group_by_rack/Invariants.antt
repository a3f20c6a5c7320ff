use Rattle.std.proofs.Common.{◌≡◌, [], fold}
use Rattle.kr_defs.specs.Placed.{into_rack}
use Rattle.kr_place.proofs.racks.group_by_rack.Given as goal

abbrev pub invariant-loop-id : goal.invariant-loop-id
invariant-loop-id l = fold into_rack l.racks.entries l.id-iterator ≡ fold into_rack [] l.sorted.entries
