use Rattle.std.proofs.Common.{◌≡◌, ◌++◌, map, take}
use Rattle.kr_replication.specs.AgreeingNames.{as_dot}
use Rattle.kr_replication.proofs.collision.add_lowest.Given as goal

abbrev pub invariant-loop-byte : goal.invariant-loop-byte
invariant-loop-byte l = l.out.items ≡ l.initial.out.items ++ map as_dot (take l.byte-index l.name)
