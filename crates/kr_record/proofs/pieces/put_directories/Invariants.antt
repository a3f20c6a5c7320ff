use Rattle.std.proofs.Common.{◌≡◌, ◌++◌, take, length}
use Rattle.std.specs.List.{flat_map}
use Rattle.kr_wire.specs.Spelling.{count, id}
use Rattle.kr_record.specs.Spelling.{no_directories}
use Rattle.kr_record.proofs.pieces.put_directories.Given as goal

abbrev pub invariant-loop-replica : goal.invariant-loop-replica
invariant-loop-replica l = l.out.items ≡ (l.fn.out.items ++ count (length l.replicas)) ++ flat_map id (no_directories (take l._replica-index l.replicas))
