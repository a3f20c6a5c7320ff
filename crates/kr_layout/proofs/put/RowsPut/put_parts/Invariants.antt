use Rattle.std.proofs.Common.{◌≡◌, ◌++◌, take, length}
use Rattle.std.specs.Prelude.{All}
use Rattle.std.specs.List.{flat_map}
use Rattle.kr_wire.specs.Spelling.{count}
use Rattle.kr_wire.specs.Schema.{written, Fits}
use Rattle.kr_layout.proofs.put.RowsPut.put_parts.Given as goal

abbrev pub invariant-loop-value : goal.invariant-loop-value
invariant-loop-value g l = record {
  bytes : l.out.items ≡ (l.fn.out.items ++ count (length l.values)) ++ flat_map (written g.T.Put.schema) (take l.value-index l.values);
  fits : All (Fits g.T.Put.schema) (take l.value-index l.values);
}
