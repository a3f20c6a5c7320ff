use Rattle.std.proofs.Common.{◌≡◌, ◌++◌, take}
use Rattle.std.specs.List.{flat_map}
use Rattle.kr_dump.specs.DumpText.{further_id}
use Rattle.kr_dump.proofs.texts.put_further.Given as goal

abbrev pub invariant-loop-id : goal.invariant-loop-id
invariant-loop-id l = l.out ≡ l.initial.out ++ flat_map further_id (take l.id-index l.ids)
