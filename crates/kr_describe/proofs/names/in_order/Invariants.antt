use Rattle.std.proofs.Common.{◌≡◌, [], drop, fold}
use Rattle.std.specs.Map.{keys_of}
use Rattle.kr_pages.specs.Lines.{with_name}
use Rattle.kr_describe.proofs.names.in_order.Given as goal

abbrev pub invariant-loop-name : goal.invariant-loop-name
invariant-loop-name l = fold with_name (keys_of l.sorted.entries) (drop l.name-index l.names) ≡ fold with_name [] l.names
