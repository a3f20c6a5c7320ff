use Rattle.std.proofs.Common.{◌≡◌, drop}
use Rattle.kr_defs.specs.Ids as ids
use Rattle.kr_defs.proofs.id_lists.is_distinct.Given as goal

abbrev pub invariant-loop-at : goal.invariant-loop-at
invariant-loop-at l = ids.is_distinct (drop l.at l.list) ≡ ids.is_distinct l.list
