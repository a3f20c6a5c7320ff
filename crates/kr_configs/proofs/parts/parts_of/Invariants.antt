use Rattle.std.proofs.Common.{◌≡◌, ◌++◌, drop}
use Rattle.kr_configs.proofs.parts.parts_of.Given as goal

abbrev pub invariant-loop-part : goal.invariant-loop-part
invariant-loop-part l = l.all ++ drop l.part-index l.texts ≡ l.texts
