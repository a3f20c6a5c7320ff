use Rattle.std.proofs.Common.{◌≡◌, drop}
use Rattle.kr_defs.specs.Texts.{names_agree}
use Rattle.kr_defs.proofs.texts.names_agree.Given as goal

-- the names agree where what is left of them does
abbrev pub invariant-loop-at : goal.invariant-loop-at
invariant-loop-at l = names_agree (drop l.at l.name) (drop l.at l.others) ≡ names_agree l.name l.others
