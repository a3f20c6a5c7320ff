use Rattle.std.proofs.Common.{◌≡◌, length, take}
use Rattle.std.specs.Prelude.{filter}
use Rattle.kr_drive.specs.inner.Standing.{stands}
use Rattle.kr_drive.proofs.summary.count_standing.Given as goal

abbrev pub invariant-loop-one : goal.invariant-loop-one
invariant-loop-one l = l.count ≡ length (filter stands (take l.one-index l.told))
