use Rattle.std.proofs.Common.{◌≡◌, drop}
use Rattle.std.specs.Prelude.{fold}
use Rattle.kr_calls.specs.IncrementalAlterConfigs.{with_part}
use Rattle.kr_configs.proofs.parts.with_all_new.Given as goal

abbrev pub invariant-loop-part : goal.invariant-loop-part
invariant-loop-part l = fold with_part l.all (drop l.part-index l.more) ≡ fold with_part l.fn.parts l.more
