use Rattle.std.proofs.Common.{◌≡◌}
use Rattle.test_bench.specs.NumberedRecords.{numbered}
use Rattle.test_bench.specs.Settings.{setting_at}
use Rattle.test_bench.proofs.settings.settings.Given as goal

abbrev pub invariant-loop-index : goal.invariant-loop-index
invariant-loop-index l = l.items ≡ numbered setting_at l._index
