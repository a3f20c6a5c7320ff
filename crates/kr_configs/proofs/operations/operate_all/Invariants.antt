use Rattle.std.proofs.Common.{◌≡◌, [], drop}
use Rattle.kr_calls.specs.IncrementalAlterConfigs.{after_operations}
use Rattle.kr_configs.proofs.operations.operate_all.Given as goal

abbrev pub invariant-loop-operation : goal.invariant-loop-operation
invariant-loop-operation g l =
    let image = l.seen in
    after_operations image l.entry l.values (drop l.operation-index l.entry.configs) ≡ after_operations image l.entry [] l.entry.configs
