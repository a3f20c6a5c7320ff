use Rattle.std.proofs.Common.{◌≡◌, ◌++◌}
use Rattle.std.specs.Prelude.{filter_map}
use Rattle.kr_calls.specs.IncrementalAlterConfigs.{config_record}
use Rattle.kr_configs.proofs.OperationKeys.{seen}
use Rattle.kr_configs.proofs.records.config_records.Given as goal

abbrev pub invariant-loop-key : goal.invariant-loop-key
invariant-loop-key g l =
    let image = l.seen in
    l.records ++ filter_map (config_record image l.entry) (seen l.key-iterator) ≡ filter_map (config_record image l.entry) l.values
