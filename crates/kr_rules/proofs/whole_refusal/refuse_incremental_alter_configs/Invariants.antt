use Rattle.std.proofs.Common.{◌≡◌, take}
use Rattle.std.specs.Prelude.{map}
use Rattle.kr_calls.specs.Refuse.{refused_incremental_alter_configs}
use Rattle.kr_rules.proofs.whole_refusal.refuse_incremental_alter_configs.Given as goal

abbrev pub invariant-loop-resource : goal.invariant-loop-resource
invariant-loop-resource l = l.responses ≡ map (refused_incremental_alter_configs l.error) (take l.resource-index l.resources)
