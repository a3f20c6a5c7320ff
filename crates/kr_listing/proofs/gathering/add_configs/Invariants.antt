use Rattle.std.proofs.Common.{◌≡◌, ◌++◌, length}
use Rattle.std.specs.List.{flat_map}
use Rattle.std.specs.Option.{option_copied}
use Rattle.kr_defs.specs.Map.{above, config_order}
use Rattle.kr_listing.proofs.gathering.add_configs.Given as goal

abbrev pub invariant-loop-key : goal.invariant-loop-key
invariant-loop-key g l =
    let configs = l.seen.configs in
    let part = g.P.ConfigPart.part l.part in
    l.rows ++ flat_map part (above config_order configs (option_copied l.after)) ≡ l.fn.rows ++ flat_map part configs

abbrev pub decreases-loop-key : goal.decreases-loop-key
decreases-loop-key g l = length (above config_order l.seen.configs (option_copied l.after))
