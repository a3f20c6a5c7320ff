use Rattle.std.proofs.Common.{◌≡◌, ◌++◌, length}
use Rattle.std.specs.List.{flat_map}
use Rattle.std.specs.Option.{option_copied}
use Rattle.std.specs.Ordering.{int_cmp}
use Rattle.kr_defs.specs.Map.{above}
use Rattle.kr_listing.proofs.gathering.add_brokers.Given as goal

abbrev pub invariant-loop-id : goal.invariant-loop-id
invariant-loop-id g l =
    let brokers = l.seen.brokers in
    let part = g.P.BrokerPart.part l.part in
    l.rows ++ flat_map part (above int_cmp brokers (option_copied l.after)) ≡ l.fn.rows ++ flat_map part brokers

abbrev pub decreases-loop-id : goal.decreases-loop-id
decreases-loop-id g l = length (above int_cmp l.seen.brokers (option_copied l.after))
