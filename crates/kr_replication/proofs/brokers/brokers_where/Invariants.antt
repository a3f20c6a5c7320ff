use Rattle.std.proofs.Common.{◌≡◌, ◌++◌, length}
use Rattle.std.specs.Option.{option_copied}
use Rattle.std.specs.Ordering.{int_cmp}
use Rattle.kr_defs.specs.Map.{above}
use Rattle.kr_replication.specs.BrokerIds.{ids_where}
use Rattle.kr_replication.proofs.brokers.brokers_where.Given as goal

abbrev pub invariant-loop-id : goal.invariant-loop-id
invariant-loop-id g l =
    let brokers = l.seen.brokers in
    let test = g.T.BrokerTest.accepts l.test in
    l.ids ++ ids_where test (above int_cmp brokers (option_copied l.after)) ≡ ids_where test brokers

abbrev pub decreases-loop-id : goal.decreases-loop-id
decreases-loop-id g l = length (above int_cmp l.seen.brokers (option_copied l.after))
