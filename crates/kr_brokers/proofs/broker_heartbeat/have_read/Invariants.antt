use Rattle.std.proofs.Common.{◌≡◌, length}
use Rattle.std.specs.List.{list_any}
use Rattle.std.specs.Option.{option_copied}
use Rattle.std.specs.Ordering.{int_cmp}
use Rattle.kr_defs.specs.Map.{above}
use Rattle.kr_brokers.specs.Stopping.{lags}
use Rattle.kr_brokers.proofs.broker_heartbeat.have_read.Given as goal

abbrev pub invariant-loop-id : goal.invariant-loop-id
invariant-loop-id g l =
    let late = lags l.sessions.heartbeats l.since in
    list_any late l.seen.brokers ≡ list_any late (above int_cmp l.seen.brokers (option_copied l.after))

abbrev pub decreases-loop-id : goal.decreases-loop-id
decreases-loop-id g l = length (above int_cmp l.seen.brokers (option_copied l.after))
