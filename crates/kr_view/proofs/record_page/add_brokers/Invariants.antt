use Rattle.std.proofs.Common.{length, map}
use Rattle.std.specs.Option.{option_copied}
use Rattle.std.specs.Ordering.{int_cmp}
use Rattle.kr_defs.specs.Map.{above}
use Rattle.kr_view.specs.RecordSections.{record_of_broker}
use Rattle.kr_view.proofs.Filling.{IsFilling}
use Rattle.kr_view.proofs.record_page.add_brokers.Given as goal

abbrev pub invariant-loop-id : goal.invariant-loop-id
invariant-loop-id g l =
    let all = l.seen.brokers in
    IsFilling l.most l.fn.records (map record_of_broker (above int_cmp all (option_copied l.fn.after))) l.records (map record_of_broker (above int_cmp all (option_copied l.last)))

abbrev pub decreases-loop-id : goal.decreases-loop-id
decreases-loop-id g l = length (above int_cmp l.seen.brokers (option_copied l.last))
