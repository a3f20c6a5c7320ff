use Rattle.std.specs.Option.{option_copied}
use Rattle.std.proofs.lemmas.Cmp.{int_cmp_total}
use Rattle.kr_listing.proofs.WalkGathering.{entry_more, entry_over, entry_less}
use Rattle.kr_listing.proofs.gathering.add_brokers.Goals as goal

pub loop-id-preserved : goal.loop-id-preserved
loop-id-preserved g c =
    let brokers = c.args.seen.now.brokers in
    entry_more int_cmp_total (g.P.BrokerPart.part c.args.part.now) brokers (option_copied c.loop-id.after) (c.in-Some.id.now, c.in-Some.state.now) c.is_valid.ensures.brokers.ordered c.in-Some.ensures c.loop-id.rows _ _ c.in_ok-add.ensures c.loop-id.invariant

pub loop-id-smaller : goal.loop-id-smaller
loop-id-smaller g c =
    let brokers = c.args.seen.now.brokers in
    entry_less int_cmp_total brokers (option_copied c.loop-id.after) (c.in-Some.id.now, c.in-Some.state.now) c.is_valid.ensures.brokers.ordered c.in-Some.ensures

pub returns : goal.returns
returns g c =
    let brokers = c.args.seen.now.brokers in
    entry_over int_cmp_total (g.P.BrokerPart.part c.args.part.now) brokers (option_copied c.loop-id.after) c.in_default.ensures c.loop-id.rows _ c.loop-id.invariant
