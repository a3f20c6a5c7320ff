use Rattle.std.proofs.Common.{◌∙◌, refl}
use Rattle.std.specs.Option.{option_copied}
use Rattle.std.proofs.lemmas.Cmp.{int_cmp_total}
use Rattle.kr_defs.proofs.Walks.{walk_more, walk_less, walk_over}
use Rattle.kr_replication.specs.BrokerIds.{ids_where}
use Rattle.kr_replication.proofs.BrokerIds.{ids_in_parts}
use Rattle.kr_replication.proofs.brokers.brokers_where.Goals as goal

pub loop-id-preserved : goal.loop-id-preserved
loop-id-preserved g c =
    let image = c.args.seen.now in
    let test = g.T.BrokerTest.accepts c.args.test.now in
    rw c.in_ok-add_if.ensures (walk_more int_cmp_total (ids_where test) (ids_in_parts test) image.brokers (option_copied c.loop-id.after) (c.in-Some.id.now, c.in-Some.state.now) c.is_valid.ensures.brokers.ordered c.in-Some.ensures c.loop-id.ids ∙ c.loop-id.invariant)

pub loop-id-smaller : goal.loop-id-smaller
loop-id-smaller g c =
    walk_less int_cmp_total c.args.seen.now.brokers (option_copied c.loop-id.after) (c.in-Some.id.now, c.in-Some.state.now) c.is_valid.ensures.brokers.ordered c.in-Some.ensures

pub returns : goal.returns
returns g c =
    let test = g.T.BrokerTest.accepts c.args.test.now in
    walk_over int_cmp_total (ids_where test) refl c.args.seen.now.brokers (option_copied c.loop-id.after) c.in_default.ensures c.loop-id.ids _ c.loop-id.invariant
