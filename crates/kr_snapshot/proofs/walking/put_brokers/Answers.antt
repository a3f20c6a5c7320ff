use Rattle.std.proofs.Common.{[], ◌∷◌}
use Rattle.std.specs.Option.{option_copied}
use Rattle.std.proofs.lemmas.Cmp.{int_cmp_total}
use Rattle.kr_defs.proofs.Walks.{walk_less}
use Rattle.kr_snapshot.specs.inner.EntryRecords.{broker_record}
use Rattle.kr_snapshot.proofs.WriterRecords.{amid_may, amid_more, amid_end, walk_left, walk_done}
use Rattle.kr_snapshot.proofs.walking.put_brokers.Goals as goal

pub push-requires-clause-may : goal.push-requires-clause-may
push-requires-clause-may g c =
    let all = c.args.seen.now.brokers in
    rw c.in_ok-record.ensures.of
    (amid_may _ _ _ _ c.loop-id.invariant (broker_record (c.in-Some.id.now, c.in-Some.state.now) ∷ []) _ (walk_left int_cmp_total broker_record all (option_copied c.loop-id.after) (c.in-Some.id.now, c.in-Some.state.now) c.is_valid.ensures.brokers.ordered c.in-Some.ensures) c.requires)

pub loop-id-preserved : goal.loop-id-preserved
loop-id-preserved g c =
    let all = c.args.seen.now.brokers in
    amid_more _ _ _ _ c.loop-id.invariant _ (broker_record (c.in-Some.id.now, c.in-Some.state.now) ∷ []) _ (walk_left int_cmp_total broker_record all (option_copied c.loop-id.after) (c.in-Some.id.now, c.in-Some.state.now) c.is_valid.ensures.brokers.ordered c.in-Some.ensures) (rw c.in_ok-record.ensures.of at c.in_ok-push.ensures)

pub loop-id-smaller : goal.loop-id-smaller
loop-id-smaller g c =
    walk_less int_cmp_total c.args.seen.now.brokers (option_copied c.loop-id.after) (c.in-Some.id.now, c.in-Some.state.now) c.is_valid.ensures.brokers.ordered c.in-Some.ensures

pub returns : goal.returns
returns g c =
    amid_end _ _ _ _ c.loop-id.invariant (walk_done int_cmp_total broker_record c.args.seen.now.brokers (option_copied c.loop-id.after) c.in_default.ensures)
