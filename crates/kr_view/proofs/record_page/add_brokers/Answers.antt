use Rattle.std.proofs.Common.{sym, ◌∙◌}
use Rattle.std.specs.Option.{option_copied}
use Rattle.std.proofs.lemmas.Cmp.{int_cmp_total}
use Rattle.kr_defs.proofs.Walks.{walk_less}
use Rattle.kr_view.specs.RecordSections.{record_of_broker}
use Rattle.kr_view.proofs.Filling.{filling, one_more, no_room_behind, all_and_more, entry_left, entries_over}
use Rattle.kr_view.proofs.record_page.add_brokers.Goals as goal

pub loop-id-init : goal.loop-id-init
loop-id-init g c = filling _ _ _ c.requires

pub add_topics-requires : goal.add_topics-requires
add_topics-requires g c = c.loop-id.invariant.few

pub loop-id-preserved : goal.loop-id-preserved
loop-id-preserved g c =
    one_more _ _ _ _ _ c.loop-id.invariant _ _ _ (rw c.in_ok-broker_record.ensures at c.in_ok-push.ensures.ok)
    (entry_left int_cmp_total record_of_broker c.args.seen.now.brokers (option_copied c.loop-id.last) (c.in-Some.id.now, c.in-Some.state.now) c.is_valid.ensures.brokers.ordered c.in-Some.ensures) (sym c.is_full.ensures ∙ c.if-is_full.false)

pub loop-id-smaller : goal.loop-id-smaller
loop-id-smaller g c = walk_less int_cmp_total c.args.seen.now.brokers (option_copied c.loop-id.last) (c.in-Some.id.now, c.in-Some.state.now) c.is_valid.ensures.brokers.ordered c.in-Some.ensures

pub returns-then-is_full : goal.returns-then-is_full
returns-then-is_full g c = no_room_behind _ _ _ _ _ c.loop-id.invariant _ (sym c.is_full.ensures ∙ c.if-is_full.true)

pub returns : goal.returns
returns g c =
    all_and_more _ _ _ _ _ c.loop-id.invariant _ _ (entries_over int_cmp_total record_of_broker c.args.seen.now.brokers (option_copied c.loop-id.last) c.in_default.ensures) c.in_ok-add_topics.ensures
