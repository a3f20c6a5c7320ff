use Rattle.std.proofs.Common.{sym, ◌∙◌}
use Rattle.std.specs.Option.{option_copied}
use Rattle.kr_defs.proofs.ImageParts.{text_total}
use Rattle.kr_defs.proofs.Walks.{walk_less}
use Rattle.kr_view.specs.RecordSections.{record_of_feature}
use Rattle.kr_view.proofs.Filling.{filling, one_more, no_room_behind, all_and_more, entry_left, entries_over}
use Rattle.kr_view.proofs.record_page.add_features.Goals as goal

pub loop-name-init : goal.loop-name-init
loop-name-init g c = filling _ _ _ c.requires

pub add_brokers-requires : goal.add_brokers-requires
add_brokers-requires g c = c.loop-name.invariant.few

pub loop-name-preserved : goal.loop-name-preserved
loop-name-preserved g c =
    one_more _ _ _ _ _ c.loop-name.invariant _ _ _ (rw c.in_ok-feature_record.ensures at c.in_ok-push.ensures.ok)
    (entry_left text_total record_of_feature c.args.seen.now.features (option_copied c.loop-name.last) (c.in-Some.name.now, c.in-Some.level.now) c.is_valid.ensures.features.ordered c.in-Some.ensures) (sym c.is_full.ensures ∙ c.if-is_full.false)

pub loop-name-smaller : goal.loop-name-smaller
loop-name-smaller g c = walk_less text_total c.args.seen.now.features (option_copied c.loop-name.last) (c.in-Some.name.now, c.in-Some.level.now) c.is_valid.ensures.features.ordered c.in-Some.ensures

pub returns-then-is_full : goal.returns-then-is_full
returns-then-is_full g c = no_room_behind _ _ _ _ _ c.loop-name.invariant _ (sym c.is_full.ensures ∙ c.if-is_full.true)

pub returns : goal.returns
returns g c =
    all_and_more _ _ _ _ _ c.loop-name.invariant _ _ (entries_over text_total record_of_feature c.args.seen.now.features (option_copied c.loop-name.last) c.in_default.ensures) c.in_ok-add_brokers.ensures
