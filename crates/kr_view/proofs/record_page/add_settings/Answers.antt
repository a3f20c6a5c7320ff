use Rattle.std.proofs.Common.{sym, ◌∙◌}
use Rattle.std.specs.Option.{option_copied}
use Rattle.kr_defs.proofs.ImageParts.{config_total}
use Rattle.kr_defs.proofs.Walks.{walk_less}
use Rattle.kr_view.specs.RecordSections.{record_of_setting}
use Rattle.kr_view.proofs.Filling.{filling, one_more, no_room, none_left, entry_left, entries_over}
use Rattle.kr_view.proofs.record_page.add_settings.Goals as goal

pub loop-key-init : goal.loop-key-init
loop-key-init g c = filling _ _ _ c.requires

pub loop-key-preserved : goal.loop-key-preserved
loop-key-preserved g c =
    one_more _ _ _ _ _ c.loop-key.invariant _ _ _ (rw c.in_ok-setting_record.ensures at c.in_ok-push.ensures.ok)
    (entry_left config_total record_of_setting c.args.seen.now.configs (option_copied c.loop-key.last) (c.in-Some.key.now, c.in-Some.value.now) c.is_valid.ensures.configs.ordered c.in-Some.ensures) (sym c.is_full.ensures ∙ c.if-is_full.false)

pub loop-key-smaller : goal.loop-key-smaller
loop-key-smaller g c = walk_less config_total c.args.seen.now.configs (option_copied c.loop-key.last) (c.in-Some.key.now, c.in-Some.value.now) c.is_valid.ensures.configs.ordered c.in-Some.ensures

pub returns-then-is_full : goal.returns-then-is_full
returns-then-is_full g c = no_room _ _ _ _ _ c.loop-key.invariant (sym c.is_full.ensures ∙ c.if-is_full.true)

pub returns : goal.returns
returns g c =
    none_left _ _ _ _ _ c.loop-key.invariant (entries_over config_total record_of_setting c.args.seen.now.configs (option_copied c.loop-key.last) c.in_default.ensures)
