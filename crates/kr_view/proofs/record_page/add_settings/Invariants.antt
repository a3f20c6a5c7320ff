use Rattle.std.proofs.Common.{length, map}
use Rattle.std.specs.Option.{option_copied}
use Rattle.kr_defs.specs.Map.{above, config_order}
use Rattle.kr_view.specs.RecordSections.{record_of_setting}
use Rattle.kr_view.proofs.Filling.{IsFilling}
use Rattle.kr_view.proofs.record_page.add_settings.Given as goal

abbrev pub invariant-loop-key : goal.invariant-loop-key
invariant-loop-key g l =
    let all = l.seen.configs in
    IsFilling l.most l.fn.records (map record_of_setting (above config_order all (option_copied l.fn.after))) l.records (map record_of_setting (above config_order all (option_copied l.last)))

abbrev pub decreases-loop-key : goal.decreases-loop-key
decreases-loop-key g l = length (above config_order l.seen.configs (option_copied l.last))
