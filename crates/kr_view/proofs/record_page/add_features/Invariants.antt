use Rattle.std.proofs.Common.{length, map}
use Rattle.std.specs.Option.{option_copied}
use Rattle.kr_defs.specs.Map.{above, text_order}
use Rattle.kr_view.specs.RecordSections.{record_of_feature}
use Rattle.kr_view.proofs.Filling.{IsFilling}
use Rattle.kr_view.proofs.record_page.add_features.Given as goal

abbrev pub invariant-loop-name : goal.invariant-loop-name
invariant-loop-name g l =
    let all = l.seen.features in
    IsFilling l.most l.fn.records (map record_of_feature (above text_order all (option_copied l.fn.after))) l.records (map record_of_feature (above text_order all (option_copied l.last)))

abbrev pub decreases-loop-name : goal.decreases-loop-name
decreases-loop-name g l = length (above text_order l.seen.features (option_copied l.last))
