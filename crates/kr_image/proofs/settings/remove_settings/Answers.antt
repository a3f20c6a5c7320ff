use Rattle.std.proofs.Common.{◌∙◌, arith}
use Rattle.kr_defs.specs.declared.record.ConfigKey.{ConfigKey}
use Rattle.kr_defs.specs.Apply.{is_setting_of}
use Rattle.kr_defs.specs.Map.{config_order}
use Rattle.kr_defs.proofs.EntryCounts.{text_gone}
use Rattle.kr_defs.proofs.ImageParts.{config_total}
use Rattle.kr_defs.proofs.Maps.{IsMap-remove}
use Rattle.kr_image.specs.Timelines.{lowest}
use Rattle.kr_image.proofs.Owners.{setting_same, setting_self}
use Rattle.kr_image.proofs.Removal.{gone_for_good, others-gone, others-without}
use Rattle.kr_image.proofs.settings.remove_settings.Goals as goal

pub remove_above_lowest-requires-clause-ordered : goal.remove_above_lowest-requires-clause-ordered
remove_above_lowest-requires-clause-ordered c =
    rw c.in_ok-unset_standing.ensures.present (IsMap-remove config_total c.args.configs.now.maps.present c.in_ok-lowest.lowest c.requires.ordered)

pub remove_above_lowest-requires-clause-little : goal.remove_above_lowest-requires-clause-little
remove_above_lowest-requires-clause-little c =
    let text = text_gone c.args.configs.now.maps.present c.in_ok-lowest.lowest in
    let little = c.requires.little in
    rw c.in_ok-unset_standing.ensures.present (omega (arith, text, little))

pub remove_above_lowest-requires-clause-apart : goal.remove_above_lowest-requires-clause-apart
remove_above_lowest-requires-clause-apart c =
    rw (c.in_ok-unset_standing.ensures.present, c.in_ok-lowest.ensures) (gone_for_good config_total c.args.configs.now.maps.present (lowest c.args.name.now) c.requires.ordered)

pub returns-clause-present : goal.returns-clause-present
returns-clause-present c =
    let own = is_setting_of c.args.name.now in
    let same = λ (x : ConfigKey). setting_same c.args.name.now (lowest c.args.name.now) x (setting_self c.args.name.now) in
    let first = rw c.in_ok-lowest.ensures at c.in_ok-unset_standing.ensures.present in
    c.in_ok-remove_above_lowest.ensures.present ∙ (rw first (others-gone config_order own (lowest c.args.name.now) same c.args.configs.now.maps.present))

pub returns-clause-made : goal.returns-clause-made
returns-clause-made c =
    let own = is_setting_of c.args.name.now in
    let same = λ (x : ConfigKey). setting_same c.args.name.now (lowest c.args.name.now) x (setting_self c.args.name.now) in
    let first = rw c.in_ok-lowest.ensures at c.in_ok-unset_standing.ensures.present in
    let one = rw c.in_ok-lowest.ensures at c.in_ok-unset_standing.ensures.made in
    let more = rw first at c.in_ok-remove_above_lowest.ensures.made in
    let count = others-without config_order own c.args.configs.now.maps.present (lowest c.args.name.now) same in
    omega (arith, one, more, count)
