use Rattle.std.proofs.Common.{◌∙◌, sym}
use Rattle.kr_defs.specs.Map.{config_order}
use Rattle.kr_image.proofs.Removal.{without_absent}
use Rattle.kr_image.proofs.settings.unset_standing.Goals as goal

pub returns-else-contains-clause-present : goal.returns-else-contains-clause-present
returns-else-contains-clause-present c =
    sym (without_absent config_order c.args.configs.now.maps.present c.args.key.now (sym c.contains.ensures ∙ c.if-contains.false))
