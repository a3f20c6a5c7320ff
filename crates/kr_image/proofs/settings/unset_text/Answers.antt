use Rattle.std.proofs.Common.{arith}
use Rattle.kr_defs.proofs.EntryCounts.{text_gone}
use Rattle.kr_image.proofs.settings.unset_text.Goals as goal

pub returns-clause-counted : goal.returns-clause-counted
returns-clause-counted c =
    let less = text_gone c.args.configs.now.maps.present c.args.key.now in
    rw c.in_ok-unset.ensures.present (omega (arith, less))
