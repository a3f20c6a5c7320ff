use Rattle.std.proofs.Common.{arith}
use Rattle.kr_defs.proofs.EntryCounts.{text_within}
use Rattle.kr_image.proofs.settings.text_at.Goals as goal

pub overflow_add-result : goal.overflow_add-result
overflow_add-result c =
    let within = text_within c.args.configs.now.maps.present c.args.key.now c.in-Some.value.now c.in-Some.ensures in
    omega (arith, within)
