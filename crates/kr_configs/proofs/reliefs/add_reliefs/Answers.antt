use Rattle.kr_defs.specs.Walk.{walk}
use Rattle.kr_configs.proofs.RelievedPartitions.{none_added}
use Rattle.kr_configs.proofs.reliefs.add_reliefs.Goals as goal

pub returns-then-branch : goal.returns-then-branch
returns-then-branch g c =
    let image = c.args.seen.now in
    none_added image c.args.entry.now c.args.values.now c.is_valid.ensures.configs.ordered c.are_once.ensures c.in_ok-keeps_minimum.field-0 c.in_ok-keeps_minimum.ensures c.if-branch.true c.args.options.now (walk image) c.args.records.now
