use Rattle.kr_rules.specs.Progress.{base_of}
use Rattle.kr_rules.proofs.RecordLists.{frugal}
use Rattle.kr_rules.proofs.taking.take.Goals as goal

pub returns-in_ok-add-in-All-clause-made : goal.returns-in_ok-add-in-All-clause-made
returns-in_ok-add-in-All-clause-made g c so_far before =
    let less = rw c.as_slice-3.ensures at c.in_ok-apply_each.ensures.made in
    rw (c.in_ok-apply_each.ensures.kept) (frugal (base_of (g.S.Store.images c.args.store.now)) (g.S.Store.images c.args.store.now).tip c.args.work.now c.add.new.self c.args.records _ _ so_far c.requires.leads less c.in_ok-add-in-All.ensures before)
