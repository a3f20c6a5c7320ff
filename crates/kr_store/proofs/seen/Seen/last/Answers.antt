use Rattle.std.proofs.Common.{◌∙◌, sym, ap, Some}
use Rattle.kr_store.proofs.LastKept.{last_seen}
use Rattle.kr_store.proofs.seen.Seen.last.Goals as goal

pub unreachable-requires : goal.unreachable-requires
unreachable-requires g c =
    let there = last_seen (g.S.Store.images c.args.store.now) c.args.epoch.now c.counts-valid.ensures.valid c.requires in
    absurd (rw (c.at_epoch.ensures, there.found) at c.in-Err.ensures)

pub returns : goal.returns
returns g c =
    let there = last_seen (g.S.Store.images c.args.store.now) c.args.epoch.now c.counts-valid.ensures.valid c.requires in
    there.last ∙ ap (λ image. Some image) (sym (rw (c.at_epoch.ensures, there.found) at c.in-Ok.ensures))
