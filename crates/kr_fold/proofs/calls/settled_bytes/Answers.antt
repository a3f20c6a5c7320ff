use Rattle.std.proofs.Common.{◌∙◌, sym}
use Rattle.kr_fold.proofs.KeptEnds.{begin_written, if_ok_then, natural_begin, tip_settled}
use Rattle.kr_fold.proofs.calls.settled_bytes.Goals as goal

pub image_bytes-requires : goal.image_bytes-requires
image_bytes-requires c = natural_begin c.args.store.now c.in-Some.begin c.args.tip.now c.requires c.counts-valid.ensures.valid (sym c.open-begun.ensures ∙ c.in-Some.is)

pub returns-in-Some : goal.returns-in-Some
returns-in-Some c =
    let is = sym c.open-begun.ensures ∙ c.in-Some.is in
    if_ok_then c.image_bytes.result (λ bytes wrote. begin_written c.args.store.now c.in-Some.begin c.args.tip.now bytes.items c.requires c.counts-valid.ensures.valid is wrote) (rw c.at_epoch.ensures at c.image_bytes.ensures)

pub returns-in-None : goal.returns-in-None
returns-in-None c =
    let is = sym c.open-begun.ensures ∙ c.in-None.is in
    if_ok_then c.image_bytes-in-None.result (λ bytes wrote. wrote ∙ tip_settled c.args.store.now c.args.tip.now is) c.image_bytes-in-None.ensures
