use Rattle.std.proofs.Common.{◌∙◌, sym}
use Rattle.kr_brokers.proofs.FencingMeanings.{have_meanings}
use Rattle.kr_brokers.proofs.expiry.fence.Goals as goal

pub apply_all-requires-clause-meanings : goal.apply_all-requires-clause-meanings
apply_all-requires-clause-meanings g c =
    let stands = c.taking_out_is_never_refused.ensures.fencing c.args.context.now.options.now.minimum c.tip-seen.result c.args.broker.now c.in-Some.state.now c.is_valid.ensures (sym c.in-Some.ensures) in
    have_meanings _ _ _ _ _ c.tip-seen.ensures (c.as_slice.ensures ∙ c.in_ok-records.ensures) stands.1
