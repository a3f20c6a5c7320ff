use Rattle.std.proofs.Common.{ℤ, rules, subst, w64}
use Rattle.std.specs.Prelude.{FitsSigned}
use Rattle.std.proofs.lemmas.Int.{to_z-of_z}
use Rattle.kr_leaders.specs.inner.Engines.{LeadsOn}
use Rattle.kr_leaders.proofs.Rounds.{if_ok_weaker}
use Rattle.kr_leaders.proofs.controller.balanced_text.Goals as goal

pub rebalance-requires : goal.rebalance-requires
rebalance-requires g c =
    let fits : FitsSigned w64 c.args.image.offset = search rules in
    record {
      offset = c.args.image.offset;
      image = c.args.image.store.tip;
      leads = subst (λ (z : ℤ). LeadsOn c.in_ok-engine.engine z c.args.image.store.tip) (to_z-of_z w64 c.args.image.offset fits) c.in_ok-engine.ensures;
    }

pub returns : goal.returns
returns g c =
    let fits : FitsSigned w64 c.args.image.offset = search rules in
    let leads = subst (λ (z : ℤ). LeadsOn c.in_ok-engine.engine z c.args.image.store.tip) (to_z-of_z w64 c.args.image.offset fits) c.in_ok-engine.ensures in
    if_ok_weaker c.committed_text.result (λ text told. told _ _ (c.in_ok-rebalance.ensures.commits c.args.image.offset c.args.image.store.tip leads)) c.committed_text.ensures
