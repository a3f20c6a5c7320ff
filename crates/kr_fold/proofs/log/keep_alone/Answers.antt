use Rattle.std.proofs.Common.{◌≡◌, ℤ, of_z, rules, subst, sym, to_z, w64}
use Rattle.std.specs.Prelude.{FitsSigned}
use Rattle.std.proofs.lemmas.Int.{to_z-of_z}
use Rattle.kr_store.specs.Images.{AreBegunFrom, Images, marked}
use Rattle.kr_fold.proofs.KeptEnds.{may_forget_all}
use Rattle.kr_fold.proofs.log.keep_alone.Goals as goal

pub forget_below-requires : goal.forget_below-requires
forget_below-requires g c =
    let fits : FitsSigned w64 c.args.tip.now = search rules in
    let there : to_z w64 (of_z w64 c.args.tip.now) ≡ c.args.tip.now = to_z-of_z w64 c.args.tip.now fits in
    subst (λ (i : Images). AreBegunFrom i (to_z w64 (of_z w64 c.args.tip.now))) (sym c.in_ok-mark.ensures.ok)
    (subst (λ (z : ℤ). AreBegunFrom (marked c.args.store.now z) z) (sym there) (may_forget_all c.args.store.now c.args.tip.now c.requires.beyond c.requires.none))
