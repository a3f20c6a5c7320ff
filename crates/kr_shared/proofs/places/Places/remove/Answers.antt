use Rattle.std.proofs.Common.{List, ℤ, filter, not, rules, ap, ◌∙◌}
use Rattle.std.proofs.lemmas.Fn.{filter_same}
use Rattle.std.specs.Ordering.{int_eq}
use Rattle.kr_shared.proofs.places.Places.remove.Goals as goal

pub returns : goal.returns
returns c =
    let others = λ (p : ℤ). not (int_eq p c.args.place.now) in
    filter_same _ others _ (λ x b f' k. search rules) _ _ c.retain.ensures.filtered ∙ ap (λ (l : List ℤ). filter others l) c.self.view_is
