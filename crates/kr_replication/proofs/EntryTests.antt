-- Whether one of a map's entries passes a test, as far as a walk has come.
use Rattle.std.proofs.Common.{◌≡◌, ◌∙◌, Bool, true, false, List, refl, sym, ap}
use Rattle.std.specs.Prelude.{Option, Some, None}
use Rattle.std.specs.declared.cmp.Ordering.{Ordering}
use Rattle.std.specs.Cmp.{IsTotalOrder}
use Rattle.std.specs.List.{list_any}
use Rattle.kr_defs.specs.Map.{IsMap, above, next}
use Rattle.kr_defs.proofs.Walks.{walk_next, walk_end}

module _ {K V : Type 0} {R : K → K → Ordering} (o : IsTotalOrder R) (p : K × V → Bool) (es : List (K × V)) (after : Option K) where
  module _ (e : K × V) (ordered : IsMap R es) (found : Some e ≡ next R es after) where
    pub any_here : p e ≡ true → list_any p (above R es after) ≡ true
    any_here is = ap (list_any p) (walk_next o es after e ordered (sym found)) ∙ rw is refl

    pub any_later : p e ≡ false → list_any p (above R es after) ≡ list_any p (above R es (Some e.0))
    any_later is = ap (list_any p) (walk_next o es after e ordered (sym found)) ∙ rw is refl

  pub any_none : None ≡ next R es after → list_any p (above R es after) ≡ false
  any_none none = ap (list_any p) (walk_end (above R es after) (sym none))
