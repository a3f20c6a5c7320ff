-- Lists of ids are equal where their elements are.
use Rattle.std.proofs.Common.{◌≡◌, ◌∙◌, sym, Bool, List, ℤ}
use Rattle.std.specs.Prelude.{IsTrue, ◌↔◌}
use Rattle.std.specs.Ordering.{int_eq}
use Rattle.std.specs.Cmp.{signed_Decides}
use Rattle.std.specs.Cmp.Lexicographic.{pointwise, pointwise_decides}
use Rattle.kr_defs.proofs.rows.Rows+i32.same.Goals as goal

tells : (r : Bool) (xs ys : List ℤ) → r ≡ pointwise int_eq xs ys → IsTrue r ↔ (xs ≡ ys)
tells r xs ys e = let d = pointwise_decides signed_Decides xs ys in (λ h. d.0 (sym e ∙ h), λ h. e ∙ d.1 h)

pub returns : goal.returns
returns c = rw (← c.self.view_is, ← c.other.view_is) (tells c.eq.result c.self.inside.list.items c.other.inside.list.items c.eq.ensures)
