use Rattle.std.proofs.Common.{◌≡◌, true, false, rules}
use Rattle.std.specs.Prelude.{pos, negsuc, not}
use Rattle.std.specs.Ordering.{int_eq}
use Rattle.kr_messages.proofs.Showing.{null_marked, structure_marked}
use Rattle.kr_messages.proofs.object.NullableShape.show.Goals as goal

pub returns-then-mark : goal.returns-then-mark
returns-then-mark g c =
    let null : int_eq c.in_ok-mark.mark (negsuc 0) ≡ true = search rules in
    null_marked g.T.Shape.form c.in_ok-mark.mark _ _ null _ _ c.in_ok-mark.ensures c.in_ok-put_str.ensures

pub returns : goal.returns
returns g c =
    let some : int_eq c.in_ok-mark.mark (negsuc 0) ≡ false = search rules in
    let there : not (int_eq c.in_ok-mark.mark (pos 1)) ≡ false = search rules in
    structure_marked g.T.Shape.form c.in_ok-mark.mark _ _ some there _ _ _ _ c.in_ok-mark.ensures c.show.ensures
