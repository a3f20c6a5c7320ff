use Rattle.kr_messages.proofs.Showing.{null_taken}
use Rattle.kr_messages.proofs.list.NullableArrayShape.show.Goals as goal

pub returns-in_default : goal.returns-in_default
returns-in_default g c = null_taken g.T.Shape.form _ _ _ _ (rw c.in_default.is at c.in_ok-count.ensures) c.in_ok-put_str.ensures
