use Rattle.kr_fold.proofs.CallEnds.{dump_done}
use Rattle.kr_fold.proofs.calls.dump_image.Goals as goal

pub returns-clause-ends : goal.returns-clause-ends
returns-clause-ends g c =
    dump_done _ _ _ _ c.in-Ok.text c.put.result c.in-Ok.ensures.text (rw c.as_slice.ensures at c.put.ensures.ok) (rw c.as_slice.ensures at c.put.ensures.err) c.put.ensures.fault
