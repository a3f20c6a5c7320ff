use Rattle.kr_json.proofs.Joined.{three}
use Rattle.kr_json.proofs.kinds.put_leadership.Goals as goal

pub returns : goal.returns
returns c = three _ _ _ _ _ _ _ c.in_ok-put_i32.ensures c.in_ok-put_unless_zero.ensures c.in_ok-put_epochs.ensures
