use Rattle.kr_json.proofs.Joined.{two}
use Rattle.kr_json.proofs.kinds.put_epochs.Goals as goal

pub returns : goal.returns
returns c = two _ _ _ _ _ c.in_ok-put_i32.ensures c.in_ok-put_i32-2.ensures
