use Rattle.kr_json.proofs.Joined.{two}
use Rattle.kr_json.proofs.kinds.put_levels.Goals as goal

pub returns : goal.returns
returns c = two _ _ _ _ _ c.in_ok-put_i16.ensures c.in_ok-put_i16-2.ensures
