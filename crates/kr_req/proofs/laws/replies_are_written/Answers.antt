use Rattle.kr_req.proofs.Replies.{replies_written}
use Rattle.kr_req.proofs.laws.replies_are_written.Goals as goal

pub returns : goal.returns
returns c = replies_written
