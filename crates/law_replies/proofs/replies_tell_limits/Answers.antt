use Rattle.law_replies.proofs.LimitReplies.{replies_tell_limits}
use Rattle.law_replies.proofs.replies_tell_limits.Goals as goal

pub returns : goal.returns
returns c = replies_tell_limits
