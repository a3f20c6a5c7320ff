use Rattle.kr_calls.proofs.OtherRequests.{others_leave}
use Rattle.kr_calls.proofs.laws.other_requests_leave_brokers.Goals as goal

pub returns : goal.returns
returns c = others_leave
