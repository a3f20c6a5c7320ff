use Rattle.kr_defs.proofs.HeartbeatLists.{begun, ended, beaten, left, stopped}
use Rattle.kr_defs.proofs.heartbeat_laws.heartbeats_stand.Goals as goal

pub returns-clause-begin : goal.returns-clause-begin
returns-clause-begin c = begun

pub returns-clause-end : goal.returns-clause-end
returns-clause-end c = ended

pub returns-clause-beat : goal.returns-clause-beat
returns-clause-beat c = beaten

pub returns-clause-leave : goal.returns-clause-leave
returns-clause-leave c = left

pub returns-clause-stop : goal.returns-clause-stop
returns-clause-stop c = stopped
