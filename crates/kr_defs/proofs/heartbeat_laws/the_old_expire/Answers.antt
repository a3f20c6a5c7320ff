use Rattle.kr_defs.proofs.HeartbeatLists.{old_expire}
use Rattle.kr_defs.proofs.heartbeat_laws.the_old_expire.Goals as goal

pub returns : goal.returns
returns c = old_expire
