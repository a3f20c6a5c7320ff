use Rattle.kr_defs.proofs.HeartbeatLists.{leaves, beats}
use Rattle.kr_defs.proofs.heartbeat_laws.others_stay.Goals as goal

pub returns-clause-leave : goal.returns-clause-leave
returns-clause-leave c = leaves

pub returns-clause-beat : goal.returns-clause-beat
returns-clause-beat c = beats
