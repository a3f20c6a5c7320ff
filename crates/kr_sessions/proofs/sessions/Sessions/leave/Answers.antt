use Rattle.std.proofs.Common.{w32}
use Rattle.std.proofs.lemmas.Int.{to_z-of_z}
use Rattle.kr_defs.proofs.HeartbeatLists.{left}
use Rattle.kr_sessions.proofs.sessions.Sessions.leave.Goals as goal

pub invariant_of-self : goal.invariant_of-self
invariant_of-self c =
    rw (c.remove.ensures.contacts, c.drop_stopping.ensures.items, to_z-of_z w32 c.args.broker c.ranges.broker)
    (left (record { contacts = c.self.inside.contacts.contacts; stopping = c.self.inside.stopping.items }) c.args.broker c.self.invariant)
