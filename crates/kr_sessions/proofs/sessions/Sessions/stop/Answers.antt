use Rattle.std.proofs.Common.{w32, w64}
use Rattle.std.proofs.lemmas.Int.{to_z-of_z}
use Rattle.kr_defs.proofs.HeartbeatLists.{stopped}
use Rattle.kr_sessions.proofs.sessions.Sessions.stop.Goals as goal

pub invariant_of-self : goal.invariant_of-self
invariant_of-self c =
    let contact = rw (← c.self.view_is) at c.requires.contact in
    let fresh = rw (← c.self.view_is) at c.requires.fresh in
    rw (c.push_reserved.ensures.items, to_z-of_z w32 c.args.broker c.ranges.broker, to_z-of_z w64 c.args.tip c.ranges.tip)
    (stopped (record { contacts = c.self.inside.contacts.contacts; stopping = c.self.inside.stopping.items }) c.args.broker c.args.tip c.self.invariant contact fresh)
