use Rattle.std.proofs.Common.{w32, w64}
use Rattle.std.proofs.lemmas.Int.{to_z-of_z}
use Rattle.kr_defs.proofs.HeartbeatLists.{beaten}
use Rattle.kr_sessions.proofs.sessions.Sessions.beat.Goals as goal

pub invariant_of-self : goal.invariant_of-self
invariant_of-self c =
    let time = rw (← c.self.view_is) at c.requires.time in
    rw (c.beat.ensures.contacts, to_z-of_z w32 c.args.broker c.ranges.broker, to_z-of_z w64 c.args.now c.ranges.now, to_z-of_z w64 c.args.offset c.ranges.offset)
    (beaten (record { contacts = c.self.inside.contacts.contacts; stopping = c.self.inside.stopping.items }) c.args.broker c.args.now c.args.offset c.self.invariant time)
