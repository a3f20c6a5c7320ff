use Rattle.std.proofs.Common.{w64}
use Rattle.std.proofs.lemmas.Int.{to_z-of_z}
use Rattle.kr_defs.proofs.HeartbeatLists.{begun}
use Rattle.kr_sessions.proofs.sessions.Sessions.begin.Goals as goal

pub invariant_of-self : goal.invariant_of-self
invariant_of-self c =
    rw (c.in_ok-contacts.ensures, c.in_ok-stopping.ensures, c.as_slice.ensures, c.as_slice-2.ensures, to_z-of_z w64 c.args.now c.ranges.now, to_z-of_z w64 c.args.led c.ranges.led)
    (begun c.args.unfenced.now c.args.stopping.now c.args.now c.args.led c.requires.unfenced c.requires.stopping c.requires.among)
