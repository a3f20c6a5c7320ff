use Rattle.std.specs.Int.{w64}
use Rattle.std.proofs.lemmas.Int.{to_z-of_z}
use Rattle.kr_snapshot.proofs.Places.{shown_there}
use Rattle.kr_snapshot.proofs.writing.write.Goals as goal

pub returns-clause-ok : goal.returns-clause-ok
returns-clause-ok g c =
    let written = rw (to_z-of_z w64 c.args.offset c.ranges.offset) at c.in_ok-write_seen.ensures.ok in
    shown_there _ _ _ c.in_ok-seen.ensures written

pub returns-clause-stands : goal.returns-clause-stands
returns-clause-stands g c =
    let stands = rw (to_z-of_z w64 c.args.offset c.ranges.offset) at c.in_ok-write_seen.ensures.stands in
    shown_there _ _ _ c.in_ok-seen.ensures stands
