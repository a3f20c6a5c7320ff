use Rattle.std.proofs.Common.{subst, sym}
use Rattle.kr_shared.specs.Desks.{DeskStands}
use Rattle.kr_shared.proofs.Turning.{either_way}
use Rattle.kr_shared.proofs.desk.Desk.do_job.Goals as goal

pub returns-clause-stands : goal.returns-clause-stands
returns-clause-stands g c =
    either_way c.do_with_room.result c.do_with_room.ensures.stands c.do_with_room.ensures.err
    (λ job back. subst DeskStands (sym back.1) c.make_room.ensures.stands)
