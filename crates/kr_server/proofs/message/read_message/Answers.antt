use Rattle.std.proofs.Common.{◌+◌, sym, subst}
use Rattle.kr_intake.specs.Shortages.{FallsShort}
use Rattle.kr_server.specs.inner.Reading.{IsUnread}
use Rattle.kr_server.proofs.Readings.{in_the_body, message_took, no_room}
use Rattle.kr_server.proofs.message.read_message.Goals as goal

pub returns-in-Err-body_room-clause-unread : goal.returns-in-Err-body_room-clause-unread
returns-in-Err-body_room-clause-unread g c =
    no_room _ _ (g.S.Source.left c.read_size.new.source) _ c.in-Ok.size c.in-Ok.ensures.size c.in-Ok.ensures.short _ _

pub returns-in-Err-read_body-clause-unread : goal.returns-in-Err-read_body-clause-unread
returns-in-Err-read_body-clause-unread g c =
    let short = subst (λ n. FallsShort (c.args.at + 4) n (g.S.Source.left c.read_size.new.source) (g.S.Source.left c.read_body.new.source) (g.S.Source.faults c.read_size.new.source) (g.S.Source.faults c.read_body.new.source) c.in-Err-read_body.shortage) c.in-Ok-body_room.ensures c.in-Err-read_body.ensures.short in
    subst (IsUnread c.args.at (g.S.Source.left c.args.source.now) (g.S.Source.left c.read_body.new.source) (g.S.Source.faults c.args.source.now) (g.S.Source.faults c.read_body.new.source)) (sym c.shortage_end.ensures)
    (in_the_body _ _ _ _ c.in-Ok.size c.in-Ok.ensures.size c.in-Ok.ensures.short _ _ _ c.in-Err-read_body.shortage c.read_size.ensures.later short)

pub returns-in-Ok-read_body-clause-message : goal.returns-in-Ok-read_body-clause-message
returns-in-Ok-read_body-clause-message g c =
    let took = message_took _ _ _ _ c.in-Ok.size c.in-Ok.ensures.size c.in-Ok.ensures.short _ c.in-Ok-read_body.body.items c.in-Ok-read_body.ensures.body c.in-Ok-body_room.ensures c.in-Ok-read_body.ensures.len in
    rw c.from.ensures took
