use Rattle.std.proofs.Common.{◌∙◌, subst, sym}
use Rattle.std.specs.Io.KnownBytes.{Appends}
use Rattle.kr_base.specs.FailedPuts.{AppendsFront}
use Rattle.kr_server.specs.Served.{connection}
use Rattle.kr_server.proofs.Exchanged.{answered, answered_in_part, never_reads, no_memory_for_it, not_answered, silent, where_err, where_ok}
use Rattle.kr_server.proofs.Lists.{tells_none}
use Rattle.kr_server.proofs.serving.answer_message.Goals as goal

pub returns-in-Err-clause-answered : goal.returns-in-Err-clause-answered
returns-in-Err-clause-answered g c = λ left left' pin held.
    let written = g.K.Sink.written c.args.sink.now in
    let told = g.T.Transcript.list c.args.transcript.now in
    not_answered c.args.message.now (connection left written told c.args.seat.now) (connection left' written told c.exchange.new.seat) pin c.exchange.new.paging.held c.in-Err.end
    (silent written told told c.args.seat.now c.exchange.new.seat left left' (tells_none told)) c.in-Err.ensures.err

pub returns-in-Err-clause-unread : goal.returns-in-Err-clause-unread
returns-in-Err-clause-unread g c = never_reads c.args.message.now c.args.seat.now c.exchange.new.seat c.in-Err.end c.in-Err.ensures.err

pub returns-in-Err-sized_reply-clause-answered : goal.returns-in-Err-sized_reply-clause-answered
returns-in-Err-sized_reply-clause-answered g c = λ left left' pin held.
    let written = g.K.Sink.written c.args.sink.now in
    let told = g.T.Transcript.list c.args.transcript.now in
    no_memory_for_it c.args.message.now (connection left written told c.args.seat.now) (connection left' written told c.exchange.new.seat) pin c.exchange.new.paging.held c.in-Ok.exchange
    c.in-Ok.ensures.asked (c.in-Ok.ensures.came pin held) (silent written told told c.args.seat.now c.exchange.new.seat left left' (tells_none told))

pub returns-then-is_err-clause-answered : goal.returns-then-is_err-clause-answered
returns-then-is_err-clause-answered g c = λ left left' pin held.
    let written = g.K.Sink.written c.args.sink.now in
    let told = g.T.Transcript.list c.args.transcript.now in
    let told' = g.T.Transcript.list c.add.new.self in
    no_memory_for_it c.args.message.now (connection left written told c.args.seat.now) (connection left' written told' c.exchange.new.seat) pin c.exchange.new.paging.held c.in-Ok.exchange
    c.in-Ok.ensures.asked (c.in-Ok.ensures.came pin held)
    (silent written told told' c.args.seat.now c.exchange.new.seat left left' (where_err c.add.result c.add.ensures.err (sym c.is_err.ensures.value ∙ c.if-is_err.true)))

pub returns-in-Err-put-clause-answered : goal.returns-in-Err-put-clause-answered
returns-in-Err-put-clause-answered g c = λ left left' pin held.
    let written = g.K.Sink.written c.args.sink.now in
    let written' = g.K.Sink.written c.put.new.self in
    let told = g.T.Transcript.list c.args.transcript.now in
    let told' = g.T.Transcript.list c.add.new.self in
    answered_in_part c.args.message.now (connection left written told c.args.seat.now) (connection left' written' told' c.exchange.new.seat) pin c.exchange.new.paging.held c.in-Ok.exchange
    c.in-Ok.ensures.asked (c.in-Ok.ensures.came pin held) c.in-Ok-sized_reply.ensures.fits
    (subst (AppendsFront written written') (c.as_slice.ensures.value ∙ c.in-Ok-sized_reply.ensures.bytes) c.in-Err-put.ensures.err)
    (where_ok c.add.result c.add.ensures.ok (sym c.is_err.ensures.value ∙ c.if-is_err.false))

pub returns-clause-answered : goal.returns-clause-answered
returns-clause-answered g c = λ left left' pin held.
    let written = g.K.Sink.written c.args.sink.now in
    let written' = g.K.Sink.written c.put.new.self in
    let told = g.T.Transcript.list c.args.transcript.now in
    let told' = g.T.Transcript.list c.add.new.self in
    answered c.args.message.now (connection left written told c.args.seat.now) (connection left' written' told' c.exchange.new.seat) pin c.exchange.new.paging.held c.in-Ok.exchange
    c.in-Ok.ensures.asked (c.in-Ok.ensures.came pin held) c.in-Ok-sized_reply.ensures.fits
    (subst (Appends written written') (c.as_slice.ensures.value ∙ c.in-Ok-sized_reply.ensures.bytes) c.in-Ok-put.ensures.ok)
    (where_ok c.add.result c.add.ensures.ok (sym c.is_err.ensures.value ∙ c.if-is_err.false))
