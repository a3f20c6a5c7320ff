use Rattle.std.proofs.Common.{◌≡◌, Err, ap, subst}
use Rattle.kr_server.specs.declared.end.ServeEnd.{ServeEnd}
use Rattle.kr_server.specs.declared.end.ServeEnd.TheVariants as ends
use Rattle.kr_server.specs.Served.{connection}
use Rattle.kr_server.specs.inner.Serving.{IsAnsweredBy, IsNotAnswered}
use Rattle.kr_server.proofs.Exchanged.{err_of}
use Rattle.kr_server.proofs.Steps.{fails, goes_on, unread}
use Rattle.kr_server.proofs.serving.serve_message.Goals as goal

pub returns-in-Err-clause-goes : goal.returns-in-Err-clause-goes
returns-in-Err-clause-goes g c = λ first going. unread first _ _ c.args.at going _ _ _ c.in-Err.end c.in-Err.ensures.unread

pub returns-in-Err-answer_message-clause-goes : goal.returns-in-Err-answer_message-clause-goes
returns-in-Err-answer_message-clause-goes g c = λ first going.
    let before = connection (g.S.Source.left c.args.source.now) (g.K.Sink.written c.args.sink.now) (g.T.Transcript.list c.args.transcript.now) c.args.seat.now in
    let after = connection (g.S.Source.left c.read_message.new.source) (g.K.Sink.written c.answer_message.new.sink) (g.T.Transcript.list c.answer_message.new.transcript) c.answer_message.new.seat in
    let end = c.in-Err-answer_message.end in
    fails first before _ c.args.at going after c.in-Ok.message.items c.in-Ok.next c.in-Ok.ensures.message end
    (subst (λ m. IsNotAnswered m before after going.pin end) c.as_slice.ensures.value (c.in-Err-answer_message.ensures.answered _ _ going.pin going.is_held))

pub returns-in-Err-answer_message-clause-read : goal.returns-in-Err-answer_message-clause-read
returns-in-Err-answer_message-clause-read g c = λ is.
    let same : c.in-Err-answer_message.end ≡ ends.ReadFault = ap (err_of c.in-Err-answer_message.end) is in
    absurd (c.in-Err-answer_message.ensures.unread (ap (λ (e : ServeEnd). Err e) same))

pub returns-clause-goes : goal.returns-clause-goes
returns-clause-goes g c = λ first going.
    let before = connection (g.S.Source.left c.args.source.now) (g.K.Sink.written c.args.sink.now) (g.T.Transcript.list c.args.transcript.now) c.args.seat.now in
    let after = connection (g.S.Source.left c.read_message.new.source) (g.K.Sink.written c.answer_message.new.sink) (g.T.Transcript.list c.answer_message.new.transcript) c.answer_message.new.seat in
    goes_on first before _ c.args.at going after c.in-Ok.message.items c.in-Ok.next c.in-Ok.ensures.message _
    (subst (λ m. IsAnsweredBy m before after going.pin c.answer_message.new.paging.held) c.as_slice.ensures.value (c.in-Ok-answer_message.ensures.answered _ _ going.pin going.is_held))
