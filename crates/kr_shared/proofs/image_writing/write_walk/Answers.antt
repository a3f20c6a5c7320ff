use Rattle.std.proofs.Common.{◌≡◌, ◌∙◌, ℤ, None, ap, subst}
use Rattle.kr_shared.specs.ImageWrites.{StillKept, WritesText, text_at}
use Rattle.kr_shared.specs.declared.image_walk.Walk.{Walk}
use Rattle.kr_shared.proofs.ImageWritten.{never_put, no_front, over_later, writes_earlier, writes_front}
use Rattle.kr_shared.proofs.image_writing.write_walk.Goals as goal

pub returns-in_err-count-clause-writes : goal.returns-in_err-count-clause-writes
returns-in_err-count-clause-writes g c =
    let place = c.args.walk.now.place in
    let first = c.args.seat.now.seen.list in
    let written = g.K.Sink.written c.args.sink.now in
    writes_front place first c.count.new.seat.seen.list written written c.from_residual.result c.in_err-count.field-0.0 c.from_residual.ensures c.in_err-count.ensures.stop (no_front written (text_at place first))

pub returns-in_err-count-clause-rose : goal.returns-in_err-count-clause-rose
returns-in_err-count-clause-rose g c is = absurd (never_put c.from_residual.result c.in_err-count.field-0.0 c.from_residual.ensures.1 c.in_err-count.ensures.fault is)

pub write_counted-requires-clause-over : goal.write_counted-requires-clause-over
write_counted-requires-clause-over g c =
    let same = c.restart.ensures ∙ ap (λ (w : Walk). record w { after = None }) c.in_ok-count.ensures.walk in
    over_later c.args.walk.now c.restart.new.self c.args.seat.now.seen.list c.count.new.seat.seen.list c.requires.over c.in_ok-count.ensures.kept (ap (λ (w : Walk). w.place) same) (ap (λ (w : Walk). w.loads) same)

pub returns-clause-writes : goal.returns-clause-writes
returns-clause-writes g c =
    let same = c.restart.ensures ∙ ap (λ (w : Walk). record w { after = None }) c.in_ok-count.ensures.walk in
    let place = c.args.walk.now.place in
    let old = g.K.Sink.written c.args.sink.now in
    let new = g.K.Sink.written c.write_counted.new.sink in
    let mid = c.count.new.seat.seen.list in
    let last = c.write_counted.new.seat.seen.list in
    let writes = subst (λ (p : ℤ). WritesText p mid last old new c.write_counted.result) (ap (λ (w : Walk). w.place) same) c.write_counted.ensures.writes in
    writes_earlier place c.args.seat.now.seen.list mid last old new c.write_counted.result c.in_ok-count.ensures.kept writes
