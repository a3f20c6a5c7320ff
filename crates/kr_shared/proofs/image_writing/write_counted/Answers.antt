use Rattle.std.proofs.Common.{ℕ, ◌+◌, ◌<◌, ap, subst, sym, arith}
use Rattle.kr_shared.proofs.ImageWalks.{over_there, page_some}
use Rattle.kr_shared.proofs.ImageWritten.{HasWritten, all_written, batch_written, head_written, may_put, never_put, stops_at_batch, stops_at_head, stops_at_page}
use Rattle.kr_shared.proofs.image_writing.write_counted.Goals as goal

pub returns-in_err-writer-clause-writes : goal.returns-in_err-writer-clause-writes
returns-in_err-writer-clause-writes g c =
    stops_at_head c.args.walk.now c.args.seat.now c.requires.over c.requires.few c.args.count c.requires.count (g.K.Sink.written c.args.sink.now) (g.K.Sink.written c.put_head.new.sink)
    c.from_residual.result c.in_err-writer.field-0.0 c.from_residual.ensures c.in_err-writer.ensures.fault c.in_err-writer.ensures.err

pub loop-done-init : goal.loop-done-init
loop-done-init g c = record {
  so_far = head_written c.args.walk.now c.args.seat.now c.requires.over c.requires.few c.args.count c.requires.count (g.K.Sink.written c.args.sink.now)
      c.in_ok-writer.writer (g.K.Sink.written c.put_head.new.sink) c.requires.start c.in_ok-writer.ensures.writer c.in_ok-writer.ensures.ok;
  faults = c.put_head.ensures.later;
}

pub next_page-requires : goal.next_page-requires
next_page-requires g c = over_there c.args.walk.now c.args.seat.now c.requires.over c.loop-done.seat c.loop-done.walk c.loop-done.done c.loop-done.invariant.so_far.walked

pub returns-in_err-page-clause-writes : goal.returns-in_err-page-clause-writes
returns-in_err-page-clause-writes g c =
    stops_at_page c.args.walk.now c.args.seat.now c.requires.over c.requires.few c.args.count c.requires.count (g.K.Sink.written c.args.sink.now)
    c.loop-done.seat c.loop-done.walk c.loop-done.done c.loop-done.writer (g.K.Sink.written c.loop-done.sink) c.loop-done.invariant.so_far c.loop-done-test.true
    c.next_page.new.seat c.from_residual-in_err-page.result c.in_err-page.field-0.0 c.from_residual-in_err-page.ensures c.in_err-page.ensures.stop

pub returns-in_err-page-clause-rose : goal.returns-in_err-page-clause-rose
returns-in_err-page-clause-rose g c is = absurd (never_put c.from_residual-in_err-page.result c.in_err-page.field-0.0 c.from_residual-in_err-page.ensures.1 c.in_err-page.ensures.fault is)

pub put_batch-requires : goal.put_batch-requires
put_batch-requires g c =
    may_put c.args.walk.now c.args.seat.now c.requires.over c.requires.few c.args.count c.requires.count (g.K.Sink.written c.args.sink.now)
    c.loop-done.seat c.loop-done.walk c.loop-done.done c.loop-done.writer (g.K.Sink.written c.loop-done.sink) c.loop-done.invariant.so_far c.loop-done-test.true
    c.next_page.new.seat c.next_page.new.self c.in_ok-page.page c.in_ok-page.ensures.page

pub returns-in_err-put_batch-clause-writes : goal.returns-in_err-put_batch-clause-writes
returns-in_err-put_batch-clause-writes g c =
    stops_at_batch c.args.walk.now c.args.seat.now c.requires.over c.requires.few c.args.count c.requires.count (g.K.Sink.written c.args.sink.now)
    c.loop-done.seat c.loop-done.walk c.loop-done.done c.loop-done.writer (g.K.Sink.written c.loop-done.sink) c.loop-done.invariant.so_far c.loop-done-test.true
    c.next_page.new.seat c.next_page.new.self c.in_ok-page.page c.in_ok-page.ensures.page
    (g.K.Sink.written c.put_batch.new.sink) c.from_residual-in_err-put_batch.result c.in_err-put_batch.field-0.0 c.from_residual-in_err-put_batch.ensures c.in_err-put_batch.ensures.fault c.put_batch.ensures.text c.in_err-put_batch.ensures.err

pub loop-done-smaller : goal.loop-done-smaller
loop-done-smaller g c =
    let n = c.loop-done.done in
    let all = c.requires.count in
    let test = c.loop-done-test.true in
    let some = page_some c.args.walk.now c.args.seat.now c.requires.over c.loop-done.seat c.loop-done.walk n c.loop-done.invariant.so_far.walked c.next_page.new.seat c.next_page.new.self c.in_ok-page.page c.in_ok-page.ensures.page (omega (arith, test, all)) in
    let long = c.len.ensures in
    omega (arith, some, long, test)

pub loop-done-preserved : goal.loop-done-preserved
loop-done-preserved g c =
    let walk = c.args.walk.now in
    let start = c.args.seat.now in
    let n = c.loop-done.done in
    let old = g.K.Sink.written c.args.sink.now in
    let new = g.K.Sink.written c.put_batch.new.sink in
    let before = c.loop-done.invariant.faults in
    let then = c.put_batch.ensures.later in
    record {
      so_far = subst (λ (k : ℕ). HasWritten walk start c.args.count c.next_page.new.seat c.next_page.new.self k c.put_batch.new.writer old new) (ap (λ (k : ℕ). n + k) (sym c.len.ensures))
          (batch_written walk start c.requires.over c.requires.few c.args.count c.requires.count old
          c.loop-done.seat c.loop-done.walk n c.loop-done.writer (g.K.Sink.written c.loop-done.sink) c.loop-done.invariant.so_far c.loop-done-test.true
          c.next_page.new.seat c.next_page.new.self c.in_ok-page.page c.in_ok-page.ensures.page
          c.put_batch.new.writer new c.next_page.ensures.reads c.in_ok-page.ensures.misses c.in_ok-put_batch.ensures.writer c.put_batch.ensures.text c.in_ok-put_batch.ensures.ok);
      faults = omega (arith, before, then);
    }

pub returns-clause-writes : goal.returns-clause-writes
returns-clause-writes g c =
    all_written c.args.walk.now c.args.seat.now c.requires.over c.requires.few c.args.count c.requires.count (g.K.Sink.written c.args.sink.now)
    c.loop-done.seat c.loop-done.walk c.loop-done.done c.loop-done.writer (g.K.Sink.written c.loop-done.sink) c.loop-done.invariant.so_far c.loop-done-test.false
