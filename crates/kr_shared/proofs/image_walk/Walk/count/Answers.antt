use Rattle.std.proofs.Common.{◌<◌, ◌∙◌, sym, subst, arith}
use Rattle.kr_shared.specs.ImageWrites.{IsStop}
use Rattle.kr_shared.specs.declared.image_writing.ImageWriteFault.TheVariants as faults
use Rattle.kr_shared.proofs.ImageWalks.{HasWalked, fault_is, over_there, page_last, page_within, still_there, stop_there, walk_further}
use Rattle.kr_shared.proofs.image_walk.Walk.count.Goals as goal

pub next_page-requires : goal.next_page-requires
next_page-requires c = over_there c.args.self.now c.args.seat.now c.requires.over c.loop-page.seat c.loop-page.self c.loop-page.count c.loop-page.invariant.walked

pub returns-in_err-page-clause-stop : goal.returns-in_err-page-clause-stop
returns-in_err-page-clause-stop c =
    let stop = stop_there c.args.self.now c.args.seat.now c.requires.over c.loop-page.seat c.loop-page.self c.loop-page.count c.loop-page.invariant.walked c.next_page.new.seat c.in_err-page.field-0.0 c.in_err-page.ensures.stop in
    fault_is (IsStop c.args.self.now.place c.args.seat.now.seen.list c.next_page.new.seat.seen.list) c.from_residual.result c.in_err-page.field-0.0 c.from_residual.ensures.1 stop

pub returns-in_err-count-clause-stop : goal.returns-in_err-count-clause-stop
returns-in_err-count-clause-stop c =
    let still = still_there c.args.self.now c.args.seat.now c.requires.over c.loop-page.seat c.loop-page.self c.loop-page.count c.loop-page.invariant.walked c.next_page.new.seat c.next_page.new.self c.in_ok-page.page c.in_ok-page.ensures.page in
    fault_is (IsStop c.args.self.now.place c.args.seat.now.seen.list c.next_page.new.seat.seen.list) c.from_residual-in_err-count.result faults.NoMemory c.from_residual-in_err-count.ensures.1 still

pub returns-then-len-lt-IMAGE_BATCH-clause-count :
    goal.returns-then-len-lt-IMAGE_BATCH-clause-count
returns-then-len-lt-IMAGE_BATCH-clause-count c =
    let n = c.loop-page.count in
    let last = page_last c.args.self.now c.args.seat.now c.requires.over c.loop-page.seat c.loop-page.self n c.loop-page.invariant.walked c.next_page.new.seat c.next_page.new.self c.in_ok-page.page c.in_ok-page.ensures.page in
    c.in_ok-count.ensures.sum ∙ last (let short = c.if-len-lt-IMAGE_BATCH.true in let long = c.len.ensures in subst (λ k. k < 1000) long short)

pub loop-page-smaller : goal.loop-page-smaller
loop-page-smaller c =
    let n = c.loop-page.count in
    let more = page_within c.args.self.now c.args.seat.now c.requires.over c.loop-page.seat c.loop-page.self n c.loop-page.invariant.walked c.next_page.new.seat c.next_page.new.self c.in_ok-page.page c.in_ok-page.ensures.page in
    let full = c.if-len-lt-IMAGE_BATCH.false in
    let long = c.len.ensures in
    let sum = c.in_ok-count.ensures.sum in
    omega (arith, more, full, long, sum)

pub loop-page-preserved : goal.loop-page-preserved
loop-page-preserved c =
    let n = c.loop-page.count in
    record {
      walked = subst (λ k. HasWalked c.args.self.now c.args.seat.now c.next_page.new.seat c.next_page.new.self k) (sym c.in_ok-count.ensures.sum)
          (walk_further c.args.self.now c.args.seat.now c.requires.over c.loop-page.seat c.loop-page.self n c.loop-page.invariant.walked c.next_page.new.seat c.next_page.new.self c.in_ok-page.page c.in_ok-page.ensures.page c.next_page.ensures.reads c.in_ok-page.ensures.misses);
      small = c.in_ok-count.ensures.small;
    }
