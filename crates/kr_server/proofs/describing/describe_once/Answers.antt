use Rattle.std.proofs.Common.{ℤ, Err, Ok, refl, subst, sym, w64}
use Rattle.std.proofs.lemmas.Int.{to_z-of_z}
use Rattle.kr_server.specs.inner.Paging.{IsReadyFor, PageRead}
use Rattle.kr_server.proofs.PageCalls.{asks_more, asks_records}
use Rattle.kr_server.proofs.Pages.{asks_finished, asks_renewed, lost_place, made, no_page_behind, not_read, place_end, unfinished}
use Rattle.kr_server.proofs.describing.describe_once.Goals as goal

pub returns-in-Ok-finish-clause-tried : goal.returns-in-Ok-finish-clause-tried
returns-in-Ok-finish-clause-tried g c = λ old ready.
    let same = to_z-of_z w64 c.args.place c.ranges.place in
    let read = subst (λ (i : ℤ). PageRead c.args.seat.now c.page_at.new.seat i c.args.describe.now (Ok c.in-Ok.described)) same c.in-Ok.ensures in
    made c.args.describe.now.cursor old c.args.seat.now c.page_at.new.seat c.args.place ready read.reads c.args.describe.now c.in-Ok.described c.finish.new.seat c.finish.new.paging.held
    read.shows read.kept refl (rw (c.is_some.ensures, c.requires.held) at c.in-Ok-finish.ensures.finished)

pub returns-in-Ok-finish-clause-asks : goal.returns-in-Ok-finish-clause-asks
returns-in-Ok-finish-clause-asks g c =
    asks_more c.args.seat.now c.page_at.new.seat c.finish.new.seat (asks_records c.args.seat.now c.page_at.new.seat c.in-Ok.ensures.reads)
    (asks_finished c.is_some.result c.args.paging.now.held c.page_at.new.seat c.finish.new.seat c.finish.new.paging.held c.in-Ok-finish.ensures.finished)

pub returns-in-Err-finish-clause-none : goal.returns-in-Err-finish-clause-none
returns-in-Err-finish-clause-none g c =
    rw c.refusal_end.ensures (unfinished c.args.seat.now c.page_at.new.seat c.finish.new.seat c.is_some.result c.args.paging.now.held c.finish.new.paging.held c.in-Err-finish.fault c.in-Ok.ensures.reads c.in-Err-finish.ensures.finished)

pub returns-in-Some-clause-none : goal.returns-in-Some-clause-none
returns-in-Some-clause-none g c =
    not_read c.args.seat.now c.page_at.new.seat c.in-Err.fault c.in-Some.end c.in-Some.ensures c.in-Err.ensures.reads c.in-Err.ensures.cause

pub returns-in-Ok-renew-clause-tried : goal.returns-in-Ok-renew-clause-tried
returns-in-Ok-renew-clause-tried g c = λ old ready.
    let same = to_z-of_z w64 c.args.place c.ranges.place in
    let read = subst (λ (i : ℤ). PageRead c.args.seat.now c.page_at.new.seat i c.args.describe.now (Err c.in-Err.fault)) same c.in-Err.ensures in
    let next = lost_place c.args.describe.now.cursor old c.args.seat.now c.page_at.new.seat c.args.place ready read.reads c.renew.new.seat c.renew.new.self.held c.in-Ok-renew.place c.in-Err.fault
    (sym c.in-None.ensures) read.stop (rw c.requires.held at c.in-Ok-renew.ensures.renewed) in
    subst (IsReadyFor c.args.describe.now.cursor old c.renew.new.seat) (sym (to_z-of_z w64 c.in-Ok-renew.place (record { sfits = (rw c.in-Ok-renew.is at c.renew.type_inv).1.1.1.1.0.1 }))) next

pub returns-in-Ok-renew-clause-asks : goal.returns-in-Ok-renew-clause-asks
returns-in-Ok-renew-clause-asks g c =
    asks_more c.args.seat.now c.page_at.new.seat c.renew.new.seat (asks_records c.args.seat.now c.page_at.new.seat c.in-Err.ensures.reads)
    (asks_renewed c.args.paging.now.held c.page_at.new.seat c.renew.new.seat c.renew.new.self.held c.in-Ok-renew.place c.in-Ok-renew.ensures.renewed)

pub returns-in-Err-renew-clause-none : goal.returns-in-Err-renew-clause-none
returns-in-Err-renew-clause-none g c =
    rw c.refusal_end-in-Err-renew.ensures (no_page_behind c.args.seat.now c.page_at.new.seat c.renew.new.seat _ (asks_records c.args.seat.now c.page_at.new.seat c.in-Err.ensures.reads)
    (place_end c.page_at.new.seat c.renew.new.seat c.in-Err-renew.fault c.in-Err-renew.ensures.renewed))
