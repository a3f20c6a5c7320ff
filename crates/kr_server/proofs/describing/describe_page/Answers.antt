use Rattle.std.proofs.Common.{◌∙◌, ℤ, Some, ap, subst, sym, w64}
use Rattle.std.proofs.lemmas.Int.{to_z-of_z}
use Rattle.kr_server.specs.SeatCalls.{holder}
use Rattle.kr_server.specs.inner.Paging.{IsReadyFor}
use Rattle.kr_server.proofs.HeldPlaces.{keeps_more}
use Rattle.kr_server.proofs.PageCalls.{asks_more}
use Rattle.kr_server.proofs.Pages.{no_page_behind, place_end}
use Rattle.kr_server.proofs.describing.describe_page.Goals as goal

pub returns-in-Err-clause-none : goal.returns-in-Err-clause-none
returns-in-Err-clause-none g c = rw c.refusal_end.ensures (place_end c.args.seat.now c.begin.new.seat c.in-Err.fault c.in-Err.ensures.none)

pub loop-preserved : goal.loop-preserved
loop-preserved g c =
    let next = to_z-of_z w64 c.in-Ok-Lost.next search in
    let e = c.in-Ok-Lost.ensures in
    let left = rw c.in-Ok-Lost.field-0-is at e.next in
    record {
      held = left ∙ ap (λ (i : ℤ). Some i) (sym next);
      room = e.places.room c.loop.invariant.room;
      places = keeps_more _ _ _ _ _ _ c.loop.invariant.places e.places;
      asks = asks_more _ _ _ c.loop.invariant.asks e.asks;
      ready = λ pin held.
          let old = holder c.args.seat.now pin in
          let ready = c.loop.invariant.ready pin held in
          let tried = rw c.in-Ok-Lost.field-0-is at (e.tried old ready) in
          subst (IsReadyFor c.args.describe.now.cursor old c.describe_once.new.seat) (sym next) tried;
    }

pub returns-in-Err-describe_once-clause-none : goal.returns-in-Err-describe_once-clause-none
returns-in-Err-describe_once-clause-none g c = no_page_behind c.args.seat.now c.loop.seat c.describe_once.new.seat c.in-Err-describe_once.end c.loop.invariant.asks c.in-Err-describe_once.ensures.none
