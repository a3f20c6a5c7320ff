use Rattle.std.proofs.Common.{Err, sym, subst}
use Rattle.kr_server.specs.SeatCalls.{Submits}
use Rattle.kr_server.specs.inner.Serving.{IsNotExchanged}
use Rattle.kr_server.proofs.Refusals.{refused_write}
use Rattle.kr_server.proofs.calls.submit.Goals as goal

pub returns-in-Err-clause-err : goal.returns-in-Err-clause-err
returns-in-Err-clause-err g c = λ message asked.
    let e = c.in-Err.ensures in
    let told : Submits c.args.seat.now c.submit.new.self c.args.call (Err c.in-Err.fault) =
    record { write = c.requires; onward = e.onward; answer = e.cause; pushed = e.pushed; number = e.number; ticket = e.ticket; misses = e.misses; held = e.held } in
    subst (IsNotExchanged message c.args.seat.now c.submit.new.self) (sym c.refusal_end.ensures) (refused_write _ _ c.args.call c.in-Err.fault message told asked)
