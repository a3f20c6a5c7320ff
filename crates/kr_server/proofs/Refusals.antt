-- How a write without an answer ends a connection.
use Rattle.std.proofs.Common.{ℕ, List, Err, inl}
use Rattle.kr_calls.specs.declared.calls.Ask.TheVariants as asks
use Rattle.kr_calls.specs.declared.calls.Call.{Call}
use Rattle.kr_req.specs.Messages.{IsAsk}
use Rattle.kr_shared.specs.declared.clients.SubmitFault.{SubmitFault}
use Rattle.kr_shared.specs.declared.clients.SubmitFault.TheVariants as submits
use Rattle.kr_shared.specs.Clients.{Client}
use Rattle.kr_server.specs.SeatCalls.{for_write, Submits}
use Rattle.kr_server.specs.inner.Serving.{IsNotExchanged, refusal_end}

pub refused_write : (old new : Client) (call : Call) (fault : SubmitFault) (message : List ℕ) → Submits old new call (Err fault) → IsAsk (asks.Call call) message → IsNotExchanged message old new (refusal_end fault)
refused_write old new call (submits.Ended number) message told asked = inl (record { call = call; asked = asked; told = told })
refused_write old new call (submits.Ahead floor tip) message told asked = inl (record { call = call; asked = asked; told = told })
refused_write old new call (submits.Exhausted tip) message told asked = record { call = call; asked = asked; told = told }
refused_write old new call submits.NoMemory message told asked = λ pin. for_write (record { call = call; asked = asked; told = told })
