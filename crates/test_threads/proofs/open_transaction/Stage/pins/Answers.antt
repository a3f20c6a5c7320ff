use contract.Lifetimes.{Lfts}
use denote.Param.{param}
use denote.Param.Send.{IsSend, IsSync, sendable}
use denote.Param.SendFields.{declared_send}
use Rattle.kr_shared.proofs.Sent.{client_send}
use Rattle.test_threads.proofs.open_transaction.Stage.pins.Given.{Over}
use Rattle.test_threads.proofs.open_transaction.Stage.pins.Goals as goal
use Rattle.test_threads.proofs.open_transaction.Stage.pins.Lts as types

-- what the closure takes along, without the call's other facts, over which a search goes on too long
taken_along : (g : Over) (κs : Lfts 13) → IsSync (param 0 g.row.R) → IsSend (param 1 (types.arg-0-1 g.row.R g.R.laws g.R.Threads-dict g.R.Wait-dict κs))
taken_along g κs runtime = search (sendable, declared_send, client_send) depth 20

pub join-pinned-requires-send-F : goal.join-pinned-requires-send-F
join-pinned-requires-send-F g c κs within = taken_along g κs c.type_bounds.sync-R
