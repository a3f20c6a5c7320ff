use contract.Lifetimes.{Lfts}
use denote.Param.{param}
use denote.Param.Send.{IsSend, IsSync, sendable}
use denote.Param.SendFields.{declared_send}
use Rattle.std.proofs.Crossing as heap
use Rattle.std.specs.contracts.alloc.Global as Heap
use Rattle.std.specs.contracts.impls.GlobalAllocator.TheImpl.{ghosts}
use Rattle.std.specs.contracts.vec.Vec as Vec
use Rattle.kr_shared.proofs.Sent.{client_send}
use Rattle.kr_shared.proofs.links.LinkSeat.TheSendSync as link
use Rattle.kr_shared.specs.contracts.clients.ClientSeat.{the_row as client_row}
use Rattle.test_threads.proofs.threads.Signs.TheSendSync as signs
use Rattle.test_threads.proofs.threads.turn_beside.Given.{Over}
use Rattle.test_threads.proofs.threads.turn_beside.Goals as goal
use Rattle.test_threads.proofs.threads.turn_beside.Lts as types

clients_send : IsSend (Vec.the_row client_row Heap.the_row ghosts)
clients_send = heap.Vec-send client_row client_send

-- what the closure takes along: the link, the seats, and references to what threads may share; without the call's other facts, over which a search goes on too long
taken_along : (g : Over) (κs : Lfts 17) → IsSync (param 0 g.row.R) → IsSync (param 2 g.row.P)
    → IsSend (param 1 (types.arg-0-1 g.row.R g.row.G g.row.P g.R.laws g.G.laws g.P.laws g.R.Threads-dict g.R.Wait-dict g.G.Gate-dict g.P.Part-dict κs))
taken_along g κs runtime part = search (sendable, declared_send, clients_send, link.the_send, signs.the_sync) depth 20

pub join-played-requires-send-F : goal.join-played-requires-send-F
join-played-requires-send-F g c κs within = taken_along g κs c.type_bounds.sync-R c.type_bounds.sync-P
