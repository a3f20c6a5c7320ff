use Rattle.kr_req.proofs.Asks.{found, only}
use Rattle.kr_req.proofs.message.decode.Goals as goal

pub returns-clause-found : goal.returns-clause-found
returns-clause-found c = found _ _ c.type_inv.message c.read_ask.ensures

pub returns-clause-only : goal.returns-clause-only
returns-clause-only c = only _ _ c.type_inv.message c.read_ask.ensures
