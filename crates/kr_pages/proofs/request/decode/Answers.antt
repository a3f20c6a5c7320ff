use Rattle.kr_pages.proofs.Asks.{says_ask, says_none, says_only}
use Rattle.kr_pages.proofs.request.decode.Goals as goal

pub returns-clause-none : goal.returns-clause-none
returns-clause-none c = says_none _ c.type_inv.message _ c.read_ask.ensures

pub returns-clause-ask : goal.returns-clause-ask
returns-clause-ask c = says_ask _ c.type_inv.message _ c.read_ask.ensures

pub returns-clause-only : goal.returns-clause-only
returns-clause-only c = says_only _ c.type_inv.message _ c.read_ask.ensures
