use Rattle.kr_request_json.proofs.Lists.{PutSome}
use Rattle.kr_request_json.proofs.list.put_items.Given as goal

abbrev pub invariant-loop-item : goal.invariant-loop-item
invariant-loop-item g l = PutSome g.T.Part.input l.items l.item-index l.fn.out.items l.out.items
