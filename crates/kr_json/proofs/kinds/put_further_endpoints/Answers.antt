use Rattle.kr_json.proofs.Joined.{element_more}
use Rattle.std.proofs.Common.{arith}
use Rattle.kr_json.specs.JsonText.{further}
use Rattle.kr_json.specs.Lines.{endpoint_object}
use Rattle.kr_json.proofs.kinds.put_further_endpoints.Goals as goal

pub loop-endpoint-preserved : goal.loop-endpoint-preserved
loop-endpoint-preserved c = element_more (further endpoint_object) c.args.endpoints.now c.loop-endpoint.endpoint-index c.endpoint-item.result _ _ _ (omega arith) c.endpoint-item.is c.loop-endpoint.invariant c.in_ok-put_further_endpoint.ensures
