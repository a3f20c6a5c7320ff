use Rattle.std.proofs.Common.{◌≡◌, ◌++◌, drop}
use Rattle.std.specs.List.{flat_map}
use Rattle.kr_json.specs.JsonText.{further}
use Rattle.kr_json.specs.Lines.{endpoint_object}
use Rattle.kr_json.proofs.kinds.put_further_endpoints.Given as goal

abbrev pub invariant-loop-endpoint : goal.invariant-loop-endpoint
invariant-loop-endpoint l = l.out.items ++ flat_map (further endpoint_object) (drop l.endpoint-index l.endpoints) ≡ l.fn.out.items ++ flat_map (further endpoint_object) l.endpoints
