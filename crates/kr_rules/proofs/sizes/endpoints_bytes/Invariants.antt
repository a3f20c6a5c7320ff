use Rattle.std.proofs.Common.{◌≡◌, ◌≤◌, ◌+◌, drop, sum_by}
use Rattle.kr_defs.specs.declared.broker.Endpoint.{Endpoint}
use Rattle.kr_defs.specs.declared.limits.TheConstants.{MOST_REQUEST_BYTES as most}
use Rattle.kr_defs.specs.Sizes.{text_bytes, no_tags_bytes}
use Rattle.kr_rules.proofs.sizes.endpoints_bytes.Given as goal

abbrev pub invariant-loop-endpoint : goal.invariant-loop-endpoint
invariant-loop-endpoint l =
    let bytes = (λ (e : Endpoint). text_bytes e.name + text_bytes e.host + 2 + 2 + no_tags_bytes) in
    record {
      sum : l.total + sum_by bytes (drop l.endpoint-index l.endpoints) ≡ sum_by bytes l.endpoints;
      little : l.total ≤ most;
    }
