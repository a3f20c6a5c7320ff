use Rattle.std.proofs.Common.{◌≡◌, ◌≤◌, ◌+◌, length, drop, sum_by}
use Rattle.kr_defs.specs.declared.broker.Endpoint.{Endpoint}
use Rattle.kr_defs.specs.declared.limits.TheConstants.{MOST_REGISTRATION_TEXT}
use Rattle.kr_image.proofs.registrations.with_endpoints.Given as goal

abbrev pub invariant-loop-endpoint : goal.invariant-loop-endpoint
invariant-loop-endpoint l = record {
  sum : l.total + sum_by (λ (e : Endpoint). length e.name + length e.host) (drop l.endpoint-index l.endpoints) ≡ sum_by (λ (e : Endpoint). length e.name + length e.host) l.endpoints;
  little : l.total ≤ MOST_REGISTRATION_TEXT;
}
