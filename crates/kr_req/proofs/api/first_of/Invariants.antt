use Rattle.std.proofs.Common.{◌≡◌, drop, find}
use Rattle.kr_req.specs.Reading.{is_api}
use Rattle.kr_req.proofs.api.first_of.Given as goal

abbrev pub invariant-loop-api : goal.invariant-loop-api
invariant-loop-api l = find (is_api l.number l.version) (drop l.api-index l.apis) ≡ find (is_api l.number l.version) l.apis
