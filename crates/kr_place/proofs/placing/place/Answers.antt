use Rattle.std.proofs.Common.{rules, ◌≡◌, ◌+◌, unsigned_abs}
use Rattle.kr_defs.specs.Placed.{placed}
use Rattle.kr_place.proofs.Spread.{spread_of}
use Rattle.kr_place.proofs.placing.place.Goals as goal

pub returns-clause-spread : goal.returns-clause-spread
returns-clause-spread c =
    let e : c.in_ok-choose.field-0 ≡ placed c.args.brokers.now (unsigned_abs c.args.start + unsigned_abs c.args.index) (unsigned_abs c.args.factor) = search rules in
    spread_of c.args.brokers.now (unsigned_abs c.args.start + unsigned_abs c.args.index) (unsigned_abs c.args.factor) c.in_ok-choose.field-0 e c.as_slice.ensures.distinct
