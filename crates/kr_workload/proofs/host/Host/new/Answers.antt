use Rattle.std.proofs.Common.{◌∙◌, refl}
use Rattle.kr_workload.proofs.Playing.{new_stands}
use Rattle.kr_workload.proofs.host.Host.new.Goals as goal

pub returns-clause-stands : goal.returns-clause-stands
returns-clause-stands c =
    let e = c.in_ok-engine.ensures in
    new_stands c.args.seed _ (e.options ∙ c.in_ok-options.ensures.options) e.stands e.drained refl refl c.from.ensures c.no_tally.ensures
