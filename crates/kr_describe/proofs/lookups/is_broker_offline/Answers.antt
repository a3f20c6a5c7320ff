use Rattle.std.proofs.Common.{◌∙◌, w32}
use Rattle.std.proofs.lemmas.Int.{to_z-of_z}
use Rattle.kr_describe.specs.SteadyReads.{steady_image}
use Rattle.kr_describe.proofs.LookedUp.{broker_found}
use Rattle.kr_describe.proofs.lookups.is_broker_offline.Goals as goal

pub returns-clause-offline : goal.returns-clause-offline
returns-clause-offline g c =
    let own = to_z-of_z w32 c.args.id c.ranges.id in
    c.is_offline_in.ensures ∙ broker_found (steady_image c.args.steady.now (g.R.RecordReader.reading c.args.reader.now)) c.args.id _ (rw own at c.in_ok-found.ensures.one)
