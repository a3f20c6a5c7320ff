use Rattle.std.proofs.Common.{refl}
use Rattle.kr_describe.proofs.LookedUp.{offline_more}
use Rattle.kr_describe.proofs.SoFar.{begun, ended, failed, further, image_there}
use Rattle.kr_describe.proofs.lookups.offline_among.Goals as goal

pub returns-in_err-add_offline-clause-went : goal.returns-in_err-add_offline-clause-went
returns-in_err-add_offline-clause-went g c = failed c.from_residual.result c.loop-id.invariant.went c.in_err-add_offline.ensures.went c.from_residual.ensures.1

pub loop-id-init : goal.loop-id-init
loop-id-init g c = record {
  went = begun g.R.RecordReader.reading g.R.RecordReader.with_reading c.args.steady.now c.args.reader.now c.requires;
  found = rw c.new-offline.ensures refl;
}

pub loop-id-preserved : goal.loop-id-preserved
loop-id-preserved g c = record {
  went = further c.loop-id.invariant.went c.in_ok-add_offline.ensures.went;
  found = offline_more c.args.replicas.now c.loop-id.id-index _ _ c.loop-id-test.true refl _ _ (image_there c.loop-id.invariant.went) _ _ _ c.loop-id.invariant.found c.in_ok-add_offline.ensures.offline;
}

pub returns-clause-went : goal.returns-clause-went
returns-clause-went g c = ended c.loop-id.offline c.loop-id.invariant.went
