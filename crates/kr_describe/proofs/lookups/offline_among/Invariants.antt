use Rattle.std.proofs.Common.{◌≡◌, ◌++◌, drop, filter}
use Rattle.kr_calls.specs.Metadata.{is_offline}
use Rattle.kr_describe.specs.SteadyReads.{steady_image}
use Rattle.kr_describe.proofs.SoFar.{SoFar}
use Rattle.kr_describe.proofs.lookups.offline_among.Given as goal

abbrev pub invariant-loop-id : goal.invariant-loop-id
invariant-loop-id g l = record {
  went : SoFar g.R.RecordReader.reading g.R.RecordReader.with_reading l.steady l.fn.reader l.reader;
  found : l.offline ++ filter (is_offline (steady_image l.steady (g.R.RecordReader.reading l.fn.reader))) (drop l.id-index l.replicas) ≡ filter (is_offline (steady_image l.steady (g.R.RecordReader.reading l.fn.reader))) l.replicas;
}
