use Rattle.std.proofs.Common.{ap}
use Rattle.std.specs.Map.{keys_of}
use Rattle.kr_view.proofs.Filling.{filling}
use Rattle.kr_describe.proofs.NamedLines.{name_added}
use Rattle.kr_describe.proofs.SoFar.{begun, failed, further, image_there}
use Rattle.kr_describe.proofs.pages.add_names.Goals as goal

pub loop-name-init : goal.loop-name-init
loop-name-init g c = record {
  went = begun g.R.RecordReader.reading g.R.RecordReader.with_reading c.args.steady.now c.args.reader.now c.requires.steady;
  filled = filling _ _ _ c.requires.few;
}

pub returns-in_err-add_from-clause-went : goal.returns-in_err-add_from-clause-went
returns-in_err-add_from-clause-went g c = failed c.from_residual.result c.loop-name.invariant.went c.in_err-add_from.ensures.went c.from_residual.ensures.1

pub loop-name-preserved : goal.loop-name-preserved
loop-name-preserved g c = record {
  went = further c.loop-name.invariant.went c.in_ok-add_from.ensures.went;
  filled = name_added _ c.requires.steady.valid _ _ _ _ _ _ c.loop-name.invariant.filled _ _ (ap keys_of c.in-Some.ensures.removal) _ (image_there c.loop-name.invariant.went) c.in_ok-add_from.ensures.entries;
}
