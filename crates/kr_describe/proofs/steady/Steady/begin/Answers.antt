use Rattle.std.proofs.Common.{arith, subst, sym, FitsSigned, w64, to_z, of_z}
use Rattle.std.proofs.lemmas.Int.{to_z-of_z}
use Rattle.kr_describe.proofs.Going.{one_call}
use Rattle.kr_describe.proofs.ValidImages.{image_valid}
use Rattle.kr_describe.proofs.steady.Steady.begin.Goals as goal

pub returns-in_err-records-clause-calls : goal.returns-in_err-records-clause-calls
returns-in_err-records-clause-calls g c = one_call g.R.RecordReader.reading g.R.RecordReader.with_reading c.args.reader.now c.records.new.self c.records.ensures.same

pub returns-then-loads-clause-calls : goal.returns-then-loads-clause-calls
returns-then-loads-clause-calls g c = one_call g.R.RecordReader.reading g.R.RecordReader.with_reading c.args.reader.now c.records.new.self c.records.ensures.same

pub returns-clause-calls : goal.returns-clause-calls
returns-clause-calls g c = one_call g.R.RecordReader.reading g.R.RecordReader.with_reading c.args.reader.now c.records.new.self c.records.ensures.same

pub returns-clause-steady : goal.returns-clause-steady
returns-clause-steady g c =
    let place = to_z w64 (of_z w64 c.args.place) in
    record {
      fits = subst (FitsSigned w64) (sym (to_z-of_z w64 c.args.place c.ranges.place)) c.ranges.place;
      kept = c.in_ok-records.ensures.records.0;
      loads = c.loads-loads.ensures;
      few = omega (arith, c.if-loads.false, c.loads-loads.type_inv);
      valid = image_valid c.empty_is_valid.ensures place (g.R.RecordReader.reading c.records.new.self).seen.list;
    }
