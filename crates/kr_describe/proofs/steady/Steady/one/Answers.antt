use Rattle.std.proofs.Common.{◌∙◌, ap, w64}
use Rattle.std.proofs.lemmas.Int.{to_z-of_z}
use Rattle.kr_view.specs.RecordPages.{record_of_key}
use Rattle.kr_describe.proofs.Going.{call_done, call_fails, call_image, call_loaded}
use Rattle.kr_describe.proofs.steady.Steady.one.Goals as goal

pub returns-in_err-record-clause-went : goal.returns-in_err-record-clause-went
returns-in_err-record-clause-went g c =
    let own = to_z-of_z w64 c.args.self.now.place c.requires.fits in
    call_fails g.R.RecordReader.reading g.R.RecordReader.with_reading c.args.self.now c.kept_places_stay.ensures.images c.args.reader.now c.record.new.self c.requires c.record.ensures.same c.record.ensures.onward c.in_err-record.field-0.0 c.from_residual.result c.in_err-record.ensures.cause (rw own at c.in_err-record.ensures.record) c.from_residual.ensures.1

pub returns-in_err-stays-clause-went : goal.returns-in_err-stays-clause-went
returns-in_err-stays-clause-went g c =
    let own = to_z-of_z w64 c.args.self.now.place c.requires.fits in
    call_loaded g.R.RecordReader.reading g.R.RecordReader.with_reading c.args.self.now c.kept_places_stay.ensures.images c.args.reader.now c.record.new.self c.requires c.record.ensures.same c.record.ensures.onward c.in_err-stays.field-0.0 _ c.in_ok-record.ensures.cause (rw own at c.in_ok-record.ensures.record).0 (rw c.loads.ensures at c.in_err-stays.ensures.err) c.from_residual-in_err-stays.ensures.1

pub returns-clause-went : goal.returns-clause-went
returns-clause-went g c =
    let own = to_z-of_z w64 c.args.self.now.place c.requires.fits in
    call_done g.R.RecordReader.reading g.R.RecordReader.with_reading c.args.self.now c.kept_places_stay.ensures.images c.args.reader.now c.record.new.self c.requires c.record.ensures.same c.record.ensures.onward _ c.in_ok-record.ensures.cause (rw own at c.in_ok-record.ensures.record).0 (rw c.loads.ensures at c.in_ok-stays.ensures.ok)

pub returns-clause-one : goal.returns-clause-one
returns-clause-one g c =
    let own = to_z-of_z w64 c.args.self.now.place c.requires.fits in
    let found = rw own at c.in_ok-record.ensures.record in
    found.1
    ∙ ap (λ image. record_of_key image c.args.key.now) (call_image g.R.RecordReader.reading g.R.RecordReader.with_reading c.args.self.now c.kept_places_stay.ensures.images c.args.reader.now c.record.new.self c.requires c.record.ensures.same c.record.ensures.onward found.0 (rw c.loads.ensures at c.in_ok-stays.ensures.ok))
