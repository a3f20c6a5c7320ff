use Rattle.std.proofs.Common.{◌≡◌, ◌∙◌, List, ap, arith, w64}
use Rattle.std.specs.Prelude.{Some, slice_get}
use Rattle.std.proofs.lemmas.Int.{to_z-of_z}
use Rattle.kr_defs.specs.declared.record.Record.{Record}
use Rattle.kr_view.specs.RecordPages.{record_page}
use Rattle.kr_view.proofs.Filling.{few_taken}
use Rattle.kr_describe.specs.SteadyReads.{steady_image}
use Rattle.kr_describe.proofs.Going.{call_done, call_fails, call_image, call_loaded}
use Rattle.kr_describe.proofs.LookedUp.{popped}
use Rattle.kr_describe.proofs.steady.Steady.next.Goals as goal

pub returns-in_err-page-clause-went : goal.returns-in_err-page-clause-went
returns-in_err-page-clause-went g c =
    let own = to_z-of_z w64 c.args.self.now.place c.requires.fits in
    call_fails g.R.RecordReader.reading g.R.RecordReader.with_reading c.args.self.now c.kept_places_stay.ensures.images c.args.reader.now c.records.new.self c.requires c.records.ensures.same c.records.ensures.onward c.in_err-page.field-0.0 c.from_residual.result c.in_err-page.ensures.cause (rw own at c.in_err-page.ensures.records) c.from_residual.ensures.1

pub returns-in_err-stays-clause-went : goal.returns-in_err-stays-clause-went
returns-in_err-stays-clause-went g c =
    let own = to_z-of_z w64 c.args.self.now.place c.requires.fits in
    call_loaded g.R.RecordReader.reading g.R.RecordReader.with_reading c.args.self.now c.kept_places_stay.ensures.images c.args.reader.now c.records.new.self c.requires c.records.ensures.same c.records.ensures.onward c.in_err-stays.field-0.0 _ c.in_ok-page.ensures.cause (rw own at c.in_ok-page.ensures.records).0 (rw c.loads.ensures at c.in_err-stays.ensures.err) c.from_residual-in_err-stays.ensures.1

pub returns-clause-went : goal.returns-clause-went
returns-clause-went g c =
    let own = to_z-of_z w64 c.args.self.now.place c.requires.fits in
    call_done g.R.RecordReader.reading g.R.RecordReader.with_reading c.args.self.now c.kept_places_stay.ensures.images c.args.reader.now c.records.new.self c.requires c.records.ensures.same c.records.ensures.onward _ c.in_ok-page.ensures.cause (rw own at c.in_ok-page.ensures.records).0 (rw c.loads.ensures at c.in_ok-stays.ensures.ok)

pub returns-clause-next : goal.returns-clause-next
returns-clause-next g c =
    let own = to_z-of_z w64 c.args.self.now.place c.requires.fits in
    let found = rw own at c.in_ok-page.ensures.records in
    let image = call_image g.R.RecordReader.reading g.R.RecordReader.with_reading c.args.self.now c.kept_places_stay.ensures.images c.args.reader.now c.records.new.self c.requires c.records.ensures.same c.records.ensures.onward found.0 (rw c.loads.ensures at c.in_ok-stays.ensures.ok) in
    let page : c.into_vec.result.items ≡ record_page (steady_image c.args.self.now (g.R.RecordReader.reading c.args.reader.now)) (Some c.args.after.now) 1 = c.into_vec.ensures ∙ found.1 ∙ ap (λ i. record_page i (Some c.args.after.now) 1) image in
    popped _ _ _ _ c.pop.ensures.items c.pop.ensures.variant (omega (arith, c.into_vec.result.ok.0)) (few_taken 1 _ _ page) ∙ ap (λ (rs : List Record). slice_get rs 0) page
