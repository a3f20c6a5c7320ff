use Rattle.std.proofs.Common.{◌∙◌, ℤ, ap, refl, sym, w64}
use Rattle.std.proofs.lemmas.Int.{to_z-of_z}
use Rattle.kr_calls.specs.SeatList.{image_below}
use Rattle.kr_defs.specs.Image.{Image}
use Rattle.kr_pages.specs.Pages.{page}
use Rattle.kr_describe.specs.SteadyReads.{steady_image}
use Rattle.kr_describe.proofs.Going.{calls_on, onward_trans}
use Rattle.kr_describe.proofs.MadePages.{page_made}
use Rattle.kr_describe.proofs.pages.page.Goals as goal

pub returns-in_err-add_lines-clause-calls : goal.returns-in_err-add_lines-clause-calls
returns-in_err-add_lines-clause-calls g c = calls_on g.R.RecordReader.reading g.R.RecordReader.with_reading c.args.reader.now c.begin.new.reader c.add_lines.new.reader c.in_ok-steady.ensures.calls c.in_err-add_lines.ensures.went.calls

pub returns-in_err-add_lines-clause-onward : goal.returns-in_err-add_lines-clause-onward
returns-in_err-add_lines-clause-onward g c = onward_trans _ _ _ c.in_ok-steady.ensures.onward c.in_err-add_lines.ensures.went.onward

pub returns-in_err-page_of-clause-calls : goal.returns-in_err-page_of-clause-calls
returns-in_err-page_of-clause-calls g c = calls_on g.R.RecordReader.reading g.R.RecordReader.with_reading c.args.reader.now c.begin.new.reader c.add_lines.new.reader c.in_ok-steady.ensures.calls c.in_ok-add_lines.ensures.went.calls

pub returns-in_err-page_of-clause-onward : goal.returns-in_err-page_of-clause-onward
returns-in_err-page_of-clause-onward g c = onward_trans _ _ _ c.in_ok-steady.ensures.onward c.in_ok-add_lines.ensures.went.onward

pub returns-clause-calls : goal.returns-clause-calls
returns-clause-calls g c = calls_on g.R.RecordReader.reading g.R.RecordReader.with_reading c.args.reader.now c.begin.new.reader c.add_lines.new.reader c.in_ok-steady.ensures.calls c.in_ok-add_lines.ensures.went.calls

pub returns-clause-onward : goal.returns-clause-onward
returns-clause-onward g c = onward_trans _ _ _ c.in_ok-steady.ensures.onward c.in_ok-add_lines.ensures.went.onward

pub returns-clause-page : goal.returns-clause-page
returns-clause-page g c =
    let own = to_z-of_z w64 c.args.place c.ranges.place in
    let first = steady_image c.in_ok-steady.steady (g.R.RecordReader.reading c.begin.new.reader) in
    let made = page_made first c.in_ok-steady.ensures.steady.valid c.args.describe.now _ _ c.limit_of-limit.ensures.value refl _ (rw c.new-entries.ensures at c.in_ok-add_lines.ensures.entries) _ c.in_ok-page_of.ensures in
    made
    ∙ ap (λ (i : Image). page i c.args.describe.now) (sym c.in_ok-add_lines.ensures.went.ends.image)
    ∙ ap (λ (p : ℤ). page (image_below p (g.R.RecordReader.reading c.add_lines.new.reader).seen.list) c.args.describe.now) (c.in_ok-steady.ensures.place ∙ own)
