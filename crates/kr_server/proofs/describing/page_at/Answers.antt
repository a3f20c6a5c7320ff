use Rattle.std.proofs.Common.{w64}
use Rattle.std.proofs.lemmas.Int.{to_z-of_z}
use Rattle.kr_server.proofs.PageReads.{page_read}
use Rattle.kr_server.proofs.describing.page_at.Goals as goal

pub returns : goal.returns
returns c =
    let e = c.page.ensures in
    page_read c.args.seat.now c.page.new.reader _ c.args.place (to_z-of_z w64 c.args.place c.ranges.place) c.args.describe.now c.page.result e.calls e.onward e.cause e.page e.kept e.stop
