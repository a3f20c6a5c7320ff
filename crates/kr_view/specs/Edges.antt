-- What a clause sees of a reader. This project's own.
use Rattle.std.specs.Prelude.{◌≡◌}
use Rattle.left_right.specs.Sides.{view}
use Rattle.kr_base.specs.Causes.{Rose}
use Rattle.kr_view.specs.declared.edge.Edge.{Edge}
use Rattle.kr_view.specs.declared.edge.Entered.{Entered}
use Rattle.kr_view.specs.declared.rule.ThreadView.{ThreadView}
use Rattle.kr_view.specs.CopiesRule.{Saw}

abbrev pub seen_by : Edge → ThreadView
seen_by e = view e.reader.place

-- the reader has the copy that is shown, and has seen all that stands in it
abbrev pub GetsCopy : Edge → Entered → Type 0
GetsCopy edge e = Saw (seen_by edge) e.reading.part.value e.reading.part.value (view e.reading.place) × (e.misses ≡ edge.misses)

-- it got none: the count rose, and nothing else changed
abbrev pub GetsNone : Edge → Edge → Type 0
GetsNone before after = (seen_by after ≡ seen_by before) × Rose before.misses after.misses
