-- A copy takes in a step. This project's own.
use Rattle.kr_view.specs.declared.run.Step.{Step}
use Rattle.kr_view.specs.Showing.{Showing, showing_more}
use Rattle.kr_view.specs.Steps.{entries_of}

abbrev pub with_step : Showing → Step → Showing
with_step s step = showing_more s (entries_of step)
