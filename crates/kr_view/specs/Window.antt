-- The fields of a window, as a clause sees them. This project's own.
use Rattle.std.specs.Prelude.{◌++◌, drop}
use Rattle.kr_view.specs.declared.window.Window.TheInside.{Inside}
use Rattle.kr_view.specs.Displays.{Display}
use Rattle.kr_view.specs.Steps.{entries_in}

abbrev pub display_of : Inside → Display
display_of w = record {
  options = w.copies.desk.shown.value.options;
  list = w.copies.desk.shown.value.list;
  waiting = entries_in (drop w.copies.behind w.copies.log.items) ++ w.run;
}
