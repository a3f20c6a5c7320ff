-- The fields of those that wait, as a clause sees them. This project's own.
use Rattle.std.specs.Prelude.{◌+◌, ◌++◌, length, not, is_some, option_to_list}
use Rattle.std.specs.VecDeque.{deque_capacity, deque_len}
use Rattle.kr_shared.specs.declared.line.Line.TheInside.{Inside}
use Rattle.kr_shared.specs.Lines.{LineView, entries_of}

abbrev pub line_of : Inside → LineView
line_of l = record {
  waiting = l.waiting.items ++ option_to_list l.newest;
  due = entries_of l.due.items;
  seated = not (is_some l.newest);
  waits = deque_len l.waiting + length (option_to_list l.newest);
  dues = deque_len l.due;
  room = deque_capacity l.due;
}
