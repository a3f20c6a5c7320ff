-- The publisher's fields, as a clause sees them. This project's own.
use Rattle.kr_view.specs.declared.publisher.Publisher.TheInside.{Inside}
use Rattle.kr_view.specs.Shelves.{Shelf}

abbrev pub shelf_of : Inside → Shelf
shelf_of p = record {
  options = p.window.options;
  list = p.window.list;
  waiting = p.window.waiting;
  items = p.items.items;
  notes = p.notes.items;
}
