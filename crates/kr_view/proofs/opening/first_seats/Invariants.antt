use Rattle.std.proofs.Common.{◌≡◌, true, [], length}
use Rattle.left_right.specs.Sides.{view}
use Rattle.kr_view.specs.CopiesRule.{seen}
use Rattle.kr_view.specs.Opened.{AreSeats}
use Rattle.kr_view.proofs.opening.first_seats.Given as goal

abbrev pub invariant-loop-count : goal.invariant-loop-count
invariant-loop-count l = record {
  copies : (l.copies.desk.shown ≡ l.fn.copies.desk.shown) × (l.copies.log ≡ l.fn.copies.log) × (l.copies.behind ≡ l.fn.copies.behind);
  view : view l.copies.desk.place ≡ seen true l.fn.copies.desk.shown.value.options [];
  refused : l.opening.refused ≡ l.fn.opening.refused;
  many : length l.made ≡ l.count;
  seats : AreSeats l.fn.copies.desk.shown.value.options l.made;
}
