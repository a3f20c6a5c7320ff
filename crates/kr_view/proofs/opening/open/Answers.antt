use Rattle.std.proofs.Common.{◌≡◌, [], drop, ◌∙◌, ap, subst}
use Rattle.kr_defs.specs.declared.options.Options.{Options}
use Rattle.left_right.specs.declared.part.Part.{Part}
use Rattle.kr_view.specs.Opened.{AreSeats}
use Rattle.kr_view.specs.Showing.{Showing, showing}
use Rattle.kr_view.specs.Steps.{entries_in}
use Rattle.kr_view.proofs.opening.open.Goals as goal

pub returns-in-Ok-first_seats : goal.returns-in-Ok-first_seats
returns-in-Ok-first_seats g c =
    let n = c.new.ensures in
    let s = c.in-Ok-first_seats.ensures.copies in
    let d = c.in-Ok.ensures in
    let w = c.first_seats.new.copies in
    let shown : w.desk.shown.value ≡ showing c.args.options [] = ap (λ (p : Part Showing). p.value) s.0 ∙ d.0 in
    let o : w.desk.shown.value.options ≡ c.args.options = ap (λ (x : Showing). x.options) shown in
    let l : w.desk.shown.value.list ≡ [] = ap (λ (x : Showing). x.list) shown in
    let p : drop w.behind w.log.items ≡ [] = cc in
    record {
      publisher = n ∙ (λ i. record { options = o i; list = l i; waiting = entries_in (p i); items = []; notes = [] });
      many = c.in-Ok-first_seats.ensures.seats.0;
      seats = subst (λ (k : Options). AreSeats k c.in-Ok-first_seats.seats) (ap (λ (x : Showing). x.options) d.0) c.in-Ok-first_seats.ensures.seats.1;
    }
