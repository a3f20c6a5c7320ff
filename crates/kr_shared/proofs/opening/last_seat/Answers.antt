use Rattle.std.proofs.Common.{◌≡◌, ◌∙◌, ◌+◌, [], ◌∷◌, ◌++◌, List, length, length-append, subst, sym, ap, arith}
use Rattle.kr_view.specs.Opened.{AreSeats}
use Rattle.kr_view.specs.Seats.{Seat}
use Rattle.kr_shared.specs.Clients.{Client}
use Rattle.kr_shared.proofs.LastSeats.{last_seat}
use Rattle.kr_shared.proofs.opening.last_seat.Goals as goal

pub returns-clause-readers : goal.returns-clause-readers
returns-clause-readers c =
    (last_seat c.args.options.now c.pop.new.self.items c.in-Some.reader (subst (AreSeats c.args.options.now) c.in-Some.ensures.items c.requires.readers)).0

pub returns-clause-some : goal.returns-clause-some
returns-clause-some c =
    let is = c.in-Some.ensures.items in
    let long = ap (λ (l : List Seat). length l) is in
    let sum = length-append c.pop.new.self.items (c.in-Some.reader ∷ []) in
    let last = (last_seat c.args.options.now c.pop.new.self.items c.in-Some.reader (subst (AreSeats c.args.options.now) is c.requires.readers)).1 in
    (omega (arith, long, sum), c.new.ensures ∙ ap (λ (s : Seat). record { number = s.number; seen = s.seen; misses = s.misses; ticket = 0; pushed = []; held = [] }) last)
