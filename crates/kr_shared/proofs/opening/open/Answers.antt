use Rattle.std.proofs.Common.{subst}
use Rattle.kr_defs.specs.declared.options.Options.{Options}
use Rattle.kr_view.specs.Opened.{AreSeats}
use Rattle.kr_shared.proofs.opening.open.Goals as goal

pub seat_all-requires-clause-readers : goal.seat_all-requires-clause-readers
seat_all-requires-clause-readers g c = subst (λ (o : Options). AreSeats o c.in_ok-publisher.readers) c.in-Ok-options_again.ensures c.in_ok-publisher.ensures.seats
