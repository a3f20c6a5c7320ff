use Rattle.std.proofs.Common.{Some, ap, refl, sym}
use Rattle.kr_image.proofs.entries.key_between.Goals as goal

pub returns-in_ok-copied-in-Some : goal.returns-in_ok-copied-in-Some
returns-in_ok-copied-in-Some g c = rw (sym c.in-Some.ensures) (ap Some c.in_ok-copied-in-Some.ensures)

pub returns-in-None : goal.returns-in-None
returns-in-None g c = rw (sym c.in-None.ensures) refl
