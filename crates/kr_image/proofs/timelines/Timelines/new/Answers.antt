use Rattle.std.proofs.Common.{refl, ap}
use Rattle.kr_image.proofs.Stores.{new_agrees}
use Rattle.kr_image.proofs.timelines.Timelines.new.Goals as goal

pub returns-clause-agrees : goal.returns-clause-agrees
returns-clause-agrees c = new_agrees _ (rw (c.new.ensures, c.new-2.ensures, c.new-4.ensures, c.new-5.ensures, c.new-6.ensures) refl) (ap (λ m. m.present) c.new-3.ensures) refl
