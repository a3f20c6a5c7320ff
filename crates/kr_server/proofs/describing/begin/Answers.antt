use Rattle.std.proofs.Common.{◌∙◌, sym, w64}
use Rattle.std.proofs.lemmas.Int.{to_z-of_z}
use Rattle.kr_server.proofs.Pages.{begun_again, begun_first, goes_on}
use Rattle.kr_server.proofs.describing.begin.Goals as goal

pub returns-in_default-clause-begun : goal.returns-in_default-clause-begun
returns-in_default-clause-begun g c = λ cursor pin asked held.
    begun_first cursor c.args.seat.now pin c.renew.new.seat _ c.renew.result (rw c.in_default.is at held) (rw c.in_default.is at c.renew.ensures.renewed)

pub returns-then-goes_on-clause-begun : goal.returns-then-goes_on-clause-begun
returns-then-goes_on-clause-begun g c = λ cursor pin asked held.
    rw (to_z-of_z w64 c.in-Some.place search) (goes_on cursor c.args.seat.now pin c.in-Some.place (sym asked ∙ c.if-goes_on.true) (rw c.in-Some.is at held))

pub returns-clause-begun : goal.returns-clause-begun
returns-clause-begun g c = λ cursor pin asked held.
    begun_again cursor c.args.seat.now pin c.in-Some.place c.renew-2.new.seat _ c.renew-2.result (sym asked ∙ c.if-goes_on.false) (rw c.in-Some.is at held) (rw c.in-Some.is at c.renew-2.ensures.renewed)
