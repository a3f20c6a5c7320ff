use Rattle.std.proofs.Common.{◌≡◌, ◌∙◌, sym}
use Rattle.kr_link.specs.Roles.{held_of}
use Rattle.kr_link.proofs.CoreSteps.{none_again, some_again}
use Rattle.kr_link.proofs.roles.Leading.ask_again.Goals as goal

pub returns-then-has_no_batch : goal.returns-then-has_no_batch
returns-then-has_no_batch c = none_again (held_of c.args.self.now.held) c.args.out.now c.args.self.now.asked (sym c.has_no_batch.ensures ∙ c.if-has_no_batch.true)

pub returns : goal.returns
returns c = some_again (held_of c.args.self.now.held) c.args.out.now _ c.args.self.now.asked (sym c.has_no_batch.ensures ∙ c.if-has_no_batch.false) c.in_ok-call.ensures
