use Rattle.kr_link.specs.Roles.{held_of}
use Rattle.kr_link.proofs.CoreSteps.{call_out}
use Rattle.kr_link.proofs.roles.Leading.call.Goals as goal

pub returns : goal.returns
returns c =
    call_out (held_of c.args.self.now.held) c.args.self.now.asked _ _ c.args.out.now _ c.in_ok-batches.ensures c.base_of_first.ensures c.in_ok-put.ensures
