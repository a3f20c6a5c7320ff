use Rattle.std.proofs.Common.{◌≡◌, ◌∙◌, sym, ap, List}
use Rattle.law_quorum.specs.Batches.{Batch}
use Rattle.kr_link.specs.Cores.{asked_in}
use Rattle.kr_link.specs.Roles.{held_of}
use Rattle.kr_link.proofs.CoreSteps.{commit_out}
use Rattle.kr_link.proofs.roles.Leading.commit.Goals as goal

pub returns-clause-role : goal.returns-clause-role
returns-clause-role c = c.in_ok-ask.ensures.role ∙ ap (λ (bs : List Batch). asked_in (held_of c.args.self.now.held) bs c.args.self.now.waits) c.new.ensures

pub returns-clause-out : goal.returns-clause-out
returns-clause-out c =
    commit_out (held_of c.args.self.now.held) c.args.fed _ c.args.self.now.asked _ c.args.self.now.waits c.args.out.now _ _ c.new.ensures c.end_of-end.ensures c.in_ok-put.ensures
    c.in_ok-ask.ensures.out
