use Rattle.std.proofs.Common.{◌≡◌, ◌∙◌, sym, ap, List}
use Rattle.law_core.specs.Core.{resigning}
use Rattle.kr_link.specs.Outgoing.{Outgoing, put_all}
use Rattle.kr_link.specs.Roles.{law_role}
use Rattle.kr_link.proofs.CoreSteps.{over_core, over_out}
use Rattle.kr_link.proofs.link_core.LinkCore.end.Goals as goal

pub returns-clause-core : goal.returns-clause-core
returns-clause-core c = sym (over_core c.args.self.now.fed (law_role c.args.self.now.role))

pub returns-clause-out : goal.returns-clause-out
returns-clause-out c =
    (c.in_ok-resign.ensures ∙ ap (λ (o : Outgoing). put_all o (resigning (law_role c.args.self.now.role))) c.in_ok-tell_lost.ensures) ∙ sym (over_out c.args.out.now c.args.self.now.fed (law_role c.args.self.now.role))
