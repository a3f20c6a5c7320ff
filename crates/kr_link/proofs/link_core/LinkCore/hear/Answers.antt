use Rattle.std.proofs.Common.{◌≡◌, ◌∙◌, sym, ap, List}
use Rattle.kr_link.specs.Roles.{law_role}
use Rattle.kr_link.proofs.CoreSteps.{heard_core, heard_out}
use Rattle.kr_link.proofs.link_core.LinkCore.hear.Goals as goal

pub returns-clause-core : goal.returns-clause-core
returns-clause-core c = heard_core c.args.self.now.fed (law_role c.args.self.now.role) _ c.args.batch c.in_ok-hear.ensures.role

pub returns-clause-out : goal.returns-clause-out
returns-clause-out c = heard_out c.args.self.now.fed (law_role c.args.self.now.role) c.args.batch c.args.out.now _ c.in_ok-hear.ensures.out
