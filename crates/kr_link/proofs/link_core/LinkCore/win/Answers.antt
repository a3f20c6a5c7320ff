use Rattle.std.proofs.Common.{◌≡◌, ◌∙◌, sym, ap, List, []}
use Rattle.law_core.specs.Core.{Outcome, Role}
use Rattle.law_core.specs.Core as laws
use Rattle.kr_link.specs.Outgoing.{put_all}
use Rattle.kr_link.specs.Roles.{held_of, law_role}
use Rattle.kr_link.proofs.CoreSteps.{won_first, won_more}
use Rattle.kr_link.proofs.link_core.LinkCore.win.Goals as goal

pub returns-then-has_leadership-clause-core : goal.returns-then-has_leadership-clause-core
returns-then-has_leadership-clause-core c = sym (ap (λ (o : Outcome). o.0) (won_more c.args.self.now.fed (law_role c.args.self.now.role) (held_of c.args.held) (sym c.has_leadership.ensures ∙ c.if-has_leadership.true)))

pub returns-then-has_leadership-clause-out : goal.returns-then-has_leadership-clause-out
returns-then-has_leadership-clause-out c = sym (ap (λ (o : Outcome). put_all c.args.out.now o.1) (won_more c.args.self.now.fed (law_role c.args.self.now.role) (held_of c.args.held) (sym c.has_leadership.ensures ∙ c.if-has_leadership.true)))

pub returns-clause-core : goal.returns-clause-core
returns-clause-core c =
    ap (λ (r : Role). (laws.becomes c.args.self.now.fed r []).0) c.in_ok-begin.ensures.role
    ∙ sym (ap (λ (o : Outcome). o.0) (won_first c.args.self.now.fed (law_role c.args.self.now.role) (held_of c.args.held) (sym c.has_leadership.ensures ∙ c.if-has_leadership.false)))

pub returns-clause-out : goal.returns-clause-out
returns-clause-out c =
    c.in_ok-begin.ensures.out ∙ sym (ap (λ (o : Outcome). put_all c.args.out.now o.1) (won_first c.args.self.now.fed (law_role c.args.self.now.role) (held_of c.args.held) (sym c.has_leadership.ensures ∙ c.if-has_leadership.false)))
