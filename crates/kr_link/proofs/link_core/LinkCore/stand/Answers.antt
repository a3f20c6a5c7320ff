use Rattle.std.proofs.Common.{◌≡◌, ◌∙◌, sym, ap, List}
use Rattle.law_core.specs.Core.{Outcome}
use Rattle.kr_link.specs.Outgoing.{put_all}
use Rattle.kr_link.specs.Roles.{law_role}
use Rattle.kr_link.proofs.CoreSteps.{stood_core, stood_other, stood_own}
use Rattle.kr_link.proofs.link_core.LinkCore.stand.Goals as goal

pub returns-then-not-awaits_append-clause-core : goal.returns-then-not-awaits_append-clause-core
returns-then-not-awaits_append-clause-core c = sym (ap (λ (o : Outcome). o.0) (stood_other c.args.self.now.fed (law_role c.args.self.now.role) c.args.made c.args.base (sym c.awaits_append.ensures ∙ c.if-not-awaits_append.true)))

pub returns-then-not-awaits_append-clause-out : goal.returns-then-not-awaits_append-clause-out
returns-then-not-awaits_append-clause-out c =
    sym (ap (λ (o : Outcome). put_all c.args.out.now o.1) (stood_other c.args.self.now.fed (law_role c.args.self.now.role) c.args.made c.args.base (sym c.awaits_append.ensures ∙ c.if-not-awaits_append.true)))

pub returns-clause-core : goal.returns-clause-core
returns-clause-core c =
    stood_core c.args.self.now.fed _ (law_role c.args.self.now.role) _ c.args.made c.args.base (sym c.awaits_append.ensures ∙ c.if-not-awaits_append.false) c.in_ok-end.ensures.end c.in_ok-end.ensures.role

pub returns-clause-out : goal.returns-clause-out
returns-clause-out c =
    c.in_ok-end.ensures.out ∙ sym (ap (λ (o : Outcome). put_all c.args.out.now o.1) (stood_own c.args.self.now.fed (law_role c.args.self.now.role) c.args.made c.args.base (sym c.awaits_append.ensures ∙ c.if-not-awaits_append.false)))
