use Rattle.std.proofs.Common.{◌≡◌, ◌∙◌, sym, ap, List}
use Rattle.law_core.specs.Core.{Outcome}
use Rattle.kr_link.specs.Outgoing.{put_all}
use Rattle.kr_link.specs.Roles.{held_of}
use Rattle.kr_link.proofs.CoreSteps.{other_heard, own_out, own_role}
use Rattle.kr_link.proofs.roles.Leading.hear.Goals as goal

pub returns-then-not-is_own-clause-role : goal.returns-then-not-is_own-clause-role
returns-then-not-is_own-clause-role c =
    sym (ap (λ (o : Outcome). o.0.role) (other_heard 0 (held_of c.args.self.now.held) c.args.self.now.asked c.args.self.now.waits c.args.batch (sym c.is_own.ensures ∙ c.if-not-is_own.true)))

pub returns-then-not-is_own-clause-out : goal.returns-then-not-is_own-clause-out
returns-then-not-is_own-clause-out c =
    sym (ap (λ (o : Outcome). put_all c.args.out.now o.1)
    (other_heard 0 (held_of c.args.self.now.held) c.args.self.now.asked c.args.self.now.waits c.args.batch (sym c.is_own.ensures ∙ c.if-not-is_own.true)))

pub returns-clause-role : goal.returns-clause-role
returns-clause-role c =
    own_role (held_of c.args.self.now.held) c.args.self.now.asked c.args.self.now.waits _ c.args.batch (sym c.is_own.ensures ∙ c.if-not-is_own.false) c.in_ok-push.ensures _
    c.in_ok-ask.ensures.role

pub returns-clause-out : goal.returns-clause-out
returns-clause-out c =
    own_out (held_of c.args.self.now.held) c.args.self.now.asked c.args.self.now.waits _ c.args.batch (sym c.is_own.ensures ∙ c.if-not-is_own.false) c.in_ok-push.ensures
    c.args.out.now _ c.in_ok-ask.ensures.out
