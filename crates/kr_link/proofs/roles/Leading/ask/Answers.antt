use Rattle.std.proofs.Common.{◌≡◌, ◌∙◌, sym, ap, List}
use Rattle.law_core.specs.Core.{Deed}
use Rattle.kr_link.specs.Outgoing.{put_all}
use Rattle.kr_link.specs.Roles.{held_of}
use Rattle.kr_link.proofs.CoreSteps.{asks_nothing, not_ready, ready_out, ready_role}
use Rattle.kr_link.proofs.roles.Leading.ask.Goals as goal

pub returns-then-not-may_ask-clause-role : goal.returns-then-not-may_ask-clause-role
returns-then-not-may_ask-clause-role c =
    sym (not_ready (held_of c.args.self.now.held) c.args.self.now.asked c.args.self.now.waits (sym c.may_ask.ensures ∙ c.if-not-may_ask.true))

pub returns-then-not-may_ask-clause-out : goal.returns-then-not-may_ask-clause-out
returns-then-not-may_ask-clause-out c =
    sym (ap (λ (ds : List Deed). put_all c.args.out.now ds)
    (asks_nothing (held_of c.args.self.now.held) c.args.self.now.asked c.args.self.now.waits (sym c.may_ask.ensures ∙ c.if-not-may_ask.true)))

pub returns-clause-role : goal.returns-clause-role
returns-clause-role c =
    ready_role (held_of c.args.self.now.held) c.args.self.now.asked c.args.self.now.waits _ _ (sym c.may_ask.ensures ∙ c.if-not-may_ask.false)
    c.in_ok-group.ensures.group c.in_ok-group.ensures.rest

pub returns-clause-out : goal.returns-clause-out
returns-clause-out c =
    ready_out (held_of c.args.self.now.held) c.args.self.now.asked c.args.self.now.waits _ c.args.out.now _ (sym c.may_ask.ensures ∙ c.if-not-may_ask.false)
    c.in_ok-group.ensures.group c.in_ok-call.ensures
