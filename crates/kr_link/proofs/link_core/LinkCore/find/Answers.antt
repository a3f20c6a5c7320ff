use Rattle.std.proofs.Common.{◌∙◌, sym, ap}
use Rattle.law_core.specs.Core.{Outcome}
use Rattle.kr_link.specs.Outgoing.{put_all}
use Rattle.kr_link.specs.Roles.{law_role}
use Rattle.kr_link.proofs.CoreSteps.{found_core, found_other, found_out}
use Rattle.kr_link.proofs.link_core.LinkCore.find.Goals as goal

pub returns-then-not-is_batch_next-clause-core : goal.returns-then-not-is_batch_next-clause-core
returns-then-not-is_batch_next-clause-core c = sym (ap (λ (o : Outcome). o.0) (found_other c.args.self.now.fed (law_role c.args.self.now.role) c.args.batch (sym c.is_batch_next.ensures ∙ c.if-not-is_batch_next.true)))

pub returns-then-not-is_batch_next-clause-out : goal.returns-then-not-is_batch_next-clause-out
returns-then-not-is_batch_next-clause-out c = sym (ap (λ (o : Outcome). put_all c.args.out.now o.1) (found_other c.args.self.now.fed (law_role c.args.self.now.role) c.args.batch (sym c.is_batch_next.ensures ∙ c.if-not-is_batch_next.true)))

pub returns-clause-core : goal.returns-clause-core
returns-clause-core c = found_core c.args.self.now.fed c.end-self.result (law_role c.args.self.now.role) c.args.batch (sym c.is_batch_next.ensures ∙ c.if-not-is_batch_next.false) c.end-self.ensures _ c.in_ok-begin.ensures.role

pub returns-clause-out : goal.returns-clause-out
returns-clause-out c =
    found_out c.args.self.now.fed c.end-self.result (law_role c.args.self.now.role) c.args.batch (sym c.is_batch_next.ensures ∙ c.if-not-is_batch_next.false) c.end-self.ensures c.args.out.now _ _ c.in_ok-put.ensures c.in_ok-begin.ensures.out
