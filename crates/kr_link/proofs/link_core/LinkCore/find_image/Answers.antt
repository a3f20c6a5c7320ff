use Rattle.std.proofs.Common.{◌≡◌, ◌∙◌, sym, ap, List}
use Rattle.law_core.specs.Core.{Outcome}
use Rattle.kr_link.specs.Outgoing.{put_all}
use Rattle.kr_link.specs.Roles.{law_role}
use Rattle.kr_link.proofs.CoreSteps.{image_core, image_other, image_out}
use Rattle.kr_link.proofs.link_core.LinkCore.find_image.Goals as goal

pub returns-then-not-is_image_next-clause-core : goal.returns-then-not-is_image_next-clause-core
returns-then-not-is_image_next-clause-core c = sym (ap (λ (o : Outcome). o.0) (image_other c.args.self.now.fed (law_role c.args.self.now.role) c.args.image (sym c.is_image_next.ensures ∙ c.if-not-is_image_next.true)))

pub returns-then-not-is_image_next-clause-out : goal.returns-then-not-is_image_next-clause-out
returns-then-not-is_image_next-clause-out c = sym (ap (λ (o : Outcome). put_all c.args.out.now o.1) (image_other c.args.self.now.fed (law_role c.args.self.now.role) c.args.image (sym c.is_image_next.ensures ∙ c.if-not-is_image_next.true)))

pub returns-clause-core : goal.returns-clause-core
returns-clause-core c = image_core c.args.self.now.fed c.offset-self.result (law_role c.args.self.now.role) c.args.image (sym c.is_image_next.ensures ∙ c.if-not-is_image_next.false) c.offset-self.ensures _ c.in_ok-begin.ensures.role

pub returns-clause-out : goal.returns-clause-out
returns-clause-out c =
    image_out c.args.self.now.fed c.offset-self.result (law_role c.args.self.now.role) c.args.image (sym c.is_image_next.ensures ∙ c.if-not-is_image_next.false) c.offset-self.ensures c.args.out.now _ _ c.in_ok-put.ensures c.in_ok-begin.ensures.out
