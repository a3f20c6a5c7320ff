use Rattle.std.proofs.Common.{subst}
use Rattle.kr_defs.specs.declared.options.Options.{Options}
use Rattle.kr_nodes.specs.inner.Taking.{IsFirstNode}
use Rattle.kr_nodes.proofs.FirstNodes.{first_more}
use Rattle.kr_nodes.proofs.cluster.first_nodes.Goals as goal

pub loop-preserved : goal.loop-preserved
loop-preserved c =
    first_more c.args.options.now c.loop.counter c.loop.nodes.items c.push.new.self.items c.in_ok-new.field-0 c.loop.invariant c.in_ok-push.ensures.items
    (subst (λ (o : Options). IsFirstNode o c.in_ok-new.field-0) c.in_ok-own.ensures c.in_ok-new.ensures)
