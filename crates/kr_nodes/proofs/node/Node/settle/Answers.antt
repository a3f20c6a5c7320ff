use Rattle.std.proofs.Common.{◌∙◌, ap, sym, List, ◌∷◌}
use Rattle.kr_nodes.specs.declared.node.Node.{Node}
use Rattle.kr_nodes.specs.declared.shared.ListBatch.{ListBatch}
use Rattle.kr_nodes.specs.inner.Acting.{longer}
use Rattle.kr_nodes.proofs.Settlings.{settle_acts}
use Rattle.kr_nodes.proofs.node.Node.settle.Goals as goal

pub returns : goal.returns
returns c =
    let after = c.note_settled.ensures in
    let popped = c.in-Some.ensures.same in
    settle_acts c.args.number c.args.self.now c.note_settled.new.self c.args.shared.now c.join.new.self c.in-Some.batch c.in_ok-check_settle.ensures
    (record {
      engine = ap (λ (n : Node). n.engine) after ∙ ap (λ (n : Node). n.engine) popped;
      unsettled = c.in-Some.ensures.items ∙ ap (λ (l : List ListBatch). c.in-Some.batch ∷ l) (sym (ap (λ (n : Node). n.pending.unsettled.items) after));
      waiting = ap (λ (n : Node). n.pending.waiting) after ∙ ap (λ (n : Node). n.pending.waiting) popped;
      settled = ap (λ (n : Node). n.settled) after ∙ ap (λ (n : Node). longer n.settled c.in-Some.batch.count) popped;
      fed = ap (λ (n : Node). n.fed) after ∙ ap (λ (n : Node). n.fed) popped;
      sent_is = ap (λ (n : Node). n.sent) after ∙ (c.len.ensures ∙ c.join.new.self.list.ok.0);
    })
    c.in_ok-join.ensures
