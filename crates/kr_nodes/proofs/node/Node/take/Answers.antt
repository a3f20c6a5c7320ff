use Rattle.std.proofs.lemmas.Result.{on_ok_weaker}
use Rattle.kr_nodes.proofs.TakenBy.{takes_by}
use Rattle.kr_nodes.proofs.node.Node.take.Goals as goal

pub returns : goal.returns
returns g c = on_ok_weaker c.hand_out.result
    (λ hands. takes_by c.args.number c.args.self.now c.step.new.self c.note.new.self c.hand_out.new.engine c.hand_out.new.pending c.args.is_write _ _ c.args.event.now c.look_at_places.ensures.epoch c.in_ok-step.ensures.step c.in_ok-note.ensures hands)
    c.hand_out.ensures
