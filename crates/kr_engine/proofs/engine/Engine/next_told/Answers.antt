use Rattle.kr_model.proofs.OutputsLeft.{hands_answer}
use Rattle.kr_engine.proofs.engine.Engine.next_told.Goals as goal

pub returns-clause-hands : goal.returns-clause-hands
returns-clause-hands c =
    hands_answer c.args.self.now c.next_given.new.self c.next_refusal.new.self c.next_answer.new.self c.next_answer.result c.requires
    c.in_default.ensures.in_order c.in_default.ensures.none c.in_default.ensures.same c.in_default-next_refusal.ensures.value c.in_default-next_refusal.ensures.same
    c.next_answer.ensures.in_order c.next_answer.ensures.none c.next_answer.ensures.waits c.next_answer.ensures.ordered c.next_answer.ensures.same
