use Rattle.kr_engine.proofs.RequestDecisions.{decides_ok}
use Rattle.kr_engine.proofs.Undoing.{images_break, whatever}
use Rattle.kr_engine.proofs.engine.Engine.decide.Goals as goal

pub returns-clause-decided : goal.returns-clause-decided
returns-clause-decided g c =
    decides_ok c.args.self.now c.decide_at_tip.new.self c.args.request.now c.decide_at_tip.result c.decide_at_tip.ensures.records c.decide_at_tip.ensures.reply
    c.decide_at_tip.ensures.image c.decide_at_tip.ensures.kept c.decide_at_tip.ensures.made c.decide_at_tip.ensures.calls c.decide_at_tip.ensures.begins c.decide_at_tip.ensures.settled c.decide_at_tip.ensures.same

pub returns-clause-broken : goal.returns-clause-broken
returns-clause-broken g c = whatever c.decide_at_tip.result (images_break c.args.self.now c.decide_at_tip.new.self c.decide_at_tip.ensures.same c.decide_at_tip.ensures.kept c.decide_at_tip.ensures.calls c.decide_at_tip.ensures.begins)
