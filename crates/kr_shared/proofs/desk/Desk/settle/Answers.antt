use Rattle.std.proofs.lemmas.Result.{on_ok_weaker}
use Rattle.kr_shared.proofs.Settling.{may_show, shown_settled, stays_for}
use Rattle.kr_shared.proofs.desk.Desk.settle.Goals as goal

pub show-requires : goal.show-requires
show-requires g c = may_show c.prepare.new.self c.in_ok-prepare.ensures.all (stays_for c.args.self.now c.prepare.new.self c.prepare.ensures.due c.requires)

pub returns-clause-done : goal.returns-clause-done
returns-clause-done g c =
    on_ok_weaker c.show.result (shown_settled c.prepare.new.self c.show.new.self c.in_ok-prepare.ensures.all) c.show.ensures.ok
