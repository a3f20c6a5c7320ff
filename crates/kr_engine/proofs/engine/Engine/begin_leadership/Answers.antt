use Rattle.kr_engine.proofs.OpenTransactions.{up_opens}
use Rattle.kr_engine.proofs.engine.Engine.begin_leadership.Goals as goal

pub give_up-requires : goal.give_up-requires
give_up-requires g c =
    record { «open» = up_opens c.args.self.now c.take_control_item.new.self c.args.epoch.now c.args.next.now c.requires.ready c.requires.begins c.in_ok-take_control_item.ensures.taken }
