use Rattle.kr_shared.proofs.Giving.{all_given}
use Rattle.kr_shared.proofs.taking.give_out.Goals as goal

pub returns : goal.returns
returns g c = all_given c.args.engine.now c.loop-told.engine c.next_told.new.self _ _ _ _ _ _ _ c.loop-told.invariant.so_far c.in_default.ensures.hands
