use Rattle.std.proofs.Common.{refl}
use Rattle.kr_nodes.proofs.RefusedMoves.{stands_at}
use Rattle.kr_nodes.proofs.moving.act_at.Goals as goal

pub returns : goal.returns
returns g c = record {
  before = c.index_mut.result.now;
  after = c.act.new.self;
  there = stands_at c.args.nodes.now.items c.args.number c.index_mut.result.now c.requires.there c.index_mut.ensures.value;
  put = refl;
  acts = c.act.ensures;
}
