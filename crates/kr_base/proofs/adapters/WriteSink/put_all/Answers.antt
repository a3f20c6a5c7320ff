use Rattle.kr_base.proofs.Pieces.{appends_front, within_front}
use Rattle.kr_base.proofs.adapters.WriteSink.put_all.Goals as goal

pub loop-at-preserved : goal.loop-at-preserved
loop-at-preserved g c = record {
  within = within_front c.loop-at.at c.in-Ok.count c.args.piece.now _ c.split_at.ensures.back c.loop-at.invariant.within c.in-Ok.ensures.bound;
  faults = c.loop-at.invariant.faults;
  wrote = appends_front _ _ _ c.loop-at.at c.in-Ok.count c.args.piece.now _ c.split_at.ensures.back c.loop-at.invariant.wrote c.in-Ok.ensures.bytes;
}
