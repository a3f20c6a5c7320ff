use Rattle.kr_base.proofs.Pieces.{appends_kept_front}
use Rattle.kr_base.proofs.adapters.WriteSinkSink.put.Goals as goal

pub returns-in-Err-clause-err : goal.returns-in-Err-clause-err
returns-in-Err-clause-err g c = appends_kept_front _ _ _ c.args.piece.now c.in_ok-put_all.ensures.ok c.flush.ensures.same
