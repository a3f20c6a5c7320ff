use Rattle.std.proofs.lemmas.Result.{err_from_is_err_and}
use Rattle.testlib_codec_answers.proofs.ImagePieces.{fed_more, fed_fault}
use Rattle.testlib_codec_answers.proofs.image_reading.read_in.Goals as goal

pub loop-rest-preserved : goal.loop-rest-preserved
loop-rest-preserved c =
    fed_more _ _ _ _ c.split_at.result.0.now c.split_at.result.1.now c.split_at.ensures.by_index.0 c.loop-rest.invariant c.in_ok-feed.ensures.stands

pub returns-in_err-feed : goal.returns-in_err-feed
returns-in_err-feed c =
    let p = err_from_is_err_and c.from_residual.result c.from_residual.ensures.1 in
    let fed = fed_more _ _ _ _ c.split_at.result.0.now c.split_at.result.1.now c.split_at.ensures.by_index.0 c.loop-rest.invariant c.in_err-feed.ensures.stands in
    rw (p.1, p.2) (fed_fault _ _ _ c.in_err-feed.field-0.0 c.in_err-feed.ensures.answer fed)
