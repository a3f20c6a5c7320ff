use Rattle.kr_defs.proofs.Validity.{kept}
use Rattle.kr_defs.proofs.laws.apply_keeps_valid.Goals as goal

pub returns : goal.returns
returns c image after item v is = kept image v item after is
