use Rattle.kr_defs.proofs.Logs.{valid_at}
use Rattle.kr_defs.proofs.laws.logs_are_valid.Goals as goal

pub returns : goal.returns
returns c log place image v is = valid_at log place v image is
