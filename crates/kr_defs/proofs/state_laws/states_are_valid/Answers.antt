use Rattle.kr_defs.proofs.StateLogs.{valid_state_at}
use Rattle.kr_defs.proofs.state_laws.states_are_valid.Goals as goal

pub returns : goal.returns
returns c log place state v is = valid_state_at log place v state is
