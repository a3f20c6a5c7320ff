use Rattle.kr_defs.proofs.StateLogs.{kept_at_place}
use Rattle.kr_defs.proofs.state_laws.apply_keeps_states_valid.Goals as goal

pub returns : goal.returns
returns c state after place item v is = kept_at_place state place item v after is
