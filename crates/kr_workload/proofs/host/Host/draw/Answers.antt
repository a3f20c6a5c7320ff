use Rattle.std.proofs.Common.{refl}
use Rattle.kr_workload.proofs.Goings.{draws}
use Rattle.kr_workload.proofs.host.Host.draw.Goals as goal

pub returns-clause-goes : goal.returns-clause-goes
returns-clause-goes c = draws _ _ _ c.requires.ready c.draw_round-chances.ensures.chances refl
