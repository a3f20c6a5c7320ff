use Rattle.std.proofs.Common.{[]}
use Rattle.kr_model.specs.Engine.{IsEngine, IsSound}
use Rattle.kr_model.specs.World.{start}
use Rattle.kr_model.proofs.SoundEngines.{opened_sound}
use Rattle.kr_engine.proofs.NewEngines.{all_opened, opened_stands}
use Rattle.kr_engine.proofs.engine.Engine.new.Goals as goal

-- src/engine.rt:84:5
pub returns-clause-stands : goal.returns-clause-stands
returns-clause-stands c = all_opened (λ e. IsEngine e start []) c.args.options (opened_stands c.args.options) c.open.result c.open.ensures

pub returns-clause-sound : goal.returns-clause-sound
returns-clause-sound c = all_opened IsSound c.args.options (λ e is. opened_sound e (opened_stands c.args.options e is)) c.open.result c.open.ensures
