use Rattle.kr_engine.proofs.ReadyEngines.{ready}
use Rattle.kr_engine.proofs.engine.Engine.look_over.Goals as goal

pub returns-clause-ready : goal.returns-clause-ready
returns-clause-ready c = ready c.args.self.now c.requires.sound c.look_at_images.ensures
