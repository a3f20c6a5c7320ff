use Rattle.kr_calls.specs.declared.events.Event.TheVariants as events
use Rattle.kr_engine.proofs.ImageSteps.{image_so}
use Rattle.kr_engine.proofs.Undoing.{settled_alone, sound_then, unchanged_alone}
use Rattle.kr_engine.proofs.engine.Engine.image.Goals as goal

pub returns-clause-step : goal.returns-clause-step
returns-clause-step c =
    settled_alone c.end.result c.settle_image-settled.result c.settle_image-settled.new.self c.end.new.self c.end.ensures.same c.settle_image-settled.ensures.settled c.end.ensures.ok
    (image_so c.args.self.now c.begin-found.new.self c.settle_image-settled.new.self c.end.new.self c.requires.drained c.begin-found.ensures.begun)

pub returns-clause-unchanged : goal.returns-clause-unchanged
returns-clause-unchanged c =
    unchanged_alone c.args.self.now c.begin-found.new.self c.settle_image-settled.new.self _ c.begin-found.ensures.begun c.requires.drained c.end.result c.settle_image-settled.result c.end.new.self c.begin-found.result.time c.begin-found.result.fresh.items
    c.end.ensures.same c.settle_image-settled.ensures.begun c.end.ensures.err c.begin-found.ensures.time c.begin-found.ensures.fresh

pub returns-clause-sound : goal.returns-clause-sound
returns-clause-sound c = sound_then c.end.result c.args.self.now c.end.new.self events.Image c.requires.sound (returns-clause-step c) (returns-clause-unchanged c)
