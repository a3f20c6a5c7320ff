use Rattle.kr_calls.specs.declared.events.Event.TheVariants as events
use Rattle.kr_engine.proofs.BatchSteps.{batch_step}
use Rattle.kr_engine.proofs.Undoing.{settled_then, sound_then, unchanged}
use Rattle.kr_engine.proofs.engine.Engine.batch.Goals as goal

pub returns-clause-step : goal.returns-clause-step
returns-clause-step g c =
    settled_then c.end.result c.settle_batch-settled.result c.settle_batch-settled.new.self c.undo_images.new.self c.end.new.self c.end.ensures.same c.settle_batch-settled.ensures.settled c.undo_images.ensures.ok c.end.ensures.ok
    (batch_step c.args.self.now c.begin-found.new.self c.settle_batch-settled.new.self c.end.new.self c.args.bytes.now c.requires.drained c.begin-found.ensures.begun)

pub returns-clause-unchanged : goal.returns-clause-unchanged
returns-clause-unchanged g c =
    unchanged c.args.self.now c.begin-found.new.self c.settle_batch-settled.new.self c.undo_images.new.self _ c.begin-found.ensures.begun c.requires.drained c.look_over.ensures.ready c.look_over.ensures.valid
    c.begin-found.result.tip c.begin-found.ensures.tip c.end.result c.settle_batch-settled.result c.end.new.self c.begin-found.result.time c.begin-found.result.fresh.items c.end.ensures.same
    c.settle_batch-settled.ensures.broken c.undo_images.ensures.err c.end.ensures.err c.begin-found.ensures.time c.begin-found.ensures.fresh

pub returns-clause-sound : goal.returns-clause-sound
returns-clause-sound g c = sound_then c.end.result c.args.self.now c.end.new.self (events.Batch c.args.bytes.now) c.requires.sound (returns-clause-step g c) (returns-clause-unchanged g c)
