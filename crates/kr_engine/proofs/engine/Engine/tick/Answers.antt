use Rattle.kr_calls.specs.declared.events.Event.TheVariants as events
use Rattle.kr_engine.proofs.Fencings.{noted_step, ticked}
use Rattle.kr_engine.proofs.Undoing.{settled_then, sound_then, unchanged}
use Rattle.kr_engine.proofs.engine.Engine.tick.Goals as goal

pub returns-clause-step : goal.returns-clause-step
returns-clause-step g c =
    settled_then c.end.result c.settle_tick-settled.result c.settle_tick-settled.new.self c.undo_images.new.self c.end.new.self c.end.ensures.same c.settle_tick-settled.ensures.settled c.undo_images.ensures.ok c.end.ensures.ok
    (noted_step c.args.self.now c.begin_at-found.new.self c.settle_tick-settled.new.self c.end.new.self c.args.now.now c.begin_at-found.ensures.begun c.requires.drained
    c.look_over.ensures.valid c.look_at_contacts.ensures)

pub returns-clause-unchanged : goal.returns-clause-unchanged
returns-clause-unchanged g c =
    unchanged c.args.self.now c.begin_at-found.new.self c.settle_tick-settled.new.self c.undo_images.new.self _ c.begin_at-found.ensures.begun c.requires.drained c.look_over.ensures.ready c.look_over.ensures.valid
    c.begin_at-found.result.tip c.begin_at-found.ensures.tip c.end.result c.settle_tick-settled.result c.end.new.self c.begin_at-found.result.time c.begin_at-found.result.fresh.items c.end.ensures.same
    c.settle_tick-settled.ensures.broken c.undo_images.ensures.err c.end.ensures.err c.begin_at-found.ensures.time c.begin_at-found.ensures.fresh

pub returns-clause-sound : goal.returns-clause-sound
returns-clause-sound g c = sound_then c.end.result c.args.self.now c.end.new.self (events.Tick c.args.now.now) c.requires.sound (returns-clause-step g c) (returns-clause-unchanged g c)

pub returns-clause-bound : goal.returns-clause-bound
returns-clause-bound g c =
    ticked c.end.result c.settle_tick-settled.result c.args.self.now c.begin_at-found.new.self c.settle_tick-settled.new.self c.undo_images.new.self c.end.new.self c.args.now.now c.args.steps.now c.settle_tick-settled.new.steps c.undo_images.new.steps
    c.end.ensures.same c.begin_at-found.ensures.begun c.settle_tick-settled.ensures.bound c.undo_images.ensures.ok c.undo_images.ensures.still c.end.ensures.ok
