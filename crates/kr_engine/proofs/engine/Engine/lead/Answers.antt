use Rattle.kr_calls.specs.declared.events.Event.TheVariants as events
use Rattle.kr_engine.proofs.LeadSteps.{lead_so}
use Rattle.kr_engine.proofs.Undoing.{settled_then, sound_then, unchanged}
use Rattle.kr_engine.proofs.engine.Engine.lead.Goals as goal

pub returns-clause-step : goal.returns-clause-step
returns-clause-step g c =
    settled_then c.end.result c.settle_lead-settled.result c.settle_lead-settled.new.self c.undo_images.new.self c.end.new.self c.end.ensures.same c.settle_lead-settled.ensures.settled c.undo_images.ensures.ok c.end.ensures.ok
    (lead_so c.args.self.now c.begin_at-found.new.self c.settle_lead-settled.new.self c.end.new.self c.args.epoch.now c.args.next.now c.args.now.now c.requires.drained c.look_over.ensures.valid c.begin_at-found.ensures.begun)

pub returns-clause-unchanged : goal.returns-clause-unchanged
returns-clause-unchanged g c =
    unchanged c.args.self.now c.begin_at-found.new.self c.settle_lead-settled.new.self c.undo_images.new.self _ c.begin_at-found.ensures.begun c.requires.drained c.look_over.ensures.ready c.look_over.ensures.valid
    c.begin_at-found.result.tip c.begin_at-found.ensures.tip c.end.result c.settle_lead-settled.result c.end.new.self c.begin_at-found.result.time c.begin_at-found.result.fresh.items c.end.ensures.same
    c.settle_lead-settled.ensures.broken c.undo_images.ensures.err c.end.ensures.err c.begin_at-found.ensures.time c.begin_at-found.ensures.fresh

pub returns-clause-sound : goal.returns-clause-sound
returns-clause-sound g c =
    sound_then c.end.result c.args.self.now c.end.new.self (events.Lead c.args.epoch.now c.args.next.now c.args.now.now) c.requires.sound (returns-clause-step g c) (returns-clause-unchanged g c)
