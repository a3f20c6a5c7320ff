use Rattle.std.proofs.Common.{subst, sym, w32, w64}
use Rattle.std.proofs.lemmas.Int.{to_z-of_z}
use Rattle.kr_calls.specs.declared.events.Event.TheVariants as events
use Rattle.kr_model.specs.Engine.{Core, IsSound, IsStep}
use Rattle.kr_engine.proofs.CommitSteps.{commit_sound, commit_step, commit_within}
use Rattle.kr_engine.proofs.engine.Engine.commit.Goals as goal

pub returns-clause-step : goal.returns-clause-step
returns-clause-step g c =
    subst (λ (a : Core). IsStep c.args.self.now a (events.Commit c.args.epoch c.args.end)) (sym (rw (to_z-of_z w32 c.args.epoch c.ranges.epoch, to_z-of_z w64 c.args.end c.ranges.end) at c.take_commit.ensures.taken))
    (commit_step c.args.self.now c.args.epoch c.args.end c.requires.drained)

pub returns-clause-sound : goal.returns-clause-sound
returns-clause-sound g c =
    subst (λ (a : Core). IsSound a) (sym (rw (to_z-of_z w32 c.args.epoch c.ranges.epoch, to_z-of_z w64 c.args.end c.ranges.end) at c.take_commit.ensures.taken))
    (commit_sound c.args.self.now c.args.epoch c.args.end c.requires.drained c.requires.sound)

pub returns-clause-bound : goal.returns-clause-bound
returns-clause-bound g c =
    commit_within c.args.self.now c.args.epoch c.args.end c.args.steps.now c.take_commit.new.steps
    (rw (to_z-of_z w32 c.args.epoch c.ranges.epoch, to_z-of_z w64 c.args.end c.ranges.end) at c.take_commit.ensures.bound)
