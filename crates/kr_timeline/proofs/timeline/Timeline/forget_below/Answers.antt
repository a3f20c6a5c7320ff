use Rattle.std.proofs.Common.{ap, w64}
use Rattle.std.proofs.lemmas.Int.{to_z-of_z}
use Rattle.kr_timeline.proofs.Forgets.{timeline_forgotten, maps_forgotten, least_forgotten, bound_forgotten}
use Rattle.kr_timeline.proofs.timeline.Timeline.forget_below.Goals as goal

pub invariant_of-self : goal.invariant_of-self
invariant_of-self g c = timeline_forgotten g.met.K.Ord.total c.self.inside.chains.entries c.drop_below.new.chains.entries c.settle_first.new.chains.entries _ c.self.inside.kept.items c.drop_below.new.kept.items c.settle_first.new.kept.items c.self.inside.number c.self.inside.keys.items c.self.inside.made
    c.len.ensures.ordered c.drop_below.ensures.forgets c.drop_below.ensures.first c.settle_first.ensures.first c.self.invariant

pub returns-clause-maps : goal.returns-clause-maps
returns-clause-maps g c = maps_forgotten g.met.K.Ord.total c.self.inside.chains.entries c.drop_below.new.chains.entries c.settle_first.new.chains.entries c.args.epoch c.self.inside.kept.items c.drop_below.new.kept.items c.settle_first.new.kept.items c.self.inside.number c.self.inside.keys.items c.self.inside.made
    c.len.ensures.ordered (rw (to_z-of_z w64 c.args.epoch c.ranges.epoch) at c.drop_below.ensures.forgets) (rw (to_z-of_z w64 c.args.epoch c.ranges.epoch) at c.drop_below.ensures.first) c.settle_first.ensures.first c.self.invariant c.args.self.now.maps (ap (λ h. h.maps) c.self.view_is)

pub returns-clause-least : goal.returns-clause-least
returns-clause-least g c = least_forgotten g.met.K.Ord.total c.self.inside.chains.entries c.drop_below.new.chains.entries c.settle_first.new.chains.entries c.args.epoch c.self.inside.kept.items c.drop_below.new.kept.items c.settle_first.new.kept.items c.self.inside.number c.self.inside.keys.items c.self.inside.made
    c.len.ensures.ordered (rw (to_z-of_z w64 c.args.epoch c.ranges.epoch) at c.drop_below.ensures.forgets) (rw (to_z-of_z w64 c.args.epoch c.ranges.epoch) at c.drop_below.ensures.first) c.settle_first.ensures.first c.self.invariant c.args.self.now.maps (ap (λ h. h.maps) c.self.view_is)
    c.args.steps.now c.tick.new.self c.drop_below.new.steps c.settle_first.new.steps c.tick.ensures c.drop_below.ensures.counted c.settle_first.ensures.counted

pub returns-clause-bound : goal.returns-clause-bound
returns-clause-bound g c = bound_forgotten g.met.K.Ord.total c.self.inside.chains.entries c.drop_below.new.chains.entries c.settle_first.new.chains.entries c.args.epoch c.self.inside.kept.items c.drop_below.new.kept.items c.settle_first.new.kept.items c.self.inside.number c.self.inside.keys.items c.self.inside.made
    c.len.ensures.ordered (rw (to_z-of_z w64 c.args.epoch c.ranges.epoch) at c.drop_below.ensures.forgets) (rw (to_z-of_z w64 c.args.epoch c.ranges.epoch) at c.drop_below.ensures.first) c.settle_first.ensures.first c.self.invariant c.args.self.now.maps (ap (λ h. h.maps) c.self.view_is)
    c.args.steps.now c.tick.new.self c.drop_below.new.steps c.settle_first.new.steps c.tick.ensures c.drop_below.ensures.counted c.settle_first.ensures.counted
