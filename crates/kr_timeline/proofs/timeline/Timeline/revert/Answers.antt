use Rattle.std.proofs.Common.{◌≡◌, ◌+◌, ap, arith, length, refl, w64}
use Rattle.std.proofs.lemmas.Int.{to_z-of_z}
use Rattle.kr_timeline.specs.declared.chain.Trim.TheVariants as trims
use Rattle.kr_timeline.proofs.Trims.{falls_all}
use Rattle.kr_timeline.proofs.Reverts.{timeline_reverted, maps_reverted, least_reverted, bound_reverted, number_here}
use Rattle.kr_timeline.proofs.Histories.{at_found, at_none}
use Rattle.kr_timeline.proofs.timeline.Timeline.revert.Goals as goal

pub invariant_of-self : goal.invariant_of-self
invariant_of-self g c =
    let at = c.in-Some.ensures.found in
    let len : length c.drop_after.new.kept.items ≡ c.in-Some.place + 1 = omega (arith, c.drop_after.ensures.left, c.drop_after.new.kept.ok) in
    timeline_reverted g.met.K.Ord.total c.self.inside.chains.entries c.trim_keys.new.chains.entries c.drop_after.new.chains.entries c.self.inside.kept.items c.drop_after.new.kept.items c.self.inside.number c.self.inside.keys.items c.self.inside.made _ c.in-Some.place c.number_at-number.result at
    c.len.ensures.ordered (number_here _ _ _ _ at c.number_at-number.ensures) c.trim_keys.ensures.trimmed c.drop_after.ensures.drops len c.self.invariant c.clear.new.self.items c.clear.ensures.items

pub drop_after-requires-clause-falls : goal.drop_after-requires-clause-falls
drop_after-requires-clause-falls g c = rw c.trim_keys.ensures.trimmed (falls_all g.K.Ord.cmp trims.Above c.number_at-number.result c.self.inside.keys.items c.self.inside.chains.entries c.self.invariant.falls)

pub returns-in-Some-clause-ok : goal.returns-in-Some-clause-ok
returns-in-Some-clause-ok g c =
    let at = rw (to_z-of_z w64 c.args.epoch c.ranges.epoch) at c.in-Some.ensures.found in
    let len : length c.drop_after.new.kept.items ≡ c.in-Some.place + 1 = omega (arith, c.drop_after.ensures.left, c.drop_after.new.kept.ok) in
    maps_reverted g.met.K.Ord.total c.self.inside.chains.entries c.trim_keys.new.chains.entries c.drop_after.new.chains.entries c.self.inside.kept.items c.drop_after.new.kept.items c.self.inside.number c.self.inside.keys.items c.self.inside.made c.args.epoch c.in-Some.place c.number_at-number.result at
    c.len.ensures.ordered (number_here _ _ _ _ at c.number_at-number.ensures) c.trim_keys.ensures.trimmed c.drop_after.ensures.drops len c.self.invariant c.args.self.now.maps (ap (λ h. h.maps) c.self.view_is)

pub returns-in-Some-clause-no_epoch : goal.returns-in-Some-clause-no_epoch
returns-in-Some-clause-no_epoch g c =
    let at = rw (to_z-of_z w64 c.args.epoch c.ranges.epoch) at c.in-Some.ensures.found in
    let found = at_found c.self.inside.chains.entries c.self.inside.kept.items c.self.inside.number c.self.inside.made c.args.epoch at.here c.args.self.now.maps (ap (λ h. h.maps) c.self.view_is) at.found in
    (λ h. cc, λ h. cc)

pub returns-in-Some-clause-least : goal.returns-in-Some-clause-least
returns-in-Some-clause-least g c =
    let at = rw (to_z-of_z w64 c.args.epoch c.ranges.epoch) at c.in-Some.ensures.found in
    let len : length c.drop_after.new.kept.items ≡ c.in-Some.place + 1 = omega (arith, c.drop_after.ensures.left, c.drop_after.new.kept.ok) in
    least_reverted g.met.K.Ord.total c.self.inside.chains.entries c.trim_keys.new.chains.entries c.drop_after.new.chains.entries c.self.inside.kept.items c.drop_after.new.kept.items c.self.inside.number c.self.inside.keys.items c.self.inside.made c.args.epoch c.in-Some.place c.number_at-number.result at
    c.len.ensures.ordered (number_here _ _ _ _ at c.number_at-number.ensures) c.trim_keys.ensures.trimmed c.drop_after.ensures.drops len c.self.invariant c.args.self.now.maps (ap (λ h. h.maps) c.self.view_is)
    c.args.steps.now c.tick.new.self c.trim_keys.new.steps c.drop_after.new.steps c.tick.ensures c.trim_keys.ensures.counted c.drop_after.ensures.counted

pub returns-in-Some-clause-bound : goal.returns-in-Some-clause-bound
returns-in-Some-clause-bound g c =
    let at = rw (to_z-of_z w64 c.args.epoch c.ranges.epoch) at c.in-Some.ensures.found in
    let len : length c.drop_after.new.kept.items ≡ c.in-Some.place + 1 = omega (arith, c.drop_after.ensures.left, c.drop_after.new.kept.ok) in
    bound_reverted g.met.K.Ord.total c.self.inside.chains.entries c.trim_keys.new.chains.entries c.drop_after.new.chains.entries c.self.inside.kept.items c.drop_after.new.kept.items c.self.inside.number c.self.inside.keys.items c.self.inside.made c.args.epoch c.in-Some.place c.number_at-number.result at
    c.len.ensures.ordered (number_here _ _ _ _ at c.number_at-number.ensures) c.trim_keys.ensures.trimmed c.drop_after.ensures.drops len c.self.invariant c.args.self.now.maps (ap (λ h. h.maps) c.self.view_is)
    c.args.steps.now c.tick.new.self c.trim_keys.new.steps c.drop_after.new.steps c.tick.ensures c.trim_keys.ensures.counted c.drop_after.ensures.counted

pub returns-in-None-clause-no_epoch : goal.returns-in-None-clause-no_epoch
returns-in-None-clause-no_epoch g c =
    let none = at_none c.self.inside.chains.entries c.self.inside.kept.items c.self.inside.number c.self.inside.made c.args.epoch c.args.self.now.maps (ap (λ h. h.maps) c.self.view_is) (rw (to_z-of_z w64 c.args.epoch c.ranges.epoch) at (c.in-None.ensures.none refl)) in
    (λ h. none, λ h. refl)
