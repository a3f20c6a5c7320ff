use Rattle.std.proofs.Common.{◌≡◌, ◌∙◌, ap, sym, refl, w64, Some, None}
use Rattle.std.proofs.lemmas.Int.{to_z-of_z}
use Rattle.kr_defs.specs.KeptMaps.{map_at}
use Rattle.kr_timeline.specs.Chains.{map_of}
use Rattle.kr_timeline.proofs.Reverts.{number_here}
use Rattle.kr_timeline.proofs.Histories.{at_found, at_none}
use Rattle.kr_timeline.proofs.timeline.Timeline.get_at.Goals as goal

pub returns-in-Some : goal.returns-in-Some
returns-in-Some g c =
    let at = rw (to_z-of_z w64 c.args.epoch c.ranges.epoch) at c.in-Some.ensures.found in
    let found : map_at c.args.self.now.maps c.args.epoch ≡ Some (map_of c.number_at.result c.self.inside.chains.entries) = at_found c.self.inside.chains.entries c.self.inside.kept.items c.self.inside.number c.self.inside.made c.args.epoch at.here c.args.self.now.maps (ap (λ h. h.maps) c.self.view_is) at.found
    ∙ ap (λ i. Some (map_of i c.self.inside.chains.entries)) (sym (number_here _ _ _ _ at c.number_at.ensures)) in
    rw found c.get.ensures.value

pub returns-in-None : goal.returns-in-None
returns-in-None g c =
    let none : map_at c.args.self.now.maps c.args.epoch ≡ None = at_none c.self.inside.chains.entries c.self.inside.kept.items c.self.inside.number c.self.inside.made c.args.epoch c.args.self.now.maps (ap (λ h. h.maps) c.self.view_is) (rw (to_z-of_z w64 c.args.epoch c.ranges.epoch) at (c.in-None.ensures.none refl)) in
    rw none refl
