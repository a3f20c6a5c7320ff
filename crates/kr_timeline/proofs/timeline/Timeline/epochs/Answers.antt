use Rattle.std.proofs.Common.{ap, subst, All}
use Rattle.kr_defs.specs.KeptMaps.{AreRising}
use Rattle.kr_defs.specs.Map as entries
use Rattle.kr_timeline.proofs.Standing.{IsMap-map_of}
use Rattle.kr_timeline.proofs.Histories.{rising-kept, all_maps}
use Rattle.kr_timeline.proofs.timeline.Timeline.epochs.Goals as goal

pub returns-clause-rising : goal.returns-clause-rising
returns-clause-rising g c = subst AreRising (ap (λ h. h.maps.kept) c.self.view_is) (rising-kept c.self.inside.chains.entries c.self.inside.kept.items c.self.invariant.epochs)

pub returns-clause-kept : goal.returns-clause-kept
returns-clause-kept g c = subst (λ ks. All (λ k. entries.IsMap g.K.Ord.cmp k.map) ks) (ap (λ h. h.maps.kept) c.self.view_is) (all_maps g.K.Ord.cmp c.self.inside.chains.entries c.self.inside.kept.items c.len.ensures.ordered)

pub returns-clause-present : goal.returns-clause-present
returns-clause-present g c = subst (entries.IsMap g.K.Ord.cmp) (ap (λ h. h.maps.present) c.self.view_is) (IsMap-map_of g.K.Ord.cmp c.self.inside.number c.self.inside.chains.entries c.len.ensures.ordered)
