use Rattle.std.proofs.Common.{ap}
use Rattle.kr_timeline.proofs.Puts.{remove-none}
use Rattle.kr_timeline.proofs.Histories.{maps_counted}
use Rattle.kr_timeline.proofs.timeline.Timeline.count_call.Goals as goal

pub returns-clause-maps : goal.returns-clause-maps
returns-clause-maps g c = maps_counted g.K.Ord.cmp c.self.inside.chains.entries c.self.inside.kept.items c.self.inside.number c.self.inside.made _ c.args.key.now c.args.self.now.maps (ap (λ h. h.maps) c.self.view_is) (remove-none _ c.args.self.now.maps.present c.requires) c.saturating_add-self-inside.ensures
