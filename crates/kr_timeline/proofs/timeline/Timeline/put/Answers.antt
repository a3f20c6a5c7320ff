use Rattle.std.proofs.Common.{ap, arith}
use Rattle.kr_timeline.proofs.Histories.{listed_length, timeline_written, maps_written}
use Rattle.kr_timeline.proofs.timeline.Timeline.put.Goals as goal

pub invariant_of-self-2 : goal.invariant_of-self-2
invariant_of-self-2 g c = timeline_written g.met.K.Ord.total g.met.K.Key.exact c.self.inside.chains.entries c.write_listed.new.chains.entries c.self.inside.kept.items c.self.inside.number c.args.key c.args.value c.self.inside.keys.items c.write_listed.new.keys.items c.self.inside.made _ c.len.ensures.ordered c.in_ok-write_listed.ensures.ok
    (omega (arith, listed_length g.K.Ord.cmp c.self.inside.number c.args.key c.args.value c.self.inside.chains.entries c.write_listed.new.chains.entries c.self.inside.keys.items c.write_listed.new.keys.items c.in_ok-write_listed.ensures.ok, c.self.invariant.counted_now, c.saturating_add-self-inside.ensures, c.write_listed.new.keys.ok, c.write_listed.new.keys.small)) c.self.invariant

pub returns-clause-ok : goal.returns-clause-ok
returns-clause-ok g c = maps_written g.met.K.Ord.total g.met.K.Key.exact c.self.inside.chains.entries c.write_listed.new.chains.entries c.self.inside.kept.items c.self.inside.number c.args.key c.args.value c.self.inside.keys.items c.write_listed.new.keys.items c.self.inside.made _ c.args.self.now.maps c.len.ensures.ordered (ap (λ h. h.maps) c.self.view_is)
    c.in_ok-write_listed.ensures.ok c.self.invariant.numbers c.saturating_add-self-inside.ensures
