use Rattle.std.proofs.Common.{arith, ap, ◌∙◌, refl}
use Rattle.kr_timeline.specs.Intervals.{touches}
use Rattle.kr_timeline.proofs.Drops.{touches_first}
use Rattle.kr_timeline.proofs.intervals.drop_first.Goals as goal

pub returns-in-Some-clause-first : goal.returns-in-Some-clause-first
returns-in-Some-clause-first g c = rw c.in-Some.ensures.items (refl, c.trim_keys.ensures.trimmed)

pub returns-in-Some-clause-counted : goal.returns-in-Some-clause-counted
returns-in-Some-clause-counted g c = omega (arith, ap touches c.in-Some.ensures.items ∙ touches_first c.in-Some.interval c.pop_front.new.self.items, c.trim_keys.ensures.counted)
