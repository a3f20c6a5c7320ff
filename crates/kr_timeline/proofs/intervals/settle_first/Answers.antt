use Rattle.std.proofs.Common.{refl, arith, ap, ◌∙◌, length}
use Rattle.kr_timeline.specs.Intervals.{touches}
use Rattle.kr_timeline.proofs.Drops.{touches_first}
use Rattle.kr_timeline.proofs.intervals.settle_first.Goals as goal

pub returns-in-Some-clause-first : goal.returns-in-Some-clause-first
returns-in-Some-clause-first g c = rw c.in-Some.ensures.items (record { epoch = c.in-Some.oldest.epoch; number = c.in-Some.oldest.number; keys = c.new.result; made = 0 }, c.push_front_reserved.ensures.items, record { epoch = refl; number = refl; keys = c.new.ensures.items; made = refl }, c.trim_keys.ensures.trimmed)

pub returns-in-Some-clause-counted : goal.returns-in-Some-clause-counted
returns-in-Some-clause-counted g c = omega (arith, ap touches c.in-Some.ensures.items ∙ touches_first c.in-Some.oldest c.pop_front.new.self.items, ap touches c.push_front_reserved.ensures.items ∙ touches_first (record { epoch = c.in-Some.oldest.epoch; number = c.in-Some.oldest.number; keys = c.new.result; made = 0 }) c.pop_front.new.self.items, ap length c.new.ensures.items, c.trim_keys.ensures.counted)
