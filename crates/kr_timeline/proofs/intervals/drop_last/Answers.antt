use Rattle.std.proofs.Common.{◌∷◌, [], arith, ap, ◌∙◌}
use Rattle.kr_timeline.specs.Intervals.{touches}
use Rattle.kr_timeline.proofs.Drops.{touches_last}
use Rattle.kr_timeline.proofs.intervals.drop_last.Goals as goal

pub returns-in-Some-clause-drops : goal.returns-in-Some-clause-drops
returns-in-Some-clause-drops g c = record { dropped = c.in-Some.interval ∷ []; is = c.in-Some.ensures.items; chains = c.trim_keys.ensures.trimmed }

pub returns-in-Some-clause-counted : goal.returns-in-Some-clause-counted
returns-in-Some-clause-counted g c = omega (arith, ap touches c.in-Some.ensures.items ∙ touches_last c.pop_back.new.self.items c.in-Some.interval, c.trim_keys.ensures.counted)
