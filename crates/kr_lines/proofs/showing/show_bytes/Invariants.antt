use Rattle.std.proofs.Common.{length, take, ◌-◌}
use Rattle.kr_lines.specs.inner.Steps.{SoFar}
use Rattle.kr_lines.proofs.showing.show_bytes.Given as goal

abbrev pub invariant-loop-at : goal.invariant-loop-at
invariant-loop-at l = SoFar (take l.start l.bytes) l.bytes l.at l.text.items

abbrev pub decreases-loop-at : goal.decreases-loop-at
decreases-loop-at l = length l.bytes - l.at
