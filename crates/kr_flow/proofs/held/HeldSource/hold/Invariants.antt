-- What is left to be read is what was.
use Rattle.std.proofs.Common.{◌≡◌, drop}
use Rattle.std.specs.Io.KnownBytes.{Keeps, prepend_known}
use Rattle.kr_flow.proofs.held.HeldSource.hold.Given as goal

abbrev pub invariant-loop : goal.invariant-loop
invariant-loop g l = record {
  left : Keeps (prepend_known (drop l.fn.self.at l.fn.self.held.items) (g.S.Source.left l.fn.self.inner)) (prepend_known (drop l.self.at l.self.held.items) (g.S.Source.left l.self.inner));
  faults : l.self.faults ≡ l.fn.self.faults;
}
