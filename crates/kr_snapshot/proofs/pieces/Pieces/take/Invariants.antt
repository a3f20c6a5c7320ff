use Rattle.std.proofs.Common.{◌≡◌, length}
use Rattle.kr_snapshot.specs.ReaderState.{IsWaiting, taken_in}
use Rattle.kr_snapshot.specs.Reading.{goes_on}
use Rattle.kr_snapshot.proofs.pieces.Pieces.take.Given as goal

abbrev pub invariant-loop-rest : goal.invariant-loop-rest
invariant-loop-rest l = record {
  waiting : IsWaiting l.self;
  read : goes_on (taken_in l.self) l.rest ≡ goes_on (taken_in l.fn.self) l.piece;
}

abbrev pub decreases-loop-rest : goal.decreases-loop-rest
decreases-loop-rest l = length l.rest
