use Rattle.std.proofs.Common.{length}
use Rattle.test_requests.proofs.hearing.+are_stopping.Given as goal

abbrev pub decreases-are_stopping : goal.decreases-are_stopping
decreases-are_stopping l = length l.stops.now
