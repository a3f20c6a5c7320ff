use Rattle.std.proofs.Common.{◌<◌, ◌^◌, ◌-◌, length}
use Rattle.kr_calls.specs.SeatList.{image_below}
use Rattle.kr_defs.specs.Records.{records_of}
use Rattle.kr_shared.proofs.ImageWalks.{HasWalked}
use Rattle.kr_shared.proofs.image_walk.Walk.count.Given as goal

abbrev pub invariant-loop-page : goal.invariant-loop-page
invariant-loop-page l = record {
  walked : HasWalked l.fn.self l.fn.seat l.seat l.self l.count;
  small : l.count < 2 ^ 63;
}

abbrev pub decreases-loop-page : goal.decreases-loop-page
decreases-loop-page l = length (records_of (image_below l.fn.self.place l.fn.seat.seen.list)) - l.count
