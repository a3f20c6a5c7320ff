use Rattle.std.proofs.Common.{◌≡◌, ◌<◌, ◌≤◌, ◌∙◌, length, sym, ap, arith}
use Rattle.kr_place.proofs.Walks.{visited-none, visited-more, room-left, enough}
use Rattle.kr_place.proofs.racks.walk.Goals as goal

pub loop-k-init : goal.loop-k-init
loop-k-init c = record {
  chosen = c.new-chosen.ensures ∙ sym (visited-none c.args.racks.now c.args.start);
  short = omega (arith, ap length c.new-chosen.ensures);
}

pub returns-then-len-factor : goal.returns-then-len-factor
returns-then-len-factor c =
    let full : length c.loop-k.chosen ≡ c.args.factor = omega arith in
    let before : c.loop-k.k ≤ c.args.visits = omega arith in
    enough c.args.racks.now c.args.start c.loop-k.k c.args.visits c.args.factor c.loop-k.chosen c.loop-k.invariant.chosen before full

pub loop-k-preserved : goal.loop-k-preserved
loop-k-preserved c =
    let room : length c.loop-k.chosen < c.args.factor = omega arith in
    record {
      chosen = visited-more c.args.racks.now c.args.start c.loop-k.k c.loop-k.chosen _ c.loop-k.invariant.chosen c.in_ok-take_visit.ensures;
      short = room-left _ c.loop-k.chosen _ c.args.factor room c.in_ok-take_visit.ensures;
    }
