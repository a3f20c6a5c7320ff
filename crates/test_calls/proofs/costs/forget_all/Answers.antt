use Rattle.std.proofs.Common.{pos}
use Rattle.test_calls.proofs.FilledMaps.{above_two, thousand_steps}
use Rattle.test_calls.proofs.costs.forget_all.Goals as goal

pub mark-requires : goal.mark-requires
mark-requires g c = above_two c.args.timeline.now.maps c.insert.new.self.maps 7 (pos 3) c.requires c.in_ok-insert.ensures.ok

pub returns : goal.returns
returns g c = record {
  cost = thousand_steps c.args.timeline.now.maps c.insert.new.self.maps 7 (pos 3) c.requires c.in_ok-insert.ensures.ok c.mark.new.self.maps c.args.steps.now c.forget_below.new.steps c.in_ok-mark.ensures.ok c.forget_below.ensures.bound;
}
