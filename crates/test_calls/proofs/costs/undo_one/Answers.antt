use Rattle.std.proofs.Common.{pos}
use Rattle.test_calls.proofs.FilledMaps.{found_one, is_ok, two_steps}
use Rattle.test_calls.proofs.costs.undo_one.Goals as goal

pub unwrap-requires : goal.unwrap-requires
unwrap-requires g c = is_ok c.revert.result _ c.revert.ensures.no_epoch (found_one c.args.timeline.now.maps c.insert.new.self.maps 7 (pos 2) c.requires c.in_ok-insert.ensures.ok)

pub returns-clause-cost : goal.returns-clause-cost
returns-clause-cost g c = two_steps c.args.timeline.now.maps c.insert.new.self.maps 7 (pos 2) c.requires c.in_ok-insert.ensures.ok c.args.steps.now c.revert.new.steps c.revert.ensures.bound
