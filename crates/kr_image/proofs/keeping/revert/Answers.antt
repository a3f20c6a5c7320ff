use Rattle.std.proofs.Common.{◌≡◌, rules, w64, to_z, of_z}
use Rattle.kr_image.proofs.keeping.revert.Goals as goal

pub returns-clause-bound : goal.returns-clause-bound
returns-clause-bound g c = let same : to_z w64 (of_z w64 c.args.epoch.now) ≡ c.args.epoch.now = search rules in rw same at c.revert.ensures.bound
