use Rattle.std.proofs.Common.{w64, to_z, of_z}
use Rattle.kr_shared.proofs.KeptImages.{image_valid, place_natural}
use Rattle.kr_shared.proofs.image_walk.Walk.begin.Goals as goal

pub returns-clause-over : goal.returns-clause-over
returns-clause-over c =
    let list = c.records.new.self.seen.list in
    let place = to_z w64 (of_z w64 c.args.place) in
    let found = c.in_ok-records.ensures.records.0 in
    record {
      loads = c.loads.ensures;
      kept = found;
      natural = place_natural place list found;
      valid = image_valid c.empty_is_valid.ensures place list;
    }
