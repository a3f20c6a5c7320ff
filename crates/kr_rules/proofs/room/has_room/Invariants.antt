use Rattle.std.proofs.Common.{◌≡◌, drop, true}
use Rattle.std.specs.List.{list_all}
use Rattle.kr_calls.specs.Deciding.{apply_records}
use Rattle.kr_rules.specs.Room.{takes_room}
use Rattle.kr_rules.proofs.FullImages.{IsAsFar}
use Rattle.kr_rules.proofs.room.has_room.Given as goal

abbrev pub invariant-loop-value : goal.invariant-loop-value
invariant-loop-value g l =
    let image = l.seen in
    let rest = drop l.value-index l.records in
    record {
      plain : list_all takes_room rest ≡ true;
      far : IsAsFar image.configs (apply_records image l.records) rest l.filling;
    }
