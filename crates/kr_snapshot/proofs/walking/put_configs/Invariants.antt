use Rattle.std.proofs.Common.{length}
use Rattle.std.specs.Prelude.{map}
use Rattle.std.specs.Option.{option_copied}
use Rattle.kr_defs.specs.Map.{above, config_order}
use Rattle.kr_snapshot.specs.inner.EntryRecords.{config_record}
use Rattle.kr_snapshot.specs.inner.Writer.{IsAmid}
use Rattle.kr_snapshot.proofs.walking.put_configs.Given as goal

abbrev pub invariant-loop-key : goal.invariant-loop-key
invariant-loop-key g l =
    let all = l.seen.configs in
    IsAmid l.fn.writer l.writer (map config_record all) (map config_record (above config_order all (option_copied l.after)))

abbrev pub decreases-loop-key : goal.decreases-loop-key
decreases-loop-key g l = length (above config_order l.seen.configs (option_copied l.after))
