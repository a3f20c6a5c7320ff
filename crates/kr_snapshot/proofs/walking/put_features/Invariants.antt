use Rattle.std.proofs.Common.{length}
use Rattle.std.specs.Prelude.{map}
use Rattle.std.specs.Option.{option_copied}
use Rattle.kr_defs.specs.Map.{above, text_order}
use Rattle.kr_snapshot.specs.inner.EntryRecords.{feature_record}
use Rattle.kr_snapshot.specs.inner.Writer.{IsAmid}
use Rattle.kr_snapshot.proofs.walking.put_features.Given as goal

abbrev pub invariant-loop-name : goal.invariant-loop-name
invariant-loop-name g l =
    let all = l.seen.features in
    IsAmid l.fn.writer l.writer (map feature_record all) (map feature_record (above text_order all (option_copied l.after)))

abbrev pub decreases-loop-name : goal.decreases-loop-name
decreases-loop-name g l = length (above text_order l.seen.features (option_copied l.after))
