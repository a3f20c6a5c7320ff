use Rattle.std.proofs.Common.{[], ◌∷◌}
use Rattle.std.specs.Option.{option_copied}
use Rattle.kr_defs.proofs.ImageParts.{text_total}
use Rattle.kr_defs.proofs.Walks.{walk_less}
use Rattle.kr_snapshot.specs.inner.EntryRecords.{feature_record}
use Rattle.kr_snapshot.proofs.WriterRecords.{amid_may, amid_more, amid_end, walk_left, walk_done}
use Rattle.kr_snapshot.proofs.walking.put_features.Goals as goal

pub push-requires-clause-may : goal.push-requires-clause-may
push-requires-clause-may g c =
    let all = c.args.seen.now.features in
    rw c.in_ok-record.ensures.of
    (amid_may _ _ _ _ c.loop-name.invariant (feature_record (c.in-Some.name.now, c.in-Some.level.now) ∷ []) _ (walk_left text_total feature_record all (option_copied c.loop-name.after) (c.in-Some.name.now, c.in-Some.level.now) c.is_valid.ensures.features.ordered c.in-Some.ensures) c.requires)

pub loop-name-preserved : goal.loop-name-preserved
loop-name-preserved g c =
    let all = c.args.seen.now.features in
    amid_more _ _ _ _ c.loop-name.invariant _ (feature_record (c.in-Some.name.now, c.in-Some.level.now) ∷ []) _ (walk_left text_total feature_record all (option_copied c.loop-name.after) (c.in-Some.name.now, c.in-Some.level.now) c.is_valid.ensures.features.ordered c.in-Some.ensures) (rw c.in_ok-record.ensures.of at c.in_ok-push.ensures)

pub loop-name-smaller : goal.loop-name-smaller
loop-name-smaller g c =
    walk_less text_total c.args.seen.now.features (option_copied c.loop-name.after) (c.in-Some.name.now, c.in-Some.level.now) c.is_valid.ensures.features.ordered c.in-Some.ensures

pub returns : goal.returns
returns g c =
    amid_end _ _ _ _ c.loop-name.invariant (walk_done text_total feature_record c.args.seen.now.features (option_copied c.loop-name.after) c.in_default.ensures)
