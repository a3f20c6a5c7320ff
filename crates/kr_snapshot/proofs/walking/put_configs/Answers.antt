use Rattle.std.proofs.Common.{[], ◌∷◌}
use Rattle.std.specs.Option.{option_copied}
use Rattle.kr_defs.proofs.ImageParts.{config_total}
use Rattle.kr_defs.proofs.Walks.{walk_less}
use Rattle.kr_snapshot.specs.inner.EntryRecords.{config_record}
use Rattle.kr_snapshot.proofs.WriterRecords.{amid_may, amid_more, amid_end, walk_left, walk_done}
use Rattle.kr_snapshot.proofs.walking.put_configs.Goals as goal

pub push-requires-clause-may : goal.push-requires-clause-may
push-requires-clause-may g c =
    let all = c.args.seen.now.configs in
    rw c.in_ok-record.ensures.of
    (amid_may _ _ _ _ c.loop-key.invariant (config_record (c.in-Some.key.now, c.in-Some.value.now) ∷ []) _ (walk_left config_total config_record all (option_copied c.loop-key.after) (c.in-Some.key.now, c.in-Some.value.now) c.is_valid.ensures.configs.ordered c.in-Some.ensures) c.requires)

pub loop-key-preserved : goal.loop-key-preserved
loop-key-preserved g c =
    let all = c.args.seen.now.configs in
    amid_more _ _ _ _ c.loop-key.invariant _ (config_record (c.in-Some.key.now, c.in-Some.value.now) ∷ []) _ (walk_left config_total config_record all (option_copied c.loop-key.after) (c.in-Some.key.now, c.in-Some.value.now) c.is_valid.ensures.configs.ordered c.in-Some.ensures) (rw c.in_ok-record.ensures.of at c.in_ok-push.ensures)

pub loop-key-smaller : goal.loop-key-smaller
loop-key-smaller g c =
    walk_less config_total c.args.seen.now.configs (option_copied c.loop-key.after) (c.in-Some.key.now, c.in-Some.value.now) c.is_valid.ensures.configs.ordered c.in-Some.ensures

pub returns : goal.returns
returns g c =
    amid_end _ _ _ _ c.loop-key.invariant (walk_done config_total config_record c.args.seen.now.configs (option_copied c.loop-key.after) c.in_default.ensures)
