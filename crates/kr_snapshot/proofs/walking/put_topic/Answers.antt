use Rattle.std.proofs.Common.{[], ◌∷◌, List, refl, sym, negsuc, Some}
use Rattle.std.specs.Prelude.{map}
use Rattle.std.proofs.lemmas.List.{append-nil}
use Rattle.std.proofs.lemmas.Result.{on_ok_weaker}
use Rattle.kr_defs.specs.declared.record.Record.{Record}
use Rattle.kr_defs.specs.declared.record.Record.TheVariants as kinds
use Rattle.kr_defs.specs.Map.{above, partition_order}
use Rattle.kr_defs.specs.Walk.{of_topic}
use Rattle.kr_snapshot.specs.inner.EntryRecords.{partition_record}
use Rattle.kr_snapshot.proofs.WriterRecords.{amid_start, amid_may, amid_more, amid_end, topic_parts}
use Rattle.kr_snapshot.proofs.walking.put_topic.Goals as goal

pub push-requires-clause-may : goal.push-requires-clause-may
push-requires-clause-may g c =
    let ps = c.args.seen.now.partitions in
    rw c.in_ok-record.ensures.of
    (amid_may _ _ _ _ (amid_start _ _ c.requires) (kinds.Topic c.args.name.now c.args.id.now ∷ []) _ (topic_parts c.args.name.now c.args.id.now ps c.is_valid.ensures.partitions.indexes) c.requires)

pub put_above-requires : goal.put_above-requires
put_above-requires g c =
    let ps = c.args.seen.now.partitions in
    let rest : List Record = map partition_record (of_topic c.args.id.now (above partition_order ps (Some (c.args.id.now, negsuc 0)))) in
    let amid = amid_more _ _ _ _ (amid_start _ _ c.requires) _ (kinds.Topic c.args.name.now c.args.id.now ∷ []) rest (topic_parts c.args.name.now c.args.id.now ps c.is_valid.ensures.partitions.indexes) (rw c.in_ok-record.ensures.of at c.in_ok-push.ensures) in
    rw c.before_all.ensures (amid_may _ _ _ _ amid rest [] (sym (append-nil rest)) c.requires)

pub returns : goal.returns
returns g c =
    let ps = c.args.seen.now.partitions in
    let rest : List Record = map partition_record (of_topic c.args.id.now (above partition_order ps (Some (c.args.id.now, negsuc 0)))) in
    let amid = amid_more _ _ _ _ (amid_start _ _ c.requires) _ (kinds.Topic c.args.name.now c.args.id.now ∷ []) rest (topic_parts c.args.name.now c.args.id.now ps c.is_valid.ensures.partitions.indexes) (rw c.in_ok-record.ensures.of at c.in_ok-push.ensures) in
    on_ok_weaker c.put_above.result (λ adds. amid_end _ _ _ _ (amid_more _ _ _ _ amid _ rest [] (sym (append-nil rest)) adds) refl) (rw c.before_all.ensures at c.put_above.ensures)
