use Rattle.kr_defs.specs.declared.record.Item.TheVariants as items
use Rattle.kr_defs.specs.Apply.{apply}
use Rattle.kr_image.specs.Timelines.{present_image}
use Rattle.kr_image.proofs.Stores.{same_kept}
use Rattle.kr_image.proofs.StoreStates.{some_still}
use Rattle.kr_image.proofs.items.apply_record.Goals as goal

pub returns-in-Ok-clause-store : goal.returns-in-Ok-clause-store
unfolding apply
returns-in-Ok-clause-store g c = record {
  store = record {
    kept = same_kept c.args.timelines.now c.apply_record.new.self c.args.kept.now.items c.apply_record.ensures.kept c.requires.store.store.kept;
    present = c.in-Ok.ensures.agrees;
    valid = c.apply_keeps_valid.ensures (present_image c.args.timelines.now) (present_image c.apply_record.new.self) (items.Record c.args.value.now) c.requires.store.store.valid c.in-Ok.ensures.changes;
  };
  opens = c.requires.store.opens;
}

pub go_back-requires-clause-kept : goal.go_back-requires-clause-kept
go_back-requires-clause-kept g c = same_kept c.args.timelines.now c.apply_record.new.self c.args.kept.now.items c.apply_record.ensures.kept c.requires.store.store.kept

pub go_back-requires-clause-some : goal.go_back-requires-clause-some
go_back-requires-clause-some g c = some_still c.args.timelines.now c.apply_record.new.self c.args.kept.now.items c.args.begun.now c.args.begun.now c.apply_record.ensures.kept c.requires.some
