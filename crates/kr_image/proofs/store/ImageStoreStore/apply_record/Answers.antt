use Rattle.std.proofs.Common.{subst, w64}
use Rattle.std.proofs.lemmas.Int.{to_z-of_z}
use Rattle.kr_defs.specs.declared.record.Item.TheVariants as items
use Rattle.kr_store.specs.Images.{Images}
use Rattle.kr_store.specs.ItemAnswers.{Applies}
use Rattle.kr_image.specs.KeptImages.{images_of}
use Rattle.kr_image.proofs.BegunEpochs.{are_valid}
use Rattle.kr_image.proofs.store.ImageStoreStore.apply_record.Goals as goal

pub returns-clause-valid : goal.returns-clause-valid
returns-clause-valid g c = are_valid c.apply_record.new.timelines c.self.inside.kept.items c.apply_record.new.begun c.apply_record.ensures.store

pub returns-clause-applied : goal.returns-clause-applied
returns-clause-applied g c =
    subst (λ (i : Images). Applies i (images_of c.apply_record.new.timelines c.self.inside.kept.items c.apply_record.new.begun) c.apply_record.result c.args.place (items.Record c.args.value.now)) c.self.view_is (rw (to_z-of_z w64 c.args.place c.ranges.place) at c.apply_record.ensures.applied)
