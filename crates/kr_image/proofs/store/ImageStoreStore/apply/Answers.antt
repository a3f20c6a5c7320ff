use Rattle.std.proofs.Common.{subst, w64}
use Rattle.std.proofs.lemmas.Int.{to_z-of_z}
use Rattle.kr_store.specs.Images.{Images}
use Rattle.kr_store.specs.ItemAnswers.{Applies}
use Rattle.kr_image.specs.KeptImages.{images_of}
use Rattle.kr_image.proofs.BegunEpochs.{are_valid}
use Rattle.kr_image.proofs.store.ImageStoreStore.apply.Goals as goal

pub returns-clause-valid : goal.returns-clause-valid
returns-clause-valid g c = are_valid c.apply.new.timelines c.self.inside.kept.items c.apply.new.begun c.apply.ensures.store

pub returns-clause-applied : goal.returns-clause-applied
returns-clause-applied g c =
    subst (λ (i : Images). Applies i (images_of c.apply.new.timelines c.self.inside.kept.items c.apply.new.begun) c.apply.result c.args.place c.args.item.now) c.self.view_is (rw (to_z-of_z w64 c.args.place c.ranges.place) at c.apply.ensures.applied)
