use Rattle.kr_image.specs.KeptImages.{images_of}
use Rattle.kr_image.proofs.StoreStates.{becomes_changed, same_epochs}
use Rattle.kr_image.proofs.transactions.change.Goals as goal

pub returns-clause-applied : goal.returns-clause-applied
returns-clause-applied g c = becomes_changed (images_of c.args.timelines.now c.args.kept.now.items c.args.begun.now) (images_of c.apply.new.timelines c.args.kept.now.items c.apply.new.begun) c.apply.result c.args.place.now c.args.item.now c.apply.ensures.applied (same_epochs c.args.timelines.now c.apply.new.timelines c.args.kept.now.items c.args.begun.now c.apply.new.begun c.apply.ensures.same) c.apply.ensures.begun
