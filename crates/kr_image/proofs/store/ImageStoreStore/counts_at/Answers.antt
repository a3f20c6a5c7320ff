use Rattle.std.proofs.Common.{subst}
use Rattle.kr_store.specs.Images.{AreValid}
use Rattle.kr_image.proofs.BegunEpochs.{are_valid}
use Rattle.kr_image.proofs.store.ImageStoreStore.counts_at.Goals as goal

pub returns-clause-valid : goal.returns-clause-valid
returns-clause-valid c = subst AreValid c.self.view_is (are_valid c.self.inside.timelines c.self.inside.kept.items c.self.inside.begun c.self.invariant)
