use Rattle.kr_image.proofs.BegunEpochs.{are_valid}
use Rattle.kr_image.proofs.store.ImageStoreStore.revert_to_last.Goals as goal

pub returns-clause-valid : goal.returns-clause-valid
returns-clause-valid g c = are_valid c.go_back.new.timelines c.self.inside.kept.items c.go_back.new.begun c.go_back.ensures.store
