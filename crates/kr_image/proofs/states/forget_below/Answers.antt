use Rattle.kr_image.proofs.states.forget_below.Goals as goal

pub renew_index-requires : goal.renew_index-requires
renew_index-requires g c = c.drop_below.ensures.store.store.kept.epochs.partitions
