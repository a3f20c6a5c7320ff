use Rattle.std.specs.Prelude.{◌≡◌, IsErr, IsOkAnd}
use Rattle.std.specs.Option.{option_copied}
use Rattle.kr_image.proofs.Places.{index_seen, topic_there}
use Rattle.kr_image.proofs.store.ImageStoreStore.topic.Goals as goal

pub returns : goal.returns
returns c = topic_there (λ topic. IsOkAnd c.find_at.result (λ value. option_copied value ≡ topic)) (IsErr c.find_at.result) _ _ c.args.id (index_seen c.self.inside.timelines c.self.inside.kept.items c.self.inside.begun c.self.invariant c.args.self.now c.self.view_is c.args.at) c.find_at.ensures
