use Rattle.std.proofs.Common.{◌≡◌, refl, true, false}
use Rattle.std.specs.Option.{option_copied}
use Rattle.kr_store.specs.Images.{topics_at}
use Rattle.kr_image.specs.inner.TimelineMaps.{entries_at}
use Rattle.kr_image.proofs.Places.{index_seen, names_seen, none_walked, not_walked, walked, walked_nowhere}
use Rattle.kr_image.proofs.store.ImageStoreStore.next_topic.Goals as goal

pub returns-in-Ok-Some-find_at : goal.returns-in-Ok-Some-find_at
returns-in-Ok-Some-find_at c =
    let names = rw (names_seen c.self.inside.timelines c.self.inside.kept.items c.self.inside.begun c.self.invariant c.args.self.now c.self.view_is c.args.at, c.in-Ok-Some.field-0-is) at c.in-Ok-Some.ensures in
    let topic = rw c.in-Ok-Some-find_at.field-0-is at c.in-Ok-Some-find_at.ensures in
    walked _ _ _ c.in-Ok-Some.name.now c.in-Ok-Some.id.now _ _ c.in-Ok-Some-find_at.topic.now (index_seen c.self.inside.timelines c.self.inside.kept.items c.self.inside.begun c.self.invariant c.args.self.now c.self.view_is c.args.at) names topic

pub returns-in-Ok-None-find_at : goal.returns-in-Ok-None-find_at
returns-in-Ok-None-find_at c =
    let names = rw (names_seen c.self.inside.timelines c.self.inside.kept.items c.self.inside.begun c.self.invariant c.args.self.now c.self.view_is c.args.at, c.in-Ok-Some.field-0-is) at c.in-Ok-Some.ensures in
    let topic = rw c.in-Ok-None-find_at.field-0-is at c.in-Ok-None-find_at.ensures in
    not_walked _ _ _ c.in-Ok-Some.name.now c.in-Ok-Some.id.now _ _ (index_seen c.self.inside.timelines c.self.inside.kept.items c.self.inside.begun c.self.invariant c.args.self.now c.self.view_is c.args.at) names topic

pub returns-in-Err-find_at : goal.returns-in-Err-find_at
returns-in-Err-find_at c = walked_nowhere (true ≡ true) (true ≡ true) (λ m. ⊥) (topics_at c.args.self.now c.args.at) (entries_at c.self.inside.timelines.topics.maps c.args.at) (index_seen c.self.inside.timelines c.self.inside.kept.items c.self.inside.begun c.self.invariant c.args.self.now c.self.view_is c.args.at) c.in-Err-find_at.ensures refl

pub returns-in-Ok-None : goal.returns-in-Ok-None
returns-in-Ok-None c = none_walked (false ≡ true) (topics_at c.args.self.now c.args.at) (option_copied c.args.after) (rw (names_seen c.self.inside.timelines c.self.inside.kept.items c.self.inside.begun c.self.invariant c.args.self.now c.self.view_is c.args.at, c.in-Ok-None.field-0-is) at c.in-Ok-None.ensures)

pub returns-in-Err : goal.returns-in-Err
returns-in-Err c = rw (names_seen c.self.inside.timelines c.self.inside.kept.items c.self.inside.begun c.self.invariant c.args.self.now c.self.view_is c.args.at) at c.in-Err.ensures
