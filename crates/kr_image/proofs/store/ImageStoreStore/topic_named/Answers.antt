use Rattle.std.proofs.Common.{◌≡◌, refl, None, true, false}
use Rattle.std.specs.Prelude.{IsErr, IsOkAnd}
use Rattle.std.specs.Option.{option_copied}
use Rattle.kr_store.specs.Images.{topics_at}
use Rattle.kr_image.proofs.Places.{index_seen, named_there, names_seen, unnamed_there}
use Rattle.kr_image.proofs.store.ImageStoreStore.topic_named.Goals as goal

pub returns-in-Ok-Some : goal.returns-in-Ok-Some
returns-in-Ok-Some c =
    let names = rw (names_seen c.self.inside.timelines c.self.inside.kept.items c.self.inside.begun c.self.invariant c.args.self.now c.self.view_is c.args.at, c.in-Ok-Some.field-0-is) at c.in-Ok-Some.ensures in
    named_there (λ topic. IsOkAnd c.find_at-in-Ok-Some.result (λ value. option_copied value ≡ topic)) (IsErr c.find_at-in-Ok-Some.result) _ _ _ c.args.name.now c.in-Ok-Some.id.now (index_seen c.self.inside.timelines c.self.inside.kept.items c.self.inside.begun c.self.invariant c.args.self.now c.self.view_is c.args.at) names c.find_at-in-Ok-Some.ensures

pub returns-in-Ok-None : goal.returns-in-Ok-None
returns-in-Ok-None c =
    let names = rw (names_seen c.self.inside.timelines c.self.inside.kept.items c.self.inside.begun c.self.invariant c.args.self.now c.self.view_is c.args.at, c.in-Ok-None.field-0-is) at c.in-Ok-None.ensures in
    unnamed_there (λ topic. None ≡ topic) (false ≡ true) (topics_at c.args.self.now c.args.at) c.args.name.now refl names

pub returns-in-Err : goal.returns-in-Err
returns-in-Err c = rw (names_seen c.self.inside.timelines c.self.inside.kept.items c.self.inside.begun c.self.invariant c.args.self.now c.self.view_is c.args.at) at c.in-Err.ensures
