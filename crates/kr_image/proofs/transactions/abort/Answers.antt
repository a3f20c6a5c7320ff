use Rattle.std.proofs.Common.{◌+◌, ◌≤◌, ◌∙◌, arith, filter, refl, subst, sym, ℤ, ℕ}
use Rattle.std.specs.Prelude.{Option, None, IsSome, int_lt}
use Rattle.std.specs.Option.{option_map_or}
use Rattle.kr_store.specs.Images.{calls_of}
use Rattle.kr_image.specs.Timelines.{keeps_of, made_of, present_image}
use Rattle.kr_image.specs.KeptImages.{images_of, made_in}
use Rattle.kr_image.proofs.BegunEpochs.{are_valid, none_begun}
use Rattle.kr_image.proofs.KeptCalls.{above_all}
use Rattle.kr_image.proofs.StoreStates.{aborts, no_abort, open_began, same_epochs}
use Rattle.kr_image.proofs.transactions.abort.Goals as goal

pub returns-in-None-clause-applied : goal.returns-in-None-clause-applied
returns-in-None-clause-applied g c = rw c.bad_transaction.ensures (no_abort (images_of c.args.timelines.now c.args.kept.now.items c.args.begun.now) (sym c.open_place-found.ensures ∙ c.in-None.is), refl, refl)

pub restore-requires-clause-there : goal.restore-requires-clause-there
restore-requires-clause-there g c =
    let began = open_began (images_of c.args.timelines.now c.args.kept.now.items c.args.begun.now) c.in-Some.begin (are_valid c.args.timelines.now c.args.kept.now.items c.args.begun.now c.requires.store) (sym c.open_place-found.ensures ∙ c.in-Some.is) in
    subst (λ o. IsSome o) (sym began.there) refl

pub returns-in-Ok-clause-store : goal.returns-in-Ok-clause-store
returns-in-Ok-clause-store g c = record { store = c.restore.ensures.store.store; opens = none_begun c.args.kept.now.items c.restore.new.begun c.restore.ensures.store.opens }

pub returns-in-Ok-clause-applied : goal.returns-in-Ok-clause-applied
returns-in-Ok-clause-applied g c = (
  aborts (images_of c.args.timelines.now c.args.kept.now.items c.args.begun.now) c.in-Some.begin (present_image c.restore.new.timelines) (sym c.open_place-found.ensures ∙ c.in-Some.is) c.in-Ok.ensures.ok,
  same_epochs c.args.timelines.now c.restore.new.timelines c.args.kept.now.items c.args.begun.now None c.restore.ensures.same,
)

pub returns-in-Ok-clause-made : goal.returns-in-Ok-clause-made
returns-in-Ok-clause-made g c =
    let images = images_of c.args.timelines.now c.args.kept.now.items c.args.begun.now in
    let begin = c.in-Some.begin in
    let calls = above_all (keeps_of c.args.timelines.now) c.args.kept.now.items c.requires.store.store.kept.epochs begin in
    let few = c.in-Ok.ensures.made in
    let most : made_of c.restore.new.timelines ≤ made_of c.args.timelines.now + (calls_of (filter (λ (m : ℤ × ℕ). int_lt begin m.0) (made_in (keeps_of c.args.timelines.now) c.args.kept.now.items)) + made_of c.args.timelines.now) = omega (arith, few, calls) in
    subst (λ (o : Option ℤ). made_of c.restore.new.timelines ≤ made_of c.args.timelines.now + option_map_or (λ (b : ℤ). calls_of (filter (λ (m : ℤ × ℕ). int_lt b m.0) images.kept_made) + images.made) o 0) (sym (sym c.open_place-found.ensures ∙ c.in-Some.is)) most
