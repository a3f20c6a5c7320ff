use Rattle.std.proofs.Common.{◌≡◌, ◌∙◌, ap, false, refl, true}
use Rattle.std.specs.Prelude.{Some, is_some}
use Rattle.kr_defs.proofs.Tests.{none_is}
use Rattle.kr_store.specs.Images.{Images, log_place}
use Rattle.kr_image.specs.KeptImages.{images_of}
use Rattle.kr_image.proofs.BegunEpochs.{are_valid, begun_here}
use Rattle.kr_image.proofs.StoreStates.{begin_refused, begins, epoch_tip, kept_listed}
use Rattle.kr_image.proofs.transactions.begin.Goals as goal

pub returns-then-is_some-clause-applied : goal.returns-then-is_some-clause-applied
returns-then-is_some-clause-applied g c =
    let images = images_of c.args.timelines.now c.args.kept.now.items c.args.begun.now in
    rw c.bad_transaction.ensures (begin_refused images (log_place c.args.place.now) (are_valid c.args.timelines.now c.args.kept.now.items c.args.begun.now c.requires.store) (let some : is_some c.args.begun.now ≡ true = cc in some), refl, refl)

pub returns-in-Ok-clause-store : goal.returns-in-Ok-clause-store
returns-in-Ok-clause-store g c = rw c.begun_here.ensures (record {
  store = c.keep_epoch.ensures.store.store;
  opens = begun_here c.keep_epoch.new.kept.items c.keep_epoch.new.begun c.args.place.now c.keep_epoch.ensures.store.opens
      (kept_listed c.keep_epoch.new.timelines c.keep_epoch.new.kept.items c.keep_epoch.new.begun c.args.place.now _ c.in-Ok.ensures.there);
})

pub returns-in-Ok-clause-applied : goal.returns-in-Ok-clause-applied
returns-in-Ok-clause-applied g c =
    let images = images_of c.args.timelines.now c.args.kept.now.items c.args.begun.now in
    let after = images_of c.keep_epoch.new.timelines c.keep_epoch.new.kept.items (Some c.args.place.now) in
    let same = c.in-Ok.ensures.ok in
    let none : is_some c.args.begun.now ≡ false = cc in
    rw c.begun_here.ensures (
      begins images c.args.place.now after (none_is c.args.begun.now none) refl (ap (λ (i : Images). i.tip) same ∙ epoch_tip images c.args.place.now) c.in-Ok.ensures.there,
      record { images = ap (λ (i : Images). i.kept) same; calls = ap (λ (i : Images). i.kept_made) same; begun = ap (λ (i : Images). i.kept_begun) same },
    )

pub returns-in-Ok-clause-made : goal.returns-in-Ok-clause-made
returns-in-Ok-clause-made g c = ap (λ (i : Images). i.made) c.in-Ok.ensures.ok
