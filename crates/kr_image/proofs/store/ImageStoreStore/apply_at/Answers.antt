use Rattle.std.proofs.Common.{◌≤◌, subst, sym, w64}
use Rattle.std.specs.Prelude.{OnOk}
use Rattle.std.proofs.lemmas.Int.{to_z-of_z}
use Rattle.kr_store.specs.Images.{Images}
use Rattle.kr_store.specs.ItemAnswers.{AppliesAt, MayStand, made_at}
use Rattle.kr_image.specs.Timelines.{made_of}
use Rattle.kr_image.specs.KeptImages.{images_of}
use Rattle.kr_image.proofs.BegunEpochs.{are_valid}
use Rattle.kr_image.proofs.store.ImageStoreStore.apply_at.Goals as goal

pub apply_at-requires-clause-stands : goal.apply_at-requires-clause-stands
apply_at-requires-clause-stands g c = rw (to_z-of_z w64 c.args.place c.ranges.place) (subst (λ (i : Images). MayStand i c.args.place c.args.item.now) (sym c.self.view_is) c.requires.stands)

pub returns-clause-valid : goal.returns-clause-valid
returns-clause-valid g c = are_valid c.apply_at.new.timelines c.apply_at.new.kept.items c.apply_at.new.begun c.apply_at.ensures.store

pub returns-clause-applied : goal.returns-clause-applied
returns-clause-applied g c =
    subst (λ (i : Images). AppliesAt i (images_of c.apply_at.new.timelines c.apply_at.new.kept.items c.apply_at.new.begun) c.apply_at.result c.args.place c.args.item.now) c.self.view_is (rw (to_z-of_z w64 c.args.place c.ranges.place) at c.apply_at.ensures.applied)

pub returns-clause-made : goal.returns-clause-made
returns-clause-made g c =
    subst (λ (i : Images). OnOk c.apply_at.result (made_of c.apply_at.new.timelines ≤ made_at i c.args.place c.args.item.now)) c.self.view_is (rw (to_z-of_z w64 c.args.place c.ranges.place) at c.apply_at.ensures.made)
