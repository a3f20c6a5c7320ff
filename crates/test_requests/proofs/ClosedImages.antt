-- No transaction is open in the image that is led, nor was at the place under which it is kept.
use Rattle.std.proofs.Common.{◌≡◌, ℤ, pos, refl, sym, ap, subst}
use Rattle.std.specs.Prelude.{Some}
use Rattle.std.specs.Option.{option_map}
use Rattle.kr_defs.specs.declared.record.Item.TheVariants as items
use Rattle.kr_defs.specs.Image.{Image}
use Rattle.kr_store.specs.Images.{Images, IsSettled, no_images, last_begun, last_image, last_kept, marked}
use Rattle.kr_store.specs.declared.places.ApplyFault.TheVariants as faults
use Rattle.testlib_rule_answers.specs.Histories.{AreClosed}
use Rattle.testlib_rule_answers.proofs.ClosedStores.{closed_failed}

-- the empty image at the first place
pub closed_begun : (images : Images) → images ≡ marked no_images (pos 0) → AreClosed images
closed_begun images is = subst AreClosed (sym is) (record { tip = refl; kept = (refl, tt) })

-- gone back to the kept image
pub closed_back : (images after : Images) → last_image images ≡ Some after.tip → after.made ≡ 0 → after.begun ≡ last_begun images → after.kept_begun ≡ images.kept_begun
    → AreClosed images → AreClosed after
closed_back images after tip made begun same = closed_failed images after faults.NoMemory (pos 0) items.Control (tip, made, begun) same

settled_of : (images : Images) (place : ℤ) → last_kept images ≡ Some (place, images.tip) → AreClosed images → IsSettled images
settled_of images place kept closed =
    let back : AreClosed (record images { made = 0; begun = last_begun images }) =
    closed_back images (record images { made = 0; begun = last_begun images }) (ap (option_map (λ (k : ℤ × Image). k.1)) kept) refl refl refl closed in
    record { tip = closed.tip; last = back.tip }

-- what a rule decides on the kept image opens none
pub closed_decided : (images after : Images) (place : ℤ) → last_kept images ≡ Some (place, images.tip) → (IsSettled images → IsSettled after)
    → after.kept_begun ≡ images.kept_begun → AreClosed images → AreClosed after
closed_decided images after place kept settled same closed = record { tip = (settled (settled_of images place kept closed)).tip; kept = rw same closed.kept }
