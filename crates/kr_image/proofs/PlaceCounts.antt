-- The counts of a kept image.
use Rattle.std.proofs.Common.{◌≡◌, ◌∙◌, ℤ, List, ap, find}
use Rattle.std.specs.Prelude.{Some}
use Rattle.std.specs.Ordering.{int_eq}
use Rattle.std.proofs.lemmas.Bool.Decides.{Decides-int_eq}
use Rattle.std.proofs.lemmas.List.Elements.{recursion_from_All}
use Rattle.kr_store.specs.Images.{counts_of}
use Rattle.kr_image.specs.declared.kept_counts.KeptCounts.{KeptCounts}
use Rattle.kr_image.specs.Timelines.{Keeps, image_in}
use Rattle.kr_image.specs.KeptImages.{IsKept, IsCountedRight}
use Rattle.kr_image.proofs.Stores.{found_has, found_passes}

pub counts_there : (kept : Keeps) (list : List KeptCounts) (k : KeptCounts) (epoch : ℤ) → find (λ (k : KeptCounts). int_eq k.epoch epoch) list ≡ Some k → IsKept kept list → k.counts ≡ counts_of (image_in kept epoch)
counts_there kept list k epoch found is =
    let right : IsCountedRight kept k = found_has (IsCountedRight kept) (λ (k : KeptCounts). int_eq k.epoch epoch) list k (recursion_from_All (IsCountedRight kept) list is.right) found in
    let same : k.epoch ≡ epoch = (Decides-int_eq k.epoch epoch).0 (found_passes (λ (k : KeptCounts). int_eq k.epoch epoch) list k found) in
    right.counts ∙ ap (λ (x : ℤ). counts_of (image_in kept x)) same
