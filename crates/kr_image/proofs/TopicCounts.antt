-- The counts of an image whose topics are others.
use Rattle.std.proofs.Common.{◌≡◌, ◌∙◌, ℕ, List, length, ap}
use Rattle.kr_defs.specs.Image.{Image}
use Rattle.kr_store.specs.Images.{counts_of}
use Rattle.kr_store.specs.declared.places.Counts.{Counts}

pub topics_counted : (counts : Counts) (image : Image) (n : ℕ) (names : List (List ℕ × ℕ)) → counts ≡ counts_of image → n ≡ length names → record counts { topics = n } ≡ counts_of (record image { topics = names })
topics_counted counts image n names are is = ap (λ (c : Counts). record c { topics = n }) are ∙ ap (λ (m : ℕ). record (counts_of image) { topics = m }) is
