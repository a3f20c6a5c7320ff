-- A law of the walk over the partitions of an image (this project's own).
use Rattle.std.specs.Prelude.{◌≡◌, List, [], ◌∷◌, All, Some, false}
use Rattle.std.specs.Ordering.{is_eq}
use Rattle.kr_defs.specs.Image.{Image, IsValid, topic_name}
use Rattle.kr_defs.specs.Map as entries
use Rattle.kr_defs.specs.Map.{partition_order}
use Rattle.kr_defs.specs.Walk.{Walked, walk}

-- no two under one key
abbrev pub AreApart : List Walked → Type 0
AreApart [] = Unit {0}
AreApart (w ∷ ws) = All (λ (v : Walked). is_eq (partition_order v.key w.key) ≡ false) ws × AreApart ws

-- Each partition that is walked stands in the image under its key, beside the name of its topic, and none is walked twice.
pub record WalksOnce (image : Image) : Type 0 where
  pub there : All (λ (w : Walked). entries.get partition_order image.partitions w.key ≡ Some w.partition) (walk image)
  pub named : All (λ (w : Walked). topic_name image.topics w.key.0 ≡ Some w.topic) (walk image)
  pub apart : AreApart (walk image)

abbrev pub ValidImagesAreWalkedOnce : Type 0
ValidImagesAreWalkedOnce = (image : Image) → IsValid image → WalksOnce image
