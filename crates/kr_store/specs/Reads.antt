-- What a read answers, by the image at the place that it looks at.
use Rattle.std.specs.Prelude.{◌≡◌, ℕ, ℤ, Bool, List, Result, Ok, Err, MatchOption, unwrap_or}
use Rattle.kr_defs.specs.declared.partition.Partition.{Partition}
use Rattle.kr_defs.specs.Image.{Image, empty}
use Rattle.kr_replicas.specs.BrokerPartitions.{AreAtLeast}
use Rattle.kr_store.specs.declared.places.At.{At}
use Rattle.kr_store.specs.declared.places.ReadFault.{ReadFault}
use Rattle.kr_store.specs.declared.places.ReadFault.TheVariants as faults
use Rattle.kr_store.specs.Images.{Images, image_of_place}

-- the answer, where there was memory for it
abbrev pub IsRead : {X : Type 0} → Result X ReadFault → X → Type 0
IsRead (Ok answer) meaning = answer ≡ meaning
IsRead (Err fault) meaning = fault ≡ faults.NoMemory

-- NoEpoch exactly where the place is an epoch that isn't kept
abbrev pub LooksUp : {X : Type 0} → Images → At → Result X ReadFault → (Image → X) → Type 0
LooksUp images place result meaning = MatchOption (image_of_place images place) (result ≡ Err faults.NoEpoch) (λ (image : Image). IsRead result (meaning image))

-- the image at a place; the empty one where it is an epoch that isn't kept
abbrev pub seen_at : Images → At → Image
seen_at images place = unwrap_or (image_of_place images place) empty

-- these keys are at least those of the partitions that pass the test, at every place
abbrev pub AreAtLeastEverywhere : List (ℕ × ℤ) → (Partition → Bool) → Images → Type 0
AreAtLeastEverywhere keys test images = (place : At) → AreAtLeast keys test (seen_at images place).partitions
