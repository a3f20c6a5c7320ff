-- Values in parts, each put before what refers to the whole, under the same comparison.
use Rattle.std.specs.Prelude.{◌≡◌, ◌<◌, ◌≤◌, ◌⊎◌, ℕ, zero, suc, Bool, true, false, cond, ◌&&◌, List, [], ◌∷◌, ◌++◌, length, take, drop, Option, None, Some, nat_eq, nat_lt, fold}
use Rattle.std.specs.List.{AllByRecursion}
use Rattle.std.specs.Option.{unwrap_or}
use Rattle.law_quorum.specs.Batches.{offset_of_image}
use Rattle.law_quorum.specs.Changes.{Change, Drop, Keys, Other, compares, leads_by}
use Rattle.law_quorum.specs.History.{Point, no_history, point_after}

-- whose parts they are
pub data Whole : Type 0 where
  -- a batch's, by its place and epoch
  OfBatch : ℕ → ℕ → Whole
  -- an image's, by its offset
  OfImage : ℕ → Whole

pub record PartStore : Type 0 where
  pub point : Point
  -- the part under each number
  pub parts : Whole → ℕ → Option (List ℕ)

pub data PartChange : Type 0 where
  -- a change of the other keys
  Log : Change → PartChange
  -- a part of this number is put: of a batch for the leadership whose key was made at a revision, of an image where the image that
  -- stands is of a place still
  Put : ℕ → Whole → ℕ → List ℕ → PartChange

abbrev pub place_of_whole : Whole → ℕ
place_of_whole (OfBatch place epoch) = place
place_of_whole (OfImage offset) = offset

abbrev pub is_same_whole : Whole → Whole → Bool
is_same_whole (OfBatch place epoch) (OfBatch other number) = nat_eq place other && nat_eq epoch number
is_same_whole (OfImage offset) (OfImage other) = nat_eq offset other
is_same_whole one other = false

-- what the transaction compares, as the one does that refers to the whole
abbrev pub guards : Keys → ℕ → Whole → Bool
guards k guard (OfBatch place epoch) = leads_by k.leader guard
guards k guard (OfImage offset) = nat_eq (offset_of_image k.image) guard

abbrev pub put_part : Whole → ℕ → List ℕ → (Whole → ℕ → Option (List ℕ)) → Whole → ℕ → Option (List ℕ)
put_part whole at bytes parts other number = cond (is_same_whole whole other && nat_eq at number) (Some bytes) (parts other number)

-- an image drops the parts of the batches for which it stands, and of earlier images
abbrev pub parts_after : Change → (Whole → ℕ → Option (List ℕ)) → Whole → ℕ → Option (List ℕ)
parts_after (Drop before image) parts whole at = cond (nat_lt (place_of_whole whole) image.offset) None (parts whole at)
parts_after change parts whole at = parts whole at

abbrev pub store_after : PartStore → PartChange → PartStore
store_after s (Log change) = record { point = point_after s.point change; parts = cond (compares s.point.keys change) (parts_after change s.parts) s.parts }
store_after s (Put guard whole at bytes) =
    cond (guards s.point.keys guard whole) (record { point = point_after s.point Other; parts = put_part whole at bytes s.parts }) s

abbrev pub no_store : PartStore
no_store = record { point = no_history; parts = λ whole at. None }

abbrev pub store : List PartChange → PartStore
store history = fold store_after no_store history

-- what is behind the first parts, each of a size
abbrev pub behind_parts : ℕ → ℕ → List ℕ → List ℕ
behind_parts size zero bytes = bytes
behind_parts size (suc at) bytes = drop size (behind_parts size at bytes)

abbrev pub part : ℕ → ℕ → List ℕ → List ℕ
part size at bytes = take size (behind_parts size at bytes)

-- What is asked of those who put parts: they are of what the whole is to be. (A leadership's controller writes one batch for a place,
-- and images of one place are the same.)
abbrev pub IsPartOf : ℕ → (Whole → List ℕ) → PartChange → Type 0
IsPartOf size bytes_of (Log change) = Unit {0}
IsPartOf size bytes_of (Put guard whole at bytes) = bytes ≡ part size at (bytes_of whole)

-- and of who drops batches: the image is of a later place than the one that it takes the place of
abbrev pub DropsLater : PartChange → Type 0
DropsLater (Log (Drop before image)) = before < image.offset
DropsLater other = Unit {0}

-- ---- reads

-- the parts from a number on, each as it stood at the end of a history of its own
abbrev pub read_parts : Whole → ℕ → List (List PartChange) → List ℕ
read_parts whole at [] = []
read_parts whole at (history ∷ histories) = unwrap_or ((store history).parts whole at) [] ++ read_parts whole (suc at) histories

-- who reads as many bytes as the whole has reads the whole, at whatever times each part is read
abbrev pub PartsMakeTheWhole : Type 0
PartsMakeTheWhole = (size : ℕ) (bytes_of : Whole → List ℕ) (whole : Whole) (histories : List (List PartChange)) → 0 < size
    → AllByRecursion (AllByRecursion (IsPartOf size bytes_of)) histories → length (read_parts whole 0 histories) ≡ length (bytes_of whole)
    → read_parts whole 0 histories ≡ bytes_of whole

-- ---- what is referred to

-- it was read that the key was made at this revision, or that the image is of this place
abbrev pub GuardWasRead : Keys → ℕ → Whole → Type 0
GuardWasRead k guard (OfBatch place epoch) = guard ≤ k.revision
GuardWasRead k guard (OfImage offset) = guard ≤ offset_of_image k.image

-- where a transaction takes effect behind the one that put a part, the part stands from then on, as long as no image stands for it
abbrev pub PartsStand : Type 0
PartsStand = (size : ℕ) (bytes_of : Whole → List ℕ) (before between later : List PartChange) (guard : ℕ) (whole : Whole) (at : ℕ) (bytes : List ℕ)
    → AllByRecursion (IsPartOf size bytes_of) (before ++ Put guard whole at bytes ∷ (between ++ later))
    → AllByRecursion DropsLater (before ++ Put guard whole at bytes ∷ (between ++ later))
    → GuardWasRead (store before).point.keys guard whole → guards (store (before ++ Put guard whole at bytes ∷ between)).point.keys guard whole ≡ true
    → ((store (before ++ Put guard whole at bytes ∷ (between ++ later))).parts whole at ≡ Some (part size at (bytes_of whole)))
    ⊎ (place_of_whole whole < offset_of_image (store (before ++ Put guard whole at bytes ∷ (between ++ later))).point.keys.image)
