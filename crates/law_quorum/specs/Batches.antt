-- Batches by the places of their records, and how they meet. This project's own.
use Rattle.std.specs.Prelude.{◌≡◌, ◌<◌, ℕ, ◌+◌, List, [], ◌∷◌, ◌++◌, Option, None, Some}

pub record Batch : Type 0 where
  -- the place of its first record, and how many it has
  pub base : ℕ
  pub count : ℕ
  pub epoch : ℕ
  pub bytes : List ℕ

-- an image that stands for the log before a place
pub record StoredImage : Type 0 where
  pub offset : ℕ
  pub bytes : List ℕ

-- the place behind batches that begin at a place
abbrev pub behind : ℕ → List Batch → ℕ
behind from [] = from
behind from (b ∷ bs) = behind (from + b.count) bs

-- the first begins at the place, each other one where the one before it ends, and none is empty
abbrev pub Meet : ℕ → List Batch → Type 0
Meet from [] = Unit {0}
Meet from (b ∷ bs) = (b.base ≡ from) × (0 < b.count) × Meet (from + b.count) bs

-- the batch stands in the log at the place
pub record BatchStandsAt (log : List Batch) (place : ℕ) (batch : Batch) : Type 0 where
  pub before : List Batch
  pub after : List Batch
  pub split : log ≡ before ++ batch ∷ after
  pub begins : behind 0 before ≡ place

-- the image stands for the beginning of the log up to its offset; `make` gives the bytes of the image of batches from place 0 on
pub record ImageStandsFor (make : List Batch → List ℕ) (log : List Batch) (image : StoredImage) : Type 0 where
  pub gone : List Batch
  pub rest : List Batch
  pub split : log ≡ gone ++ rest
  pub offset : behind 0 gone ≡ image.offset
  pub bytes : image.bytes ≡ make gone

abbrev pub offset_of_image : Option StoredImage → ℕ
offset_of_image None = 0
offset_of_image (Some image) = image.offset
