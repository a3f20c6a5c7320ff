-- How far bytes are an image.
use Rattle.std.specs.Prelude.{◌≡◌, ℕ, ℤ, ◌<◌, ◌⊎◌, List, [], ◌++◌, length, Some, Err}
use Rattle.kr_snapshot.specs.declared.fault.ImageFault.{ImageFault}
use Rattle.kr_snapshot.specs.Reading.{Progress, image_of, so_far, waits}

-- the head and some whole batches of an image
pub record HasBegun (front : List ℕ) : Type 0 where
  pub body : ℤ × Progress
  pub read : so_far front ≡ waits (Some body) []

-- The bytes stand for no image, and this many of them are the most that are its head and whole batches: the first byte
-- of the batch at fault, the end where batches are missing, 0 where the head is at fault.
pub record BreaksAt (bytes : List ℕ) (at : ℕ) : Type 0 where
  pub front : List ℕ
  pub rest : List ℕ
  pub parts : bytes ≡ front ++ rest
  pub place : at ≡ length front
  pub begun : (front ≡ []) ⊎ HasBegun front
  pub last : (more behind : List ℕ) → rest ≡ more ++ behind → 0 < length more → HasBegun (front ++ more) → ⊥
  pub fault : ImageFault
  pub none : image_of bytes ≡ Err fault
