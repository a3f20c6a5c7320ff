-- What is true of each history.
use Rattle.std.specs.Prelude.{◌≡◌, ◌≤◌, ◌<◌, ℕ, zero, suc, ◌+◌, List, [], ◌∷◌, ◌++◌, Option, None, Some, false, ◌⊎◌}
use Rattle.std.specs.List.{AllByRecursion}
use Rattle.law_quorum.specs.Batches.{Batch, StoredImage, Meet, BatchStandsAt, ImageStandsFor, behind, offset_of_image}
use Rattle.law_quorum.specs.Changes.{Append, Change, Leader, compares, leads_by}
use Rattle.law_quorum.specs.History.{AreSent, Leadership, Point, no_history, point}

-- the epochs of leaderships, the latest first, are those from the greatest down to 1, each once
abbrev pub CountDown : ℕ → List Leadership → Type 0
CountDown epoch [] = epoch ≡ 0
CountDown zero (l ∷ ls) = ⊥
CountDown (suc epoch) (l ∷ ls) = (l.epoch ≡ suc epoch) × CountDown epoch ls

-- the log is what one leadership after the other appended, each behind the log that it began with
abbrev pub AreBehind : List Batch → List Leadership → Type 0
AreBehind log [] = log ≡ []
AreBehind log (l ∷ ls) = (log ≡ l.start ++ l.wrote) × AreBehind l.start ls

-- the revisions at which the leader key was made, the latest first, fall from below a bound on
abbrev pub Fall : ℕ → List Leadership → Type 0
Fall bound [] = Unit {0}
Fall bound (l ∷ ls) = (l.made < bound) × Fall l.made ls

-- who holds the leader key is the latest leadership
abbrev pub IsLed : Option Leader → List Leadership → Type 0
IsLed None ls = Unit {0}
IsLed (Some leader) [] = ⊥
IsLed (Some leader) (l ∷ ls) = (l.made ≡ leader.made) × (l.node ≡ leader.node) × (l.token ≡ leader.token)

-- an image, or none, stands for these batches
abbrev pub IsImageOf : (List Batch → List ℕ) → Option StoredImage → List Batch → Type 0
IsImageOf make None gone = gone ≡ []
IsImageOf make (Some image) gone = image.bytes ≡ make gone

-- The keys stand for one log: its batches meet from place 0 up to `end`; the image stands for exactly those that were dropped; each
-- other one stands under its place, and nothing else does.
pub record IsOneLog (make : List Batch → List ℕ) (p : Point) : Type 0 where
  pub meet : Meet 0 p.log
  pub end : behind 0 p.log ≡ p.keys.end
  pub gone : List Batch
  pub kept : List Batch
  pub split : p.log ≡ gone ++ kept
  pub offset : behind 0 gone ≡ offset_of_image p.keys.image
  pub image : IsImageOf make p.keys.image gone
  pub stand : AllByRecursion (λ b. p.keys.places b.base ≡ Some b) kept
  pub known : (place : ℕ) (b : Batch) → p.keys.places place ≡ Some b → BatchStandsAt p.log place b

pub record IsInOrder (p : Point) : Type 0 where
  pub epochs : CountDown p.keys.epoch p.leaderships
  pub pieces : AreBehind p.log p.leaderships
  pub made : Fall (p.keys.revision + 1) p.leaderships
  pub led : IsLed p.keys.leader p.leaderships

abbrev pub OneLog : Type 0
OneLog = (make : List Batch → List ℕ) (history : List Change) → AreSent make no_history history → IsOneLog make (point history) × IsInOrder (point history)

-- what was read at one revision is a beginning of what is read at a later one
abbrev pub LogOnlyGrows : Type 0
LogOnlyGrows = (history later : List Change) → (more : List Batch) × ((point (history ++ later)).log ≡ (point history).log ++ more)

-- an append of a leadership that is over is refused, however late it comes
abbrev pub OverIsOver : Type 0
OverIsOver = (history later : List Change) (made : ℕ) (batches : List Batch)
    → made ≤ (point history).keys.revision → leads_by (point history).keys.leader made ≡ false
    → compares (point (history ++ later)).keys (Append made batches) ≡ false

-- ---- reads: a member shows the keys as they stood at some point, which may be an earlier one

-- what was read under a place stands there in the log
abbrev pub ReadBatchesStand : Type 0
ReadBatchesStand = (make : List Batch → List ℕ) (history later : List Change) (place : ℕ) (b : Batch) → AreSent make no_history history
    → (point history).keys.places place ≡ Some b → BatchStandsAt (point (history ++ later)).log place b

-- an image that was read stands for a beginning of the log
abbrev pub ReadImagesStand : Type 0
ReadImagesStand = (make : List Batch → List ℕ) (history later : List Change) (image : StoredImage) → AreSent make no_history history
    → (point history).keys.image ≡ Some image → ImageStandsFor make (point (history ++ later)).log image

-- a batch of the log that doesn't stand under its place was dropped: the image stands for it
abbrev pub MissingIsDropped : Type 0
MissingIsDropped = (make : List Batch → List ℕ) (history : List Change) (place : ℕ) (b : Batch) → AreSent make no_history history
    → BatchStandsAt (point history).log place b → ((point history).keys.places place ≡ Some b) ⊎ (place < offset_of_image (point history).keys.image)

-- it was appended by this leadership, at the place
pub record WasWrittenBy (l : Leadership) (place : ℕ) (b : Batch) : Type 0 where
  pub before : List Batch
  pub after : List Batch
  pub split : l.wrote ≡ before ++ b ∷ after
  pub begins : behind 0 (l.start ++ before) ≡ place
  pub number : l.epoch ≡ b.epoch

abbrev pub WasWritten : List Leadership → ℕ → Batch → Type 0
WasWritten [] place b = ⊥
WasWritten (l ∷ ls) place b = WasWrittenBy l place b ⊎ WasWritten ls place b

-- a batch that stands in the log was appended by the leadership whose epoch it carries: so an append whose answer was lost is known by
-- its first batch
abbrev pub BatchesTell : Type 0
BatchesTell = (make : List Batch → List ℕ) (history : List Change) (place : ℕ) (b : Batch) → AreSent make no_history history
    → BatchStandsAt (point history).log place b → WasWritten (point history).leaderships place b

-- Who reads a token in the leader key reads whose leadership is the latest, its key and its epoch; and, where nothing was appended for
-- it yet, the end of the log that it began with.
pub record IsLatest (p : Point) (leader : Leader) : Type 0 where
  pub latest : Leadership
  pub others : List Leadership
  pub split : p.leaderships ≡ latest ∷ others
  pub node : latest.node ≡ leader.node
  pub token : latest.token ≡ leader.token
  pub made : latest.made ≡ leader.made
  pub epoch : latest.epoch ≡ p.keys.epoch
  pub end : latest.wrote ≡ [] → behind 0 latest.start ≡ p.keys.end

abbrev pub TokensTell : Type 0
TokensTell = (make : List Batch → List ℕ) (history : List Change) (leader : Leader) → AreSent make no_history history
    → (point history).keys.leader ≡ Some leader → IsLatest (point history) leader
