-- A history is the list of the changes in the order in which the store made them. The log and the leaderships are folds of it.
use Rattle.std.specs.Prelude.{◌≡◌, ◌<◌, ℕ, ◌+◌, List, [], ◌∷◌, ◌++◌, cond, fold}
use Rattle.std.specs.List.{AllByRecursion}
use Rattle.law_quorum.specs.Batches.{Batch, Meet, ImageStandsFor}
use Rattle.law_quorum.specs.Changes.{Change, Campaign, Append, Drop, Keys, base_of_first, compares, keys_after, no_keys}

pub record Leadership : Type 0 where
  pub node : ℕ
  pub token : ℕ
  pub epoch : ℕ
  -- the revision at which its key was made
  pub made : ℕ
  -- the log that it began with, and what it appended
  pub start : List Batch
  pub wrote : List Batch

pub record Point : Type 0 where
  pub keys : Keys
  pub log : List Batch
  -- the latest first
  pub leaderships : List Leadership

abbrev pub batches_appended : Change → List Batch
batches_appended (Append made batches) = batches
batches_appended _ = []

abbrev pub with_wrote : List Batch → List Leadership → List Leadership
with_wrote batches [] = []
with_wrote batches (l ∷ ls) = record l { wrote = l.wrote ++ batches } ∷ ls

abbrev pub leaderships_after : Point → Change → List Leadership
leaderships_after p (Campaign node token epoch) =
    record { node = node; token = token; epoch = epoch; made = p.keys.revision + 1; start = p.log; wrote = [] } ∷ p.leaderships
leaderships_after p (Append made batches) = with_wrote batches p.leaderships
leaderships_after p _ = p.leaderships

abbrev pub point_after : Point → Change → Point
point_after p change = record {
  keys = keys_after p.keys change;
  log = cond (compares p.keys change) (p.log ++ batches_appended change) p.log;
  leaderships = cond (compares p.keys change) (leaderships_after p change) p.leaderships;
}

abbrev pub no_history : Point
no_history = record { keys = no_keys; log = []; leaderships = [] }

abbrev pub point : List Change → Point
point history = fold point_after no_history history

-- the batches have the epoch of the leadership for which they are appended
abbrev pub CarryEpoch : ℕ → List Batch → List Leadership → Type 0
CarryEpoch made batches [] = Unit {0}
CarryEpoch made batches (l ∷ ls) = (l.made ≡ made → AllByRecursion (λ b. b.epoch ≡ l.epoch) batches) × CarryEpoch made batches ls

-- What is asked of those who send changes: batches of an append meet, and carry the epoch of the leadership; a dropping image stands
-- for a beginning of the log, and is of a later place than the one that it takes the place of.
abbrev pub IsSent : (List Batch → List ℕ) → Point → Change → Type 0
IsSent make p (Append made batches) = Meet (base_of_first batches) batches × CarryEpoch made batches p.leaderships
IsSent make p (Drop before image) = (before < image.offset) × ImageStandsFor make p.log image
IsSent make p _ = Unit {0}

abbrev pub AreSent : (List Batch → List ℕ) → Point → List Change → Type 0
AreSent make p [] = Unit {0}
AreSent make p (change ∷ changes) = IsSent make p change × AreSent make (point_after p change) changes
