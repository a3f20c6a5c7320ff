-- The keys of the store, and the changes that the links make of them: each is one transaction, which happens whole where what it
-- compares holds, and else changes nothing.
use Rattle.std.specs.Prelude.{ℕ, ◌+◌, List, [], ◌∷◌, Bool, true, false, cond, ◌&&◌, Option, None, Some, nat_eq, nat_lt}
use Rattle.law_quorum.specs.Batches.{Batch, StoredImage, behind, offset_of_image}

-- the leader key: the node and the call that made it, and the revision at which it was made
pub record Leader : Type 0 where
  pub node : ℕ
  pub token : ℕ
  pub made : ℕ

pub record Keys : Type 0 where
  pub revision : ℕ
  -- the batch under each place
  pub places : ℕ → Option Batch
  -- the place behind the last batch
  pub end : ℕ
  pub leader : Option Leader
  -- the greatest epoch that was led
  pub epoch : ℕ
  pub image : Option StoredImage

pub data Change : Type 0 where
  -- a node takes the leadership, by a call with a token of its own, with the epoch
  Campaign : ℕ → ℕ → ℕ → Change
  -- appends batches, for the leadership whose key was made at a revision
  Append : ℕ → List Batch → Change
  -- an image takes the place of batches, where the image that stands is of that place still
  Drop : ℕ → StoredImage → Change
  -- a lease ends, and with it the leader key
  Expire : Change
  -- another key is written
  Other : Change

abbrev pub leads_by : Option Leader → ℕ → Bool
leads_by None made = false
leads_by (Some leader) made = nat_eq leader.made made

abbrev pub is_leaderless : Option Leader → Bool
is_leaderless None = true
is_leaderless (Some leader) = false

abbrev pub base_of_first : List Batch → ℕ
base_of_first [] = 0
base_of_first (b ∷ bs) = b.base

-- what a transaction compares
abbrev pub compares : Keys → Change → Bool
compares k (Campaign node token epoch) = is_leaderless k.leader && nat_eq (k.epoch + 1) epoch
compares k (Append made batches) = leads_by k.leader made && nat_eq k.end (base_of_first batches)
compares k (Drop before image) = nat_eq (offset_of_image k.image) before
compares k Expire = true
compares k Other = true

abbrev pub put_batch : Batch → (ℕ → Option Batch) → ℕ → Option Batch
put_batch b places place = cond (nat_eq b.base place) (Some b) (places place)

abbrev pub put_batches : List Batch → (ℕ → Option Batch) → ℕ → Option Batch
put_batches [] places = places
put_batches (b ∷ bs) places = put_batches bs (put_batch b places)

abbrev pub delete_below : ℕ → (ℕ → Option Batch) → ℕ → Option Batch
delete_below offset places place = cond (nat_lt place offset) None (places place)

-- what it writes
abbrev pub keys_written : Keys → Change → Keys
keys_written k (Campaign node token epoch) = record k { leader = Some (record { node = node; token = token; made = k.revision + 1 }); epoch = epoch }
keys_written k (Append made batches) = record k { places = put_batches batches k.places; end = behind k.end batches }
keys_written k (Drop before image) = record k { places = delete_below image.offset k.places; image = Some image }
keys_written k Expire = record k { leader = None }
keys_written k Other = k

abbrev pub with_revision : Keys → Keys
with_revision k = record k { revision = k.revision + 1 }

abbrev pub keys_after : Keys → Change → Keys
keys_after k change = cond (compares k change) (with_revision (keys_written k change)) k

abbrev pub no_keys : Keys
no_keys = record { revision = 0; places = λ place. None; end = 0; leader = None; epoch = 0; image = None }
