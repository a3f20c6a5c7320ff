-- Several nodes over one store: what each daemon was handed, and when its link may hand it more.
use Rattle.std.specs.Prelude.{◌≡◌, ◌≤◌, ◌⊎◌, ℕ, ◌+◌, List, [], ◌∷◌, ◌++◌, cond, Option, None, Some, IsSome, nat_eq, nat_le, fold}
use Rattle.law_quorum.specs.Batches.{Batch, StoredImage, BatchStandsAt, ImageStandsFor, behind}
use Rattle.law_quorum.specs.Changes.{Change}
use Rattle.law_quorum.specs.History.{IsSent, Leadership, Point, point_after, no_history}

pub record Node : Type 0 where
  -- the image that was loaded, and the batches that are committed behind it
  pub image : Option StoredImage
  pub batches : List Batch
  -- the place behind them
  pub end : ℕ
  -- the epoch that it leads
  pub leads : Option ℕ
  -- of the batches that it wrote in this leadership those that were committed, and those that weren't
  pub settled : List Batch
  pub own : List Batch

pub record Cluster : Type 0 where
  pub point : Point
  pub nodes : ℕ → Node

pub data Move : Type 0 where
  -- the store makes a change
  Store : Change → Move
  -- what a link hands its daemon: Batch, Load, Lead of an epoch and an end, Commit of an epoch and an end, Lost of an epoch
  Feed : ℕ → Batch → Move
  Load : ℕ → StoredImage → Move
  Lead : ℕ → ℕ → ℕ → Move
  Commit : ℕ → ℕ → ℕ → Move
  Lost : ℕ → ℕ → Move
  -- the daemon hands out an Append
  Write : ℕ → Batch → Move
  -- a new daemon takes the place of the old one
  Renew : ℕ → Move

-- the batches that end at the place or below, and those behind them
abbrev pub ended_batches : ℕ → List Batch → List Batch
ended_batches end [] = []
ended_batches end (b ∷ bs) = cond (nat_le (b.base + b.count) end) (b ∷ ended_batches end bs) []

abbrev pub unended_batches : ℕ → List Batch → List Batch
unended_batches end [] = []
unended_batches end (b ∷ bs) = cond (nat_le (b.base + b.count) end) (unended_batches end bs) (b ∷ bs)

abbrev pub new_node : Node
new_node = record { image = None; batches = []; end = 0; leads = None; settled = []; own = [] }

abbrev pub set_node : ℕ → Node → (ℕ → Node) → ℕ → Node
set_node k n nodes j = cond (nat_eq k j) n (nodes j)

abbrev pub with_node : Cluster → ℕ → Node → Cluster
with_node c k n = record c { nodes = set_node k n c.nodes }

abbrev pub fed : Node → Batch → Node
fed n b = record n { batches = n.batches ++ b ∷ []; end = n.end + b.count }

abbrev pub loaded : Node → StoredImage → Node
loaded n image = record n { image = Some image; batches = []; end = image.offset }

abbrev pub told_to_lead : Node → ℕ → Node
told_to_lead n epoch = record n { leads = Some epoch; settled = []; own = [] }

abbrev pub committed : Node → ℕ → Node
committed n end = record n { batches = n.batches ++ ended_batches end n.own; end = end; settled = n.settled ++ ended_batches end n.own; own = unended_batches end n.own }

abbrev pub after_loss : Node → Node
after_loss n = record n { leads = None; settled = []; own = [] }

abbrev pub moved : Cluster → Move → Cluster
moved c (Store change) = record c { point = point_after c.point change }
moved c (Feed k batch) = with_node c k (fed (c.nodes k) batch)
moved c (Load k image) = with_node c k (loaded (c.nodes k) image)
moved c (Lead k epoch end) = with_node c k (told_to_lead (c.nodes k) epoch)
moved c (Commit k epoch end) = with_node c k (committed (c.nodes k) end)
moved c (Lost k epoch) = with_node c k (after_loss (c.nodes k))
moved c (Write k batch) = with_node c k (record (c.nodes k) { own = (c.nodes k).own ++ batch ∷ [] })
moved c (Renew k) = with_node c k new_node

-- it is the node's leadership in the epoch, it began with these batches, and these were the first that it appended
pub record IsLeadershipOf (l : Leadership) (node epoch : ℕ) (start wrote : List Batch) : Type 0 where
  pub holder : l.node ≡ node
  pub number : l.epoch ≡ epoch
  pub began : l.start ≡ start
  pub more : List Batch
  pub wrote_first : l.wrote ≡ wrote ++ more

-- one of them is
abbrev pub Led : List Leadership → ℕ → ℕ → List Batch → List Batch → Type 0
Led [] node epoch start wrote = ⊥
Led (l ∷ ls) node epoch start wrote = IsLeadershipOf l node epoch start wrote ⊎ Led ls node epoch start wrote

-- a Lead: its own transaction took the epoch, and it was fed up to the end that the log had then
pub record MayLead (p : Point) (k : ℕ) (n : Node) (epoch end : ℕ) : Type 0 where
  pub standby : n.leads ≡ None
  pub start : List Batch
  pub ours : Led p.leaderships k epoch start []
  pub begins : behind 0 start ≡ end
  pub reached : n.end ≡ end

-- a Commit: the batches that it wrote up to the end were appended by its own leadership, in this order
pub record MayCommit (p : Point) (k : ℕ) (n : Node) (epoch end : ℕ) : Type 0 where
  pub leads : n.leads ≡ Some epoch
  pub start : List Batch
  pub ours : Led p.leaderships k epoch start (n.settled ++ ended_batches end n.own)
  pub whole : behind n.end (ended_batches end n.own) ≡ end

pub record MayLoad (make : List Batch → List ℕ) (p : Point) (n : Node) (image : StoredImage) : Type 0 where
  pub standby : n.leads ≡ None
  pub later : n.end ≤ image.offset
  pub right : ImageStandsFor make p.log image

abbrev pub IsAllowedMove : (List Batch → List ℕ) → Cluster → Move → Type 0
IsAllowedMove make c (Store change) = IsSent make c.point change
IsAllowedMove make c (Feed k batch) = ((c.nodes k).leads ≡ None) × BatchStandsAt c.point.log (c.nodes k).end batch
IsAllowedMove make c (Load k image) = MayLoad make c.point (c.nodes k) image
IsAllowedMove make c (Lead k epoch end) = MayLead c.point k (c.nodes k) epoch end
IsAllowedMove make c (Commit k epoch end) = MayCommit c.point k (c.nodes k) epoch end
IsAllowedMove make c (Lost k epoch) = (c.nodes k).leads ≡ Some epoch
IsAllowedMove make c (Write k batch) = IsSome (c.nodes k).leads
IsAllowedMove make c (Renew k) = Unit {0}

abbrev pub AreAllowed : (List Batch → List ℕ) → Cluster → List Move → Type 0
AreAllowed make c [] = Unit {0}
AreAllowed make c (move ∷ moves) = IsAllowedMove make c move × AreAllowed make (moved c move) moves

abbrev pub at_first : Cluster
at_first = record { point = no_history; nodes = λ k. new_node }

abbrev pub cluster : List Move → Cluster
cluster moves = fold moved at_first moves
