-- Links: what each knows, asks of the store, and hands its daemon.
use Rattle.std.specs.Prelude.{◌≡◌, ◌<◌, ◌⊎◌, ℕ, List, [], ◌∷◌, ◌++◌, cond, Option, None, Some, nat_eq, fold}
use Rattle.law_quorum.specs.Batches.{Batch, StoredImage, BatchStandsAt, ImageStandsFor, behind}
use Rattle.law_quorum.specs.Changes.{Append, Change, Drop}
use Rattle.law_quorum.specs.History.{Leadership}
use Rattle.law_quorum.specs.Nodes.{Cluster, MayLoad, Move, Node, at_first, moved}
use Rattle.law_quorum.specs.Nodes as moves

-- a leadership that was taken: its epoch, the revision at which its key was made, and the log's end then
pub record Held : Type 0 where
  pub epoch : ℕ
  pub made : ℕ
  pub start : ℕ

-- a call of an append: it may reach the store at any time from then on, more than once, or never
pub record Call : Type 0 where
  pub epoch : ℕ
  pub made : ℕ
  pub group : List Batch

-- a call that puts an image in the place of batches, where the image that stands is still of the place before
pub record Keep : Type 0 where
  pub before : ℕ
  pub image : StoredImage

pub record Link : Type 0 where
  pub held : Option Held
  -- the batches of the append whose answer it waits for, and those that it heard of behind them
  pub asked : List Batch
  pub waits : List Batch
  -- the batches that are under way from the daemon
  pub pipe : List Batch
  -- the epochs that it was told to have taken, and all calls that it ever made: not kept, but what did happen
  pub won : List ℕ
  pub calls : List Call
  pub keeps : List Keep

pub record Web : Type 0 where
  pub cluster : Cluster
  pub links : ℕ → Link

pub data LinkStep : Type 0 where
  -- the store makes an append that a node's link called for
  Execute : ℕ → Call → LinkStep
  -- the store puts an image in the place of batches, as a node's link called for
  Clear : ℕ → Keep → LinkStep
  -- the store makes another change
  Make : Change → LinkStep
  -- a link is told that its campaign took effect
  Win : ℕ → Held → LinkStep
  -- on standby a link hands in what it read
  Read : ℕ → Batch → LinkStep
  Take : ℕ → StoredImage → LinkStep
  -- it makes its daemon lead
  Begin : ℕ → Held → LinkStep
  -- the daemon writes a batch
  Write : ℕ → Batch → LinkStep
  -- a daemon to which a Lost is under way writes a batch still
  Stray : ℕ → Batch → LinkStep
  -- the link takes a batch from the daemon, of the epoch that it leads; it passes over one of another epoch
  Hear : ℕ → Batch → List Batch → LinkStep
  Pass : ℕ → Batch → List Batch → LinkStep
  -- the link calls for an append of the next batches, and of those behind them it knows the rest
  Ask : ℕ → Held → List Batch → List Batch → LinkStep
  -- it is told that they stand, and commits them
  Settle : ℕ → Held → LinkStep
  -- the daemon gives an image of what is committed, and the link calls for it to be kept
  Give : ℕ → Keep → LinkStep
  -- it gives a leadership up: one that its daemon was told of, and one that it wasn't
  GiveUp : ℕ → ℕ → LinkStep
  LetGo : ℕ → LinkStep
  -- another daemon and link take the place of the node's
  Renew : ℕ → LinkStep

abbrev pub idle : Link → Link
idle link = record link { held = None; asked = []; waits = [] }

abbrev pub append_of : Call → Change
append_of c = Append c.made c.group

-- what a step hands to a daemon, or makes of the store
abbrev pub handed : Web → LinkStep → List Move
handed w (Execute k call) = moves.Store (append_of call) ∷ []
handed w (Clear k keep) = moves.Store (Drop keep.before keep.image) ∷ []
handed w (Make change) = moves.Store change ∷ []
handed w (Win k h) = []
handed w (Read k b) = moves.Feed k b ∷ []
handed w (Take k image) = moves.Load k image ∷ []
handed w (Begin k h) = moves.Lead k h.epoch h.start ∷ []
handed w (Write k b) = moves.Write k b ∷ []
handed w (Stray k b) = []
handed w (Hear k b rest) = []
handed w (Pass k b rest) = []
handed w (Ask k h group rest) = []
handed w (Settle k h) = moves.Commit k h.epoch (behind (w.cluster.nodes k).end (w.links k).asked) ∷ []
handed w (Give k keep) = []
handed w (GiveUp k epoch) = moves.Lost k epoch ∷ []
handed w (LetGo k) = []
handed w (Renew k) = moves.Renew k ∷ []

abbrev pub set_link : ℕ → Link → (ℕ → Link) → ℕ → Link
set_link k link links j = cond (nat_eq k j) link (links j)

abbrev pub links_after : Web → LinkStep → ℕ → Link
links_after w (Win k h) = set_link k (record { held = Some h; asked = []; waits = []; pipe = (w.links k).pipe; won = h.epoch ∷ (w.links k).won; calls = (w.links k).calls; keeps = (w.links k).keeps }) w.links
links_after w (Begin k h) = set_link k (record (w.links k) { asked = []; waits = [] }) w.links
links_after w (Write k b) = set_link k (record (w.links k) { pipe = (w.links k).pipe ++ b ∷ [] }) w.links
links_after w (Stray k b) = set_link k (record (w.links k) { pipe = (w.links k).pipe ++ b ∷ [] }) w.links
links_after w (Hear k b rest) = set_link k (record (w.links k) { pipe = rest; waits = (w.links k).waits ++ b ∷ [] }) w.links
links_after w (Pass k b rest) = set_link k (record (w.links k) { pipe = rest }) w.links
links_after w (Ask k h group rest) = set_link k (record (w.links k) { asked = group; waits = rest; calls = record { epoch = h.epoch; made = h.made; group = group } ∷ (w.links k).calls }) w.links
links_after w (Settle k h) = set_link k (record (w.links k) { asked = [] }) w.links
links_after w (Give k keep) = set_link k (record (w.links k) { keeps = keep ∷ (w.links k).keeps }) w.links
links_after w (GiveUp k epoch) = set_link k (idle (w.links k)) w.links
links_after w (LetGo k) = set_link k (idle (w.links k)) w.links
links_after w (Renew k) = set_link k (record (idle (w.links k)) { pipe = [] }) w.links
links_after w _ = w.links

abbrev pub stepped : Web → LinkStep → Web
stepped w step = record { cluster = fold moved w.cluster (handed w step); links = links_after w step }

abbrev pub Has : {X : Type 0} → X → List X → Type 0
Has x [] = ⊥
Has x (y ∷ ys) = (x ≡ y) ⊎ Has x ys

-- the leadership of an epoch
abbrev pub leadership_at : ℕ → List Leadership → Option Leadership
leadership_at epoch [] = None
leadership_at epoch (l ∷ ls) = cond (nat_eq l.epoch epoch) (Some l) (leadership_at epoch ls)

-- the node's transaction took the epoch; the key, and the end of the log then, are as it was told
pub record TookLeadership (ls : List Leadership) (k : ℕ) (h : Held) : Type 0 where
  pub leadership : Leadership
  pub found : leadership_at h.epoch ls ≡ Some leadership
  pub holder : leadership.node ≡ k
  pub key : leadership.made ≡ h.made
  pub began : behind 0 leadership.start ≡ h.start

abbrev pub IsNoAppend : Change → Type 0
IsNoAppend (Append made batches) = ⊥
IsNoAppend _ = Unit {0}

-- a campaign, the end of a lease, or a write of another key
abbrev pub IsFree : Change → Type 0
IsFree (Append made batches) = ⊥
IsFree (Drop before image) = ⊥
IsFree _ = Unit {0}

pub record MayBegin (w : Web) (k : ℕ) (h : Held) : Type 0 where
  pub holds : (w.links k).held ≡ Some h
  pub standby : (w.cluster.nodes k).leads ≡ None
  pub reached : (w.cluster.nodes k).end ≡ h.start

-- the daemon's promise: a batch that it writes has the epoch that it leads, begins where the one before it ends, and isn't empty
pub record MayWrite (n : Node) (b : Batch) : Type 0 where
  pub leads : n.leads ≡ Some b.epoch
  pub base : b.base ≡ behind n.end n.own
  pub some : 0 < b.count

-- its epoch is one that the node led before
pub record MayStray (w : Web) (k : ℕ) (b : Batch) : Type 0 where
  pub led : Has b.epoch (w.links k).won
  pub over : (h : Held) → (w.links k).held ≡ Some h → b.epoch ≡ h.epoch → ⊥

-- one append at a time, of the first batches that the daemon wrote and that weren't committed
pub record MayAsk (w : Web) (k : ℕ) (h : Held) (group rest : List Batch) : Type 0 where
  pub holds : (w.links k).held ≡ Some h
  pub leads : (w.cluster.nodes k).leads ≡ Some h.epoch
  pub none : (w.links k).asked ≡ []
  pub first : Batch
  pub others : List Batch
  pub some : group ≡ first ∷ others
  pub next : (w.links k).waits ≡ group ++ rest

-- the answer says that they stand: the first of them was seen at its place, by this try or a later one
pub record MaySettle (w : Web) (k : ℕ) (h : Held) : Type 0 where
  pub holds : (w.links k).held ≡ Some h
  pub leads : (w.cluster.nodes k).leads ≡ Some h.epoch
  pub first : Batch
  pub others : List Batch
  pub some : (w.links k).asked ≡ first ∷ others
  pub seen : BatchStandsAt w.cluster.point.log (w.cluster.nodes k).end first

-- an image of a beginning of the log, of a later place than the one that it takes the place of
pub record MayGive (make : List Batch → List ℕ) (log : List Batch) (keep : Keep) : Type 0 where
  pub later : keep.before < keep.image.offset
  pub right : ImageStandsFor make log keep.image

abbrev pub IsPossible : (List Batch → List ℕ) → Web → LinkStep → Type 0
IsPossible make w (Execute k call) = Has call (w.links k).calls
IsPossible make w (Clear k keep) = Has keep (w.links k).keeps
IsPossible make w (Make change) = IsFree change
IsPossible make w (Win k h) = ((w.links k).held ≡ None) × (Has h.epoch (w.links k).won → ⊥) × TookLeadership w.cluster.point.leaderships k h
IsPossible make w (Read k b) = ((w.cluster.nodes k).leads ≡ None) × BatchStandsAt w.cluster.point.log (w.cluster.nodes k).end b
IsPossible make w (Take k image) = MayLoad make w.cluster.point (w.cluster.nodes k) image
IsPossible make w (Begin k h) = MayBegin w k h
IsPossible make w (Write k b) = MayWrite (w.cluster.nodes k) b
IsPossible make w (Stray k b) = MayStray w k b
IsPossible make w (Hear k b rest) = ((w.links k).pipe ≡ b ∷ rest) × ((w.cluster.nodes k).leads ≡ Some b.epoch)
IsPossible make w (Pass k b rest) = ((w.links k).pipe ≡ b ∷ rest) × ((w.cluster.nodes k).leads ≡ Some b.epoch → ⊥)
IsPossible make w (Ask k h group rest) = MayAsk w k h group rest
IsPossible make w (Settle k h) = MaySettle w k h
IsPossible make w (Give k keep) = MayGive make w.cluster.point.log keep
IsPossible make w (GiveUp k epoch) = (w.cluster.nodes k).leads ≡ Some epoch
IsPossible make w (LetGo k) = (w.cluster.nodes k).leads ≡ None
IsPossible make w (Renew k) = Unit {0}

abbrev pub ArePossible : (List Batch → List ℕ) → Web → List LinkStep → Type 0
ArePossible make w [] = Unit {0}
ArePossible make w (step ∷ steps) = IsPossible make w step × ArePossible make (stepped w step) steps

abbrev pub all_handed : Web → List LinkStep → List Move
all_handed w [] = []
all_handed w (step ∷ steps) = handed w step ++ all_handed (stepped w step) steps

abbrev pub no_web : Web
no_web = record { cluster = at_first; links = λ k. record { held = None; asked = []; waits = []; pipe = []; won = []; calls = []; keeps = [] } }
