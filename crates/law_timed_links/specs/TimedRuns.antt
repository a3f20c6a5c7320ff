-- Runs of links by their clocks, over one store.
use Rattle.std.specs.Prelude.{◌≡◌, ℕ, ◌+◌, List, [], ◌∷◌, ◌++◌, fold}
use Rattle.law_quorum.specs.Batches.{Batch, StoredImage, BatchStandsAt, ImageStandsFor}
use Rattle.law_quorum.specs.Changes.{Append, Campaign, Change, Drop, Expire, Other}
use Rattle.law_quorum.specs.Nodes.{Cluster, Move, Renew, Store, Write, at_first, moved}
use Rattle.law_link.specs.Frames.{Commit, Feed, Frame, Lead, Load, Lost, MaySnapshot, move_of, set_at}
use Rattle.law_link.specs.Links.{Has, MayWrite, TookLeadership}
use Rattle.law_core.specs.Runs.{behind_first}
use Rattle.kr_link.specs.declared.actions.Action.{Action}
use Rattle.kr_link.specs.declared.actions.Action.TheVariants as actions
use Rattle.kr_link.specs.declared.actions.DaemonFrame.TheVariants as frames
use Rattle.kr_link.specs.declared.actions.Guard.{Guard}
use Rattle.kr_link.specs.declared.link.LinkSettings.{LinkSettings}
use Rattle.kr_link.specs.LinkMoves.{LinkCall, link_after}
use Rattle.kr_link.specs.LinkMoves as calls
use Rattle.kr_link.specs.Roles.{held_of}
use Rattle.kr_link.specs.TimedLinks.{TimedLink, first_link}

-- a node's link, and what is between it, its daemon and the store
pub record LinkedNode : Type 0 where
  pub link : TimedLink
  -- how many links it had before
  pub life : ℕ
  -- what was done for its links, each beside the number of the link
  pub done : List (ℕ × Action)
  -- what is under way to its daemon and from it, the next first
  pub frames : List Frame
  pub pipe : List Batch
  -- the images that its daemons gave
  pub images : List StoredImage

pub record TimedRun : Type 0 where
  -- the store, and the daemons as they are
  pub cluster : Cluster
  pub nodes : ℕ → LinkedNode

pub data TimedEvent : Type 0 where
  -- a call of the link of a node
  Calls : ℕ → LinkCall → TimedEvent
  -- the first of what it put out is done, and that is the rest
  Takes : ℕ → Action → List Action → TimedEvent
  -- another link and daemon take the place of the node's, and know nothing
  Restarts : ℕ → LinkSettings → TimedEvent
  -- the store makes a change for which a link of a node called, the one of this number; it makes another one
  Reaches : ℕ → ℕ → Action → Change → TimedEvent
  Changes : Change → TimedEvent
  -- a daemon takes the next frame, and that is the rest; it writes a batch; it gives an image
  Arrives : ℕ → Frame → List Frame → TimedEvent
  Writes : ℕ → Batch → TimedEvent
  Gives : ℕ → StoredImage → TimedEvent

-- of links or of the store
abbrev pub IsOfNoDaemon : TimedEvent → Type 0
IsOfNoDaemon (Arrives k frame rest) = ⊥
IsOfNoDaemon (Writes k b) = ⊥
IsOfNoDaemon (Gives k image) = ⊥
IsOfNoDaemon other = Unit {0}

-- ---- what an event does

-- what an action sends that hands over something of the log
abbrev pub frames_sent : Action → List Frame
frames_sent (actions.Send (frames.Feed b)) = Feed b ∷ []
frames_sent (actions.Send (frames.Load image)) = Load image ∷ []
frames_sent (actions.Send (frames.Lead epoch end)) = Lead epoch end ∷ []
frames_sent (actions.Send (frames.Commit epoch end)) = Commit epoch end ∷ []
frames_sent (actions.Send (frames.Lost epoch)) = Lost epoch ∷ []
frames_sent other = []

-- a new daemon's connection has nothing under way; a batch that the link is told of isn't any more
abbrev pub frames_left : LinkCall → List Frame → List Frame
frames_left (calls.Join now) frames = []
frames_left other frames = frames

abbrev pub pipe_left : LinkCall → List Batch → List Batch
pipe_left (calls.Join now) pipe = []
pipe_left (calls.Write b) pipe = behind_first pipe
pipe_left other pipe = pipe

abbrev pub called : LinkedNode → LinkCall → LinkedNode
called x call = record x { link = link_after x.link call; frames = frames_left call x.frames; pipe = pipe_left call x.pipe }

abbrev pub with_done : LinkedNode → Action → List Action → LinkedNode
with_done x action rest = record x {
  link = record x.link { out = record x.link.out { actions = rest } };
  done = (x.life, action) ∷ x.done;
  frames = x.frames ++ frames_sent action;
}

abbrev pub restarted : LinkedNode → LinkSettings → LinkedNode
restarted x settings = record x { link = first_link settings; life = x.life + 1; frames = []; pipe = [] }

abbrev pub nodes_after : (ℕ → LinkedNode) → TimedEvent → ℕ → LinkedNode
nodes_after nodes (Calls k call) = set_at k (called (nodes k) call) nodes
nodes_after nodes (Takes k action rest) = set_at k (with_done (nodes k) action rest) nodes
nodes_after nodes (Restarts k settings) = set_at k (restarted (nodes k) settings) nodes
nodes_after nodes (Arrives k frame rest) = set_at k (record (nodes k) { frames = rest }) nodes
nodes_after nodes (Writes k b) = set_at k (record (nodes k) { pipe = (nodes k).pipe ++ b ∷ [] }) nodes
nodes_after nodes (Gives k image) = set_at k (record (nodes k) { images = image ∷ (nodes k).images }) nodes
nodes_after nodes other = nodes

abbrev pub cluster_moves : TimedEvent → List Move
cluster_moves (Calls k (calls.Join now)) = Renew k ∷ []
cluster_moves (Restarts k settings) = Renew k ∷ []
cluster_moves (Reaches k life action change) = Store change ∷ []
cluster_moves (Changes change) = Store change ∷ []
cluster_moves (Arrives k frame rest) = move_of k frame ∷ []
cluster_moves (Writes k b) = Write k b ∷ []
cluster_moves other = []

abbrev pub timed_after : TimedRun → TimedEvent → TimedRun
timed_after r event = record { cluster = fold moved r.cluster (cluster_moves event); nodes = nodes_after r.nodes event }

-- ---- what may happen

-- an append of this node's that was done, for the leadership of the key, from the place on: its first batch was seen there
pub record IsSeenAppend (log : List Batch) (done : List (ℕ × Action)) (made base : ℕ) : Type 0 where
  pub life : ℕ
  pub guard : Guard
  pub first : Batch
  pub others : List Batch
  pub was_done : Has (life, actions.Append guard (first ∷ others)) done
  pub key : guard.made ≡ made
  pub at : first.base ≡ base
  pub seen : BatchStandsAt log base first

-- What a link is told is right: what was read is the log's, an answer is of a call that it made, a campaign took the leadership under
-- its name, which `name` gives by link and token. Before another daemon joins, all is done. The rest may be told at any time.
abbrev pub IsRightCall : (List Batch → List ℕ) → (ℕ → ℕ → ℕ) → TimedRun → ℕ → LinkCall → Type 0
IsRightCall make name r k (calls.Join now) = (r.nodes k).link.out.actions ≡ []
IsRightCall make name r k (calls.Write b) = (rest : List Batch) × ((r.nodes k).pipe ≡ b ∷ rest)
IsRightCall make name r k (calls.Win token held) =
    (took : TookLeadership r.cluster.point.leaderships k (held_of held)) × (took.leadership.token ≡ name (r.nodes k).life token)
IsRightCall make name r k (calls.Stand made base) = IsSeenAppend r.cluster.point.log (r.nodes k).done made base
IsRightCall make name r k (calls.Find b now) = BatchStandsAt r.cluster.point.log b.base b
IsRightCall make name r k (calls.FindImage image now) = ImageStandsFor make r.cluster.point.log image
IsRightCall make name r k (calls.Give image) = Has image (r.nodes k).images
IsRightCall make name r k other = Unit {0}

-- the change for which an action calls; a campaign's epoch is the one that the store compares
abbrev pub CallsFor : (ℕ → ℕ → ℕ) → ℕ → ℕ → Action → Change → Type 0
CallsFor name k life (actions.Append guard batches) change = change ≡ Append guard.made batches
CallsFor name k life (actions.DropBatches before below image) change = change ≡ Drop before image
CallsFor name k life (actions.Campaign token) change = (epoch : ℕ) × (change ≡ Campaign k (name life token) epoch)
CallsFor name k life other change = ⊥

-- for which no link calls
abbrev pub IsUncalled : Change → Type 0
IsUncalled Expire = Unit {0}
IsUncalled Other = Unit {0}
IsUncalled _ = ⊥

abbrev pub MayFollow : (List Batch → List ℕ) → (ℕ → ℕ → ℕ) → TimedRun → TimedEvent → Type 0
MayFollow make name r (Calls k call) = IsRightCall make name r k call
MayFollow make name r (Takes k action rest) = (r.nodes k).link.out.actions ≡ action ∷ rest
MayFollow make name r (Restarts k settings) = Unit {0}
MayFollow make name r (Reaches k life action change) = Has (life, action) (r.nodes k).done × CallsFor name k life action change
MayFollow make name r (Changes change) = IsUncalled change
MayFollow make name r (Arrives k frame rest) = (r.nodes k).frames ≡ frame ∷ rest
MayFollow make name r (Writes k b) = MayWrite (r.cluster.nodes k) b
MayFollow make name r (Gives k image) = MaySnapshot make r.cluster.point k (r.cluster.nodes k) image

abbrev pub AllMayFollow : (List Batch → List ℕ) → (ℕ → ℕ → ℕ) → TimedRun → List TimedEvent → Type 0
AllMayFollow make name r [] = Unit {0}
AllMayFollow make name r (event ∷ events) = MayFollow make name r event × AllMayFollow make name (timed_after r event) events

abbrev pub first_node : LinkSettings → LinkedNode
first_node settings = record { link = first_link settings; life = 0; done = []; frames = []; pipe = []; images = [] }

-- the links of the nodes, with what they are started with
abbrev pub timed_start : (ℕ → LinkSettings) → TimedRun
timed_start settings = record { cluster = at_first; nodes = λ k. first_node (settings k) }
