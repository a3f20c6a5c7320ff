-- Frames under way, to daemons and from them.
use Rattle.std.specs.Prelude.{◌≡◌, ◌<◌, ℕ, Bool, false, List, [], ◌∷◌, ◌++◌, cond, Option, None, Some, nat_eq, fold, flat_map}
use Rattle.law_quorum.specs.Batches.{Batch, StoredImage, behind}
use Rattle.law_quorum.specs.History.{Point}
use Rattle.law_quorum.specs.NodeLaws.{IsFedNode}
use Rattle.law_quorum.specs.Nodes.{Cluster, Move, Node, moved, new_node}
use Rattle.law_quorum.specs.Nodes as moves
use Rattle.law_link.specs.Links.{Give, Has, IsPossible, LinkStep, MayWrite, Stray, Web, Write, handed, no_web, stepped}

pub data Frame : Type 0 where
  Feed : Batch → Frame
  Load : StoredImage → Frame
  -- of an epoch and an end
  Lead : ℕ → ℕ → Frame
  Commit : ℕ → ℕ → Frame
  Lost : ℕ → Frame

abbrev pub move_of : ℕ → Frame → Move
move_of k (Feed b) = moves.Feed k b
move_of k (Load image) = moves.Load k image
move_of k (Lead epoch end) = moves.Lead k epoch end
move_of k (Commit epoch end) = moves.Commit k epoch end
move_of k (Lost epoch) = moves.Lost k epoch

pub record Network : Type 0 where
  -- the store and the links; its nodes are what the daemons will be once they took all that is under way to them
  pub web : Web
  -- the daemons as they are
  pub daemons : ℕ → Node
  -- what is under way to each, the next first
  pub frames : ℕ → List Frame
  -- the images that each gave, and may reach its link at any time
  pub images : ℕ → List StoredImage

pub data NetworkStep : Type 0 where
  -- a step of a link or of the store
  Act : LinkStep → NetworkStep
  -- a daemon takes the next frame; of what is under way to it that is the rest
  Arrive : ℕ → Frame → List Frame → NetworkStep
  -- it writes a batch
  Emit : ℕ → Batch → NetworkStep
  -- it makes an image
  Snapshot : ℕ → StoredImage → NetworkStep

abbrev pub set_at : {X : Type 0} → ℕ → X → (ℕ → X) → ℕ → X
set_at k x xs j = cond (nat_eq k j) x (xs j)

-- ---- what is under way

abbrev pub with_frame : ℕ → Frame → (ℕ → List Frame) → ℕ → List Frame
with_frame k frame frames = set_at k (frames k ++ frame ∷ []) frames

-- a new daemon's connection has nothing under way
abbrev pub send : (ℕ → List Frame) → Move → ℕ → List Frame
send frames (moves.Feed k b) = with_frame k (Feed b) frames
send frames (moves.Load k image) = with_frame k (Load image) frames
send frames (moves.Lead k epoch end) = with_frame k (Lead epoch end) frames
send frames (moves.Commit k epoch end) = with_frame k (Commit epoch end) frames
send frames (moves.Lost k epoch) = with_frame k (Lost epoch) frames
send frames (moves.Renew k) = set_at k [] frames
send frames other = frames

abbrev pub frames_after : Network → NetworkStep → ℕ → List Frame
frames_after n (Act step) = fold send n.frames (handed n.web step)
frames_after n (Arrive k frame rest) = set_at k rest n.frames
frames_after n other = n.frames

abbrev pub images_after : Network → NetworkStep → ℕ → List StoredImage
images_after n (Snapshot k image) = set_at k (image ∷ n.images k) n.images
images_after n other = n.images

-- ---- what the store, the links and the daemons make of a step

-- of what a step hands over that which waits for no daemon
abbrev pub at_once : Move → List Move
at_once (moves.Store change) = moves.Store change ∷ []
at_once (moves.Renew k) = moves.Renew k ∷ []
at_once other = []

-- what happens to the store and the daemons
abbrev pub daemon_moves : Network → NetworkStep → List Move
daemon_moves n (Act step) = flat_map at_once (handed n.web step)
daemon_moves n (Arrive k frame rest) = move_of k frame ∷ []
daemon_moves n (Emit k b) = moves.Write k b ∷ []
daemon_moves n (Snapshot k image) = []

abbrev pub leads_epoch : Option ℕ → ℕ → Bool
leads_epoch None epoch = false
leads_epoch (Some led) epoch = nat_eq led epoch

-- what it is for the links: a daemon may write a batch though its leadership was daemon_moves from it, for all that its link knows
abbrev pub emitted : Bool → ℕ → Batch → LinkStep
emitted leads k b = cond leads (Write k b) (Stray k b)

abbrev pub as_seen : Network → NetworkStep → List LinkStep
as_seen n (Act step) = step ∷ []
as_seen n (Arrive k frame rest) = []
as_seen n (Emit k b) = emitted (leads_epoch (n.web.cluster.nodes k).leads b.epoch) k b ∷ []
as_seen n (Snapshot k image) = []

abbrev pub daemons_of : Network → Cluster
daemons_of n = record { point = n.web.cluster.point; nodes = n.daemons }

abbrev pub network_after : Network → NetworkStep → Network
network_after n step = record {
  web = fold stepped n.web (as_seen n step);
  daemons = (fold moved (daemons_of n) (daemon_moves n step)).nodes;
  frames = frames_after n step;
  images = images_after n step;
}

-- ---- what may happen

-- the daemon's promise: its image is of a beginning of what it was handed, where that was a beginning of the log
pub record MaySnapshot (make : List Batch → List ℕ) (p : Point) (k : ℕ) (d : Node) (image : StoredImage) : Type 0 where
  pub first : List Batch
  pub more : List Batch
  pub split : d.batches ≡ first ++ more
  pub right : (fed : IsFedNode make p k d) → (behind 0 (fed.gone ++ first) ≡ image.offset) × (image.bytes ≡ make (fed.gone ++ first))

-- what daemons do, links don't; an image that a link calls for was given by its daemon, be it long ago
abbrev pub MayAct : (List Batch → List ℕ) → Network → LinkStep → Type 0
MayAct make n (Write k b) = ⊥
MayAct make n (Stray k b) = ⊥
MayAct make n (Give k keep) = (keep.before < keep.image.offset) × Has keep.image (n.images k)
MayAct make n other = IsPossible make n.web other

abbrev pub MayHappen : (List Batch → List ℕ) → Network → NetworkStep → Type 0
MayHappen make n (Act step) = MayAct make n step
MayHappen make n (Arrive k frame rest) = n.frames k ≡ frame ∷ rest
MayHappen make n (Emit k b) = MayWrite (n.daemons k) b
MayHappen make n (Snapshot k image) = MaySnapshot make n.web.cluster.point k (n.daemons k) image

abbrev pub AllMayHappen : (List Batch → List ℕ) → Network → List NetworkStep → Type 0
AllMayHappen make n [] = Unit {0}
AllMayHappen make n (step ∷ steps) = MayHappen make n step × AllMayHappen make (network_after n step) steps

abbrev pub all_daemon_moves : Network → List NetworkStep → List Move
all_daemon_moves n [] = []
all_daemon_moves n (step ∷ steps) = daemon_moves n step ++ all_daemon_moves (network_after n step) steps

abbrev pub all_link_steps : Network → List NetworkStep → List LinkStep
all_link_steps n [] = []
all_link_steps n (step ∷ steps) = as_seen n step ++ all_link_steps (network_after n step) steps

abbrev pub no_network : Network
no_network = record { web = no_web; daemons = λ k. new_node; frames = λ k. []; images = λ k. [] }
