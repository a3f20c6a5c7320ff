-- Daemons over links: controllers, whose events are the frames that come, and those of their own.
use Rattle.std.specs.Prelude.{◌≡◌, ℕ, ℤ, pos, List, [], ◌∷◌, ◌++◌, map, false, fold, Ok}
use Rattle.std.specs.List.{AllByRecursion}
use Rattle.kr_batch.specs.declared.Batch.{Batch}
use Rattle.kr_batch.specs.BatchBytes.{batch_bytes}
use Rattle.kr_batch.specs.Reading.{batch_of}
use Rattle.kr_calls.specs.declared.events.Event.{Event}
use Rattle.kr_calls.specs.declared.events.Event.TheVariants as events
use Rattle.kr_defs.specs.declared.options.Options.{Options}
use Rattle.kr_defs.specs.Image.{Image}
use Rattle.kr_snapshot.specs.ImageText.{image_text}
use Rattle.kr_snapshot.specs.Reading.{image_of}
use Rattle.kr_model.specs.Events.{at_time_of, outcome}
use Rattle.kr_model.specs.Outputs.{if_accepted}
use Rattle.kr_model.specs.World.{State, is_far}
use Rattle.law_quorum.specs.Batches.{behind}
use Rattle.law_nodes.specs.Nodes.{NodeTold, RunNode, after_event, batches_of, fresh_node, told_of}
use Rattle.law_link.specs.Frames.{Act, Arrive, Commit, Emit, Feed, Frame, Lead, Load, Lost, MayAct, Network, NetworkStep, Snapshot, network_after, no_network, set_at}
use Rattle.law_link.specs.Links.{LinkStep, Renew}
use Rattle.law_link.specs.Refusals.{Rises}
use Rattle.law_one_log.specs.StoredBatches.{batches_in, image_bytes, stored, stored_image}

pub record System : Type 0 where
  -- the store, the links, what is under way, and what law_link says of each daemon
  pub network : Network
  pub daemons : ℕ → RunNode
  -- all that clients were told, by any daemon that ever was
  pub told : List NodeTold

pub data SystemTurn : Type 0 where
  -- the store or a link does something
  Link : LinkStep → SystemTurn
  -- a daemon takes the frame that is next, at a time; of what is under way to it that is the rest
  Take : ℕ → Frame → List Frame → ℤ → SystemTurn
  -- a daemon takes another event
  Serve : ℕ → Event → SystemTurn

-- a frame is an event; a batch and an image are their bytes
abbrev pub event_of : Frame → ℤ → Event
event_of (Feed b) now = events.Batch b.bytes
event_of (Load image) now = events.Load image.bytes
event_of (Lead epoch end) now = events.Lead (pos epoch) (pos end) now
event_of (Commit epoch end) now = events.Commit (pos epoch) (pos end)
event_of (Lost epoch) now = events.Lost (pos epoch)

-- a client asks, time goes on, or an image is asked for
abbrev pub IsNoFrame : Event → Type 0
IsNoFrame (events.Request client now ask) = Unit {0}
IsNoFrame (events.Tick now) = Unit {0}
IsNoFrame events.Image = Unit {0}
IsNoFrame other = ⊥

-- ---- what a daemon gives its link

-- the batches that an event appends, where it is accepted
abbrev pub batches_given : Options → RunNode → Event → List Batch
batches_given options n event = if_accepted (outcome options (at_time_of n.state event) event) (batches_of options (at_time_of n.state event) event)

abbrev pub images_given : ℕ → State → Event → List NetworkStep
images_given k s events.Image = Snapshot k (stored_image s) ∷ []
images_given k s other = []

abbrev pub given_steps : Options → ℕ → RunNode → Event → List NetworkStep
given_steps options k n event = map (λ (b : Batch). Emit k (stored b)) (batches_given options n event) ++ images_given k n.state event

abbrev pub network_steps : Options → System → SystemTurn → List NetworkStep
network_steps options y (Link step) = Act step ∷ []
network_steps options y (Take k frame rest now) = Arrive k frame rest ∷ given_steps options k (y.daemons k) (event_of frame now)
network_steps options y (Serve k event) = given_steps options k (y.daemons k) event

-- ---- a turn

-- where a new daemon takes the place of the old one it begins from nothing
abbrev pub with_new : LinkStep → (ℕ → RunNode) → ℕ → RunNode
with_new (Renew k) daemons = set_at k fresh_node daemons
with_new other daemons = daemons

abbrev pub daemons_after : Options → System → SystemTurn → ℕ → RunNode
daemons_after options y (Link step) = with_new step y.daemons
daemons_after options y (Take k frame rest now) = set_at k (after_event options (y.daemons k) (event_of frame now)) y.daemons
daemons_after options y (Serve k event) = set_at k (after_event options (y.daemons k) event) y.daemons

abbrev pub told_in_turn : Options → System → SystemTurn → List NodeTold
told_in_turn options y (Link step) = []
told_in_turn options y (Take k frame rest now) = told_of options k (y.daemons k) (event_of frame now)
told_in_turn options y (Serve k event) = told_of options k (y.daemons k) event

abbrev pub turned : Options → System → SystemTurn → System
turned options y turn = record {
  network = fold network_after y.network (network_steps options y turn);
  daemons = daemons_after options y turn;
  told = y.told ++ told_in_turn options y turn;
}

abbrev pub no_system : System
no_system = record { network = no_network; daemons = λ k. fresh_node; told = [] }

-- ---- what may happen

-- the one log
abbrev pub log_batches : System → List Batch
log_batches y = batches_in y.network.web.cluster.point.log

-- the bytes of a batch, and of an image, are read as it (law_nodes' AppendsReadBack, kr_snapshot's written_images)
abbrev pub IsReadBatch : Batch → Type 0
IsReadBatch b = batch_of (batch_bytes b) ≡ Ok b

abbrev pub IsReadFrame : Frame → Type 0
IsReadFrame (Load image) = (offset : ℤ) (seen : Image) → image.bytes ≡ image_text offset seen → image_of image.bytes ≡ Ok (offset, seen)
IsReadFrame other = Unit {0}

-- places are left: the log ends no higher than a leader may begin a batch
abbrev pub HasPlaces : System → Type 0
HasPlaces y = is_far (pos (behind 0 y.network.web.cluster.point.log)) ≡ false

abbrev pub MayTurn : Options → System → SystemTurn → Type 0
MayTurn options y (Link step) = MayAct image_bytes y.network step × Rises y.network (Act step)
MayTurn options y (Take k frame rest now) = (y.network.frames k ≡ frame ∷ rest) × IsReadFrame frame × HasPlaces y
MayTurn options y (Serve k event) = IsNoFrame event × AllByRecursion IsReadBatch (batches_given options (y.daemons k) event)

abbrev pub AllMayTurn : Options → System → List SystemTurn → Type 0
AllMayTurn options y [] = Unit {0}
AllMayTurn options y (turn ∷ turns) = MayTurn options y turn × AllMayTurn options (turned options y turn) turns
