-- Runs in which each link is a core, and what comes to it is right of daemons and store.
use Rattle.std.specs.Prelude.{◌≡◌, ℕ, List, [], ◌∷◌, ◌++◌, map, fold}
use Rattle.law_quorum.specs.Batches.{Batch, BatchStandsAt, ImageStandsFor}
use Rattle.law_link.specs.Frames.{Act, AllMayHappen, MayHappen, Network, NetworkStep, network_after, no_network, set_at}
use Rattle.law_link.specs.Links.{Ask, Begin, Call, Clear, Execute, Give, GiveUp, Has, LetGo, Link, LinkStep, Make, Read, Renew, Settle, Take, TookLeadership, Win}
use Rattle.law_link.specs.Links as webs
use Rattle.law_core.specs.Core.{Appended, CallAppend, CallDrop, Came, Deed, Found, FoundImage, HandBatch, HandCommit, HandImage, HandLead, HandLost, Hear, Hold, Imaged, Joined, LinkCore, Over, Pass, Resign, Serve, Stood, Won, core_step, first_core, frames_with}

-- what a core does, as a step of the link of a node; of the batches under way from its daemon those behind the first
abbrev pub step_of : ℕ → List Batch → Deed → LinkStep
step_of k rest Serve = Renew k
step_of k rest (Hear b) = webs.Hear k b rest
step_of k rest (Pass b) = webs.Pass k b rest
step_of k rest (HandBatch b) = Read k b
step_of k rest (HandImage image) = Take k image
step_of k rest (HandLead h) = Begin k h
step_of k rest (HandCommit h end) = Settle k h
step_of k rest (HandLost h) = GiveUp k h.epoch
step_of k rest (CallAppend h group waits) = Ask k h group waits
step_of k rest (CallDrop before image) = Give k (record { before = before; image = image })
step_of k rest (Hold h) = Win k h
step_of k rest (Resign h) = LetGo k

abbrev pub behind_first : List Batch → List Batch
behind_first [] = []
behind_first (b ∷ bs) = bs

abbrev pub acts : ℕ → List Batch → List Deed → List NetworkStep
acts k rest deeds = map (λ (deed : Deed). Act (step_of k rest deed)) deeds

-- ---- runs

pub record CoreRun : Type 0 where
  pub network : Network
  pub cores : ℕ → LinkCore

pub data Event : Type 0 where
  -- something comes to the link of a node
  Comes : ℕ → Came → Event
  -- the store or a daemon does something
  Happens : NetworkStep → Event

abbrev pub steps_of : CoreRun → Event → List NetworkStep
steps_of r (Comes k came) = acts k (behind_first (r.network.web.links k).pipe) (core_step (r.cores k) came).1
steps_of r (Happens step) = step ∷ []

abbrev pub cores_after : CoreRun → Event → ℕ → LinkCore
cores_after r (Comes k came) = set_at k (core_step (r.cores k) came).0 r.cores
cores_after r (Happens step) = r.cores

abbrev pub run_after : CoreRun → Event → CoreRun
run_after r event = record { network = fold network_after r.network (steps_of r event); cores = cores_after r event }

-- ---- what may come

-- a call of this link's, for the leadership of the key, from the place on: its first batch was seen there
pub record WasSeen (log : List Batch) (link : Link) (made base : ℕ) : Type 0 where
  pub call : Call
  pub has : Has call link.calls
  pub key : call.made ≡ made
  pub first : Batch
  pub others : List Batch
  pub group : call.group ≡ first ∷ others
  pub at : first.base ≡ base
  pub seen : BatchStandsAt log base first

abbrev pub IsRightOf : (List Batch → List ℕ) → Network → ℕ → Came → Type 0
IsRightOf make n k Joined = Unit {0}
IsRightOf make n k (Appended b) = (rest : List Batch) × ((n.web.links k).pipe ≡ b ∷ rest)
IsRightOf make n k (Imaged before image) = Has image (n.images k)
IsRightOf make n k (Found b) = BatchStandsAt n.web.cluster.point.log b.base b
IsRightOf make n k (FoundImage image) = ImageStandsFor make n.web.cluster.point.log image
IsRightOf make n k (Won h) = (Has h.epoch (n.web.links k).won → ⊥) × TookLeadership n.web.cluster.point.leaderships k h
IsRightOf make n k (Stood made base) = WasSeen n.web.cluster.point.log (n.web.links k) made base
IsRightOf make n k Over = Unit {0}

-- a step of the store or of a daemon
abbrev pub IsOfNoLink : NetworkStep → Type 0
IsOfNoLink (Act (Execute k call)) = Unit {0}
IsOfNoLink (Act (Clear k keep)) = Unit {0}
IsOfNoLink (Act (Make change)) = Unit {0}
IsOfNoLink (Act other) = ⊥
IsOfNoLink other = Unit {0}

abbrev pub MayCome : (List Batch → List ℕ) → CoreRun → Event → Type 0
MayCome make r (Comes k came) = IsRightOf make r.network k came
MayCome make r (Happens step) = IsOfNoLink step × MayHappen make r.network step

abbrev pub AllMayCome : (List Batch → List ℕ) → CoreRun → List Event → Type 0
AllMayCome make r [] = Unit {0}
AllMayCome make r (event ∷ events) = MayCome make r event × AllMayCome make (run_after r event) events

abbrev pub all_steps : CoreRun → List Event → List NetworkStep
all_steps r [] = []
all_steps r (event ∷ events) = steps_of r event ++ all_steps (run_after r event) events

abbrev pub no_run : CoreRun
no_run = record { network = no_network; cores = λ k. first_core }

-- Links that are cores keep the rules of links; and what is under way to a daemon is what its core did.
abbrev pub CoresKeepTheRules : Type 0
CoresKeepTheRules = (make : List Batch → List ℕ) (events : List Event) → AllMayCome make no_run events → AllMayHappen make no_network (all_steps no_run events)

abbrev pub DeedsAreHanded : Type 0
DeedsAreHanded = (make : List Batch → List ℕ) (events : List Event) (k : ℕ) (came : Came) → AllMayCome make no_run events
    → IsRightOf make (fold run_after no_run events).network k came
    → (run_after (fold run_after no_run events) (Comes k came)).network.frames k
    ≡ fold frames_with ((fold run_after no_run events).network.frames k) (core_step ((fold run_after no_run events).cores k) came).1
