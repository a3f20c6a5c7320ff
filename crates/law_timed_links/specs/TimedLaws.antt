-- Links by their clocks keep the rules of links.
use Rattle.std.specs.Prelude.{◌≡◌, ℕ, List, ◌++◌, flat_map, fold}
use Rattle.std.specs.List.{AllByRecursion}
use Rattle.law_quorum.specs.Batches.{Batch}
use Rattle.law_quorum.specs.Changes.{base_of_first}
use Rattle.law_quorum.specs.Laws.{IsInOrder, IsOneLog}
use Rattle.law_quorum.specs.NodeLaws.{IsFedNode}
use Rattle.law_link.specs.Frames.{daemons_of, no_network}
use Rattle.law_link.specs.Refusals.{AllRise}
use Rattle.law_core.specs.Runs.{AllMayCome, CoreRun, Event, all_steps, no_run, run_after}
use Rattle.kr_link.specs.declared.actions.Action.{Action}
use Rattle.kr_link.specs.declared.actions.Action.TheVariants as actions
use Rattle.kr_link.specs.declared.link.LinkSettings.{LinkSettings}
use Rattle.law_timed_links.specs.TimedRuns.{AllMayFollow, LinkedNode, TimedEvent, TimedRun, timed_start, frames_sent, timed_after}

-- no two campaigns have one name
abbrev pub AreNames : (ℕ → ℕ → ℕ) → Type 0
AreNames name = (life token other number : ℕ) → name life token ≡ name other number → (life ≡ other) × (token ≡ number)

-- what its transaction compares and deletes is what the change for which it calls does
abbrev pub IsExact : Action → Type 0
IsExact (actions.Append guard batches) = guard.end ≡ base_of_first batches
IsExact (actions.DropBatches before below image) = below ≡ image.offset
IsExact other = Unit {0}

-- the core of a link, what is under way between it and its daemon, the images that that gave, and what was done for it
pub record IsNodeOf (r : CoreRun) (k : ℕ) (x : LinkedNode) : Type 0 where
  pub core : r.cores k ≡ x.link.core
  pub frames : r.network.frames k ≡ x.frames ++ flat_map frames_sent x.link.out.actions
  pub pipe : (r.network.web.links k).pipe ≡ x.pipe
  pub images : r.network.images k ≡ x.images
  pub done : AllByRecursion (λ (e : ℕ × Action). IsExact e.1) x.done

-- A run of cores, which are told only what is right and win campaigns of rising epochs, comes to the same store, the same daemons, and
-- the same between them.
pub record IsRunOfCores (make : List Batch → List ℕ) (t : TimedRun) : Type 0 where
  pub events : List Event
  pub may : AllMayCome make no_run events
  pub rise : AllRise no_network (all_steps no_run events)
  pub cluster : daemons_of (fold run_after no_run events).network ≡ t.cluster
  pub nodes : (k : ℕ) → IsNodeOf (fold run_after no_run events) k (t.nodes k)

-- Links by their clocks are cores.
abbrev pub TimedLinksAreCores : Type 0
TimedLinksAreCores = (make : List Batch → List ℕ) (name : ℕ → ℕ → ℕ) (settings : ℕ → LinkSettings) (events : List TimedEvent) → AreNames name
    → AllMayFollow make name (timed_start settings) events → IsRunOfCores make (fold timed_after (timed_start settings) events)

-- So the store has one log, and each daemon is at a beginning of it.
pub record KeepsOneLog (make : List Batch → List ℕ) (t : TimedRun) : Type 0 where
  pub one : IsOneLog make t.cluster.point
  pub order : IsInOrder t.cluster.point
  pub daemons : (k : ℕ) → IsFedNode make t.cluster.point k (t.cluster.nodes k)

abbrev pub TimedLinksKeepOneLog : Type 0
TimedLinksKeepOneLog = (make : List Batch → List ℕ) (name : ℕ → ℕ → ℕ) (settings : ℕ → LinkSettings) (events : List TimedEvent) → AreNames name
    → AllMayFollow make name (timed_start settings) events → KeepsOneLog make (fold timed_after (timed_start settings) events)
