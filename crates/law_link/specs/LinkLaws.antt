-- Links hand in what they may.
use Rattle.std.specs.Prelude.{◌≡◌, ℕ, List, ◌∷◌, ◌++◌, fold}
use Rattle.law_quorum.specs.Batches.{Batch, BatchStandsAt}
use Rattle.law_quorum.specs.Nodes.{AreAllowed, at_first}
use Rattle.law_link.specs.Frames.{AllMayHappen, NetworkStep, all_link_steps, all_daemon_moves, network_after, no_network}
use Rattle.law_link.specs.Links.{ArePossible, LinkStep, all_handed, no_web}

abbrev pub LinksHandRight : Type 0
LinksHandRight = (make : List Batch → List ℕ) (steps : List LinkStep) → ArePossible make no_web steps → AreAllowed make at_first (all_handed no_web steps)

-- Daemons that take it later take what they may then; and for the links all is as if they had taken it at once.
abbrev pub LateFramesAreRight : Type 0
LateFramesAreRight = (make : List Batch → List ℕ) (steps : List NetworkStep) → AllMayHappen make no_network steps
    → AreAllowed make at_first (all_daemon_moves no_network steps) × ArePossible make no_web (all_link_steps no_network steps)

-- What a daemon has committed stands in the one log at its place, then and for ever.
abbrev pub CommittedBatchesStand : Type 0
CommittedBatchesStand = (make : List Batch → List ℕ) (steps later : List NetworkStep) (k : ℕ) (b : Batch) (before after : List Batch)
    → AllMayHappen make no_network (steps ++ later) → ((fold network_after no_network steps).daemons k).batches ≡ before ++ b ∷ after
    → BatchStandsAt (fold network_after no_network (steps ++ later)).web.cluster.point.log b.base b
