-- What a daemon refuses.
use Rattle.std.specs.Prelude.{◌≡◌, ◌<◌, ◌≤◌, ℕ, suc, List, [], ◌∷◌, ◌++◌, None, Some}
use Rattle.std.specs.List.{AllByRecursion}
use Rattle.law_quorum.specs.Batches.{Batch, behind}
use Rattle.law_quorum.specs.Nodes.{Node}
use Rattle.law_link.specs.Frames.{Act, AllMayHappen, Arrive, Commit, Feed, Frame, Lead, Load, Lost, Network, NetworkStep, network_after, no_network, set_at}
use Rattle.law_link.specs.Links.{Renew, Win}

-- batches of its own end there
pub record EndsOwn (d : Node) (end : ℕ) : Type 0 where
  pub ended : List Batch
  pub others : List Batch
  pub split : d.own ≡ ended ++ others
  pub at : behind d.end ended ≡ end

-- A daemon takes it: a batch and an image on standby, the one at its end, the other no lower; a leadership on standby, at its end, of an
-- epoch from the least on that is above each that it led; of the epoch that it leads a commit up to where a batch of its own ends, and
-- the loss. (kr_model refuses nothing else of these but bytes, and places that are exhausted.)
abbrev pub IsWelcome : Node → ℕ → Frame → Type 0
IsWelcome d least (Feed b) = (d.leads ≡ None) × (b.base ≡ d.end)
IsWelcome d least (Load image) = (d.leads ≡ None) × (d.end ≤ image.offset)
IsWelcome d least (Lead epoch end) = (d.leads ≡ None) × (least ≤ epoch) × (end ≡ d.end)
IsWelcome d least (Commit epoch end) = (d.leads ≡ Some epoch) × EndsOwn d end
IsWelcome d least (Lost epoch) = d.leads ≡ Some epoch

abbrev pub least_after : Frame → ℕ → ℕ
least_after (Lead epoch end) least = suc epoch
least_after other least = least

abbrev pub leasts_after : (ℕ → ℕ) → NetworkStep → ℕ → ℕ
leasts_after leasts (Arrive k frame rest) = set_at k (least_after frame (leasts k)) leasts
leasts_after leasts (Act (Renew k)) = set_at k 0 leasts
leasts_after leasts (Act other) = leasts
leasts_after leasts other = leasts

-- a campaign that a link wins is of a later epoch than those that it won before, as where it asks for one at a time
abbrev pub Rises : Network → NetworkStep → Type 0
Rises n (Act (Win k h)) = AllByRecursion (λ e. e < h.epoch) (n.web.links k).won
Rises n (Act other) = Unit {0}
Rises n other = Unit {0}

abbrev pub AllRise : Network → List NetworkStep → Type 0
AllRise n [] = Unit {0}
AllRise n (step ∷ steps) = Rises n step × AllRise (network_after n step) steps

abbrev pub IsWelcomeStep : Network → (ℕ → ℕ) → NetworkStep → Type 0
IsWelcomeStep n leasts (Arrive k frame rest) = IsWelcome (n.daemons k) (leasts k) frame
IsWelcomeStep n leasts other = Unit {0}

abbrev pub AllWelcome : Network → (ℕ → ℕ) → List NetworkStep → Type 0
AllWelcome n leasts [] = Unit {0}
AllWelcome n leasts (step ∷ steps) = IsWelcomeStep n leasts step × AllWelcome (network_after n step) (leasts_after leasts step) steps

-- daemons refuse nothing of links that keep the rules
abbrev pub NothingIsRefused : Type 0
NothingIsRefused = (make : List Batch → List ℕ) (steps : List NetworkStep) → AllMayHappen make no_network steps → AllRise no_network steps
    → AllWelcome no_network (λ k. 0) steps
