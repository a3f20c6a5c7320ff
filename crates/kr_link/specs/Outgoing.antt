-- What goes out of a link.
use Rattle.std.specs.Prelude.{ℕ, List, [], ◌∷◌, ◌++◌, fold, flat_map}
use Rattle.kr_base.specs.Causes.{raised}
use Rattle.law_quorum.specs.Batches.{Batch}
use Rattle.law_quorum.specs.Changes.{base_of_first}
use Rattle.law_link.specs.Links.{Held}
use Rattle.law_core.specs.Core.{CallAppend, CallDrop, Deed, HandBatch, HandCommit, HandImage, HandLead, HandLost, Leading, Resign, Role}
use Rattle.kr_link.specs.declared.actions.Action.{Action}
use Rattle.kr_link.specs.declared.actions.Action.TheVariants as actions
use Rattle.kr_link.specs.declared.actions.DaemonFrame.TheVariants as frames

-- what wasn't taken yet, and how many frames that the daemon counts as events went to it since it connected
pub record Outgoing : Type 0 where
  pub actions : List Action
  pub events : ℕ

-- batches for a leadership, behind both halves of their guard
abbrev pub append_action : Held → List Batch → Action
append_action h group = actions.Append (record { made = h.made; end = base_of_first group }) group

-- what a deed of the core sends and calls for
abbrev pub actions_of : Deed → List Action
actions_of (HandBatch b) = actions.Send (frames.Feed b) ∷ []
actions_of (HandImage image) = actions.Send (frames.Load image) ∷ []
actions_of (HandLead h) = actions.Send (frames.Lead h.epoch h.start) ∷ []
actions_of (HandCommit h end) = actions.Send (frames.Commit h.epoch end) ∷ []
actions_of (HandLost h) = actions.Send (frames.Lost h.epoch) ∷ []
actions_of (CallAppend h group waits) = append_action h group ∷ []
actions_of (CallDrop before image) = actions.DropBatches before image.offset image ∷ []
actions_of (Resign h) = actions.Resign h.made ∷ []
actions_of other = []

abbrev pub events_behind : ℕ → Action → ℕ
events_behind events (actions.Send frame) = raised events
events_behind events other = events

abbrev pub put_one : Outgoing → Action → Outgoing
put_one out action = record { actions = out.actions ++ action ∷ []; events = events_behind out.events action }

abbrev pub put_all : Outgoing → List Deed → Outgoing
put_all out deeds = fold put_one out (flat_map actions_of deeds)

-- the append under way is called for again
abbrev pub again_with : Outgoing → Held → List Batch → Outgoing
again_with out h [] = out
again_with out h (b ∷ bs) = put_one out (append_action h (b ∷ bs))

abbrev pub put_again : Outgoing → Role → Outgoing
put_again out (Leading h asked waits) = again_with out h asked
put_again out other = out
