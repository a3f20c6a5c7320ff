-- What an event makes of a node.
use Rattle.std.specs.Prelude.{◌≡◌, ℕ, ℤ, pos, List, [], ◌∷◌, ◌++◌, All, Bool, FitsSigned, IfSome, Some, if◌then◌else◌}
use Rattle.std.specs.Int.{w32, w64}
use Rattle.std.specs.List.{flat_map}
use Rattle.kr_calls.specs.declared.events.Entry.{Entry}
use Rattle.kr_calls.specs.declared.events.Entry.TheVariants as entries
use Rattle.kr_calls.specs.declared.events.Event.{Event}
use Rattle.kr_defs.specs.declared.options.Options.{Options}
use Rattle.kr_defs.specs.declared.record.Item.{Item}
use Rattle.kr_model.specs.declared.writes.Write.{Write}
use Rattle.kr_model.specs.Engine.{Core, IsEngine, IsStep, outputs_left, told_left}
use Rattle.kr_model.specs.World.{State, start}
use Rattle.law_nodes.specs.ReadingBack.{IsHeldEntry}
use Rattle.kr_nodes.specs.declared.node.Node.{Node}
use Rattle.kr_nodes.specs.declared.told.ToldReply.{ToldReply}
use Rattle.kr_nodes.specs.inner.Handing.{Handed, after_outputs, handed_over}

-- ---- what an event adds

abbrev pub entry_items : Entry → List Item
entry_items (entries.Item place item) = item ∷ []
entry_items other = []

abbrev pub all_items : List Entry → List Item
all_items added = flat_map entry_items added

abbrev pub if_write : Bool → List Entry → List (List Item)
if_write is_write added = if is_write then all_items added ∷ [] else []

-- a write that is decided waits, with what it added
abbrev pub handed_noted : Bool → List Entry → Handed → Handed
handed_noted is_write added h = record h { waiting = h.waiting ++ if_write is_write added }

pub record IsFirstNode (options : Options) (node : Node) : Type 0 where
  pub options_are : node.engine.options ≡ options
  pub stands : IsEngine node.engine start []
  pub drained : outputs_left node.engine ≡ []
  pub unsettled : node.pending.unsettled.items ≡ []
  pub waiting : node.pending.waiting.items ≡ []
  pub settled : node.settled ≡ pos 0
  pub fed : node.fed ≡ 0
  pub sent : node.sent ≡ 0

-- how much of the list it has
pub record SamePlaces (before after : Node) : Type 0 where
  pub settled : after.settled ≡ before.settled
  pub fed : after.fed ≡ before.fed
  pub sent : after.sent ≡ before.sent

-- the numbers of what an event left, and of what it added, are those of their types
pub record HasHeld (e : Core) : Type 0 where
  pub held : All IsHeldEntry e.fresh
  pub tip : FitsSigned w64 e.tip
  pub epoch : (epoch : ℤ) → e.leading ≡ Some epoch → FitsSigned w32 epoch

pub record NotesAdded (is_write : Bool) (before after : Node) : Type 0 where
  pub engine : after.engine ≡ record before.engine { fresh = [] }
  pub has : HasHeld before.engine
  pub unsettled : after.pending.unsettled.items ≡ before.pending.unsettled.items
  pub waiting : after.pending.waiting.items ≡ before.pending.waiting.items ++ if_write is_write before.engine.fresh
  pub places : SamePlaces before after

pub record NodeTakes (number : ℕ) (before after : Node) (is_write : Bool) (told told' : List ToldReply) (event : Event) : Type 0 where
  pub stepped : Core
  pub step : IsStep before.engine stepped event
  pub has : HasHeld stepped
  pub led : IfSome before.engine.leading (λ epoch. FitsSigned w32 epoch)
  pub options : after.engine.options ≡ stepped.options
  pub stands : (s : State) (writes : List Write) → IsEngine stepped s writes → IsEngine after.engine s writes
  pub drained : outputs_left after.engine ≡ []
  pub all : handed_over after.pending told' ≡ after_outputs number (handed_noted is_write stepped.fresh (handed_over before.pending told)) (told_left stepped)
  pub places : SamePlaces before after

pub record ReturnsToEnd (before after : Node) : Type 0 where
  pub engine : after.engine ≡ before.engine
  pub unsettled : after.pending.unsettled.items ≡ []
  pub waiting : after.pending.waiting.items ≡ before.pending.waiting.items
  pub settled : after.settled ≡ before.engine.committed
  pub fed : after.fed ≡ before.fed
  pub sent : after.sent ≡ before.fed
