-- What the image of one node's closed end makes of another.
use Rattle.std.specs.Prelude.{◌≡◌, ◌⊎◌, ℕ, ℤ, pos, List, [], set, int_lt, IfSome, Some, None, Ok, true, false}
use Rattle.std.specs.List.{slice_get}
use Rattle.std.specs.Option.{unwrap_or}
use Rattle.kr_batch.specs.declared.Batch.{Batch}
use Rattle.kr_calls.specs.declared.events.Event.{Event}
use Rattle.kr_calls.specs.declared.events.Event.TheVariants as events
use Rattle.kr_defs.specs.declared.options.Options.{Options}
use Rattle.kr_defs.specs.Image.{Image, empty}
use Rattle.kr_model.specs.Engine.{Core}
use Rattle.kr_model.specs.Load.{take_image}
use Rattle.kr_model.specs.World.{image_of_closed}
use Rattle.kr_snapshot.specs.Grammar.{IsImage}
use Rattle.kr_snapshot.specs.ImageText.{image_text}
use Rattle.kr_snapshot.specs.Reading.{image_of}
use Rattle.kr_store.specs.Images.{kept_at}
use Rattle.law_nodes.specs.declared.moves.MoveFault.{MoveFault}
use Rattle.law_nodes.specs.declared.moves.MoveFault.TheVariants as faults
use Rattle.law_nodes.specs.Moves.{after_arrival, with_event}
use Rattle.law_nodes.specs.Nodes.{RunNode}
use Rattle.kr_nodes.specs.declared.node.Node.{Node}
use Rattle.kr_nodes.specs.declared.shared.Shared.{Shared}
use Rattle.kr_nodes.specs.declared.told.ToldReply.{ToldReply}
use Rattle.kr_nodes.specs.inner.Acting.{GoesTo, IsIdleNode}
use Rattle.kr_nodes.specs.inner.Checks.{IsStandbyFault}
use Rattle.kr_nodes.specs.Standing.{AreBelow, StandsForNode}

-- ---- what is asked

pub record MayCopy (nodes : List Node) (from to : ℕ) (end : ℤ) (fed : ℕ) : Type 0 where
  pub source : Node
  pub target : Node
  pub source_is : slice_get nodes from ≡ Some source
  pub target_is : slice_get nodes to ≡ Some target
  pub idle : target.engine.leading ≡ None
  pub later : int_lt source.engine.closed target.engine.committed ≡ false
  pub end_is : end ≡ source.engine.closed
  pub fed_is : fed ≡ source.fed

pub record IsOlder (nodes : List Node) (from to : ℕ) (fault : MoveFault) : Type 0 where
  pub source : Node
  pub target : Node
  pub source_is : slice_get nodes from ≡ Some source
  pub target_is : slice_get nodes to ≡ Some target
  pub idle : target.engine.leading ≡ None
  pub older : int_lt source.engine.closed target.engine.committed ≡ true
  pub is : fault ≡ faults.OlderImage source.engine.closed target.engine.committed

pub record IsLeadingTarget (nodes : List Node) (to : ℕ) (fault : MoveFault) : Type 0 where
  pub target : Node
  pub target_is : slice_get nodes to ≡ Some target
  pub leads : IsStandbyFault to target fault

abbrev pub IsCopyFault : List Node → ℕ → ℕ → MoveFault → Type 0
IsCopyFault nodes from to fault = IsLeadingTarget nodes to fault ⊎ IsOlder nodes from to fault

-- ---- the image

-- the image that is kept at the closed end
pub record IsImageEvent (e : Core) (event : Event) : Type 0 where
  pub is : event ≡ events.Load (image_text e.closed (unwrap_or (kept_at e.images e.closed) empty))
  pub stands : IfSome (kept_at e.images e.closed) (λ image. IsImage e.closed image (image_text e.closed image))

-- it is read as the image of that end
abbrev pub GivesImage : Node → Event → Type 0
GivesImage node (events.Load bytes) =
    (options : Options) (list : List Batch) (n : RunNode) → StandsForNode options list n node → image_of bytes ≡ Ok (node.engine.closed, image_of_closed n.state)
GivesImage node other = ⊥

pub record ImagesNode (k : ℕ) (before after : Node) (shared shared' : Shared) (event : Event) : Type 0 where
  pub gives : GivesImage before event
  pub idle : IsIdleNode after
  pub goes : GoesTo (λ options r n. with_event options r k n events.Image) k before after shared shared'

pub record ImagesAt (k : ℕ) (nodes nodes' : List Node) (shared shared' : Shared) (event : Event) : Type 0 where
  pub before : Node
  pub after : Node
  pub there : slice_get nodes k ≡ Some before
  pub put : nodes' ≡ set nodes k after
  pub images : ImagesNode k before after shared shared' event

-- ---- loading it

abbrev pub LoadsBytes : ℕ → Node → Node → List ℕ → ℤ → ℕ → List ToldReply → List ToldReply → Type 0
LoadsBytes k before after bytes end fed told told' =
    (options : Options) (list : List Batch) (n : RunNode) (place : ℕ) (image : Image) → StandsForNode options list n before → n.state.world.leading ≡ None → n.waiting ≡ []
    → end ≡ pos place → image_of bytes ≡ Ok (pos place, image) → AreBelow list place fed
    → StandsForNode options list (after_arrival n (take_image n.state (pos place, image))) after × (told' ≡ told)

abbrev pub LoadsEvent : ℕ → Node → Node → Event → ℤ → ℕ → List ToldReply → List ToldReply → Type 0
LoadsEvent k before after (events.Load bytes) end fed told told' = LoadsBytes k before after bytes end fed told told'
LoadsEvent k before after other end fed told told' = Unit {0}

pub record LoadsAt (k : ℕ) (nodes nodes' : List Node) (event : Event) (end : ℤ) (fed : ℕ) (told told' : List ToldReply) : Type 0 where
  pub before : Node
  pub after : Node
  pub there : slice_get nodes k ≡ Some before
  pub put : nodes' ≡ set nodes k after
  pub loads : LoadsEvent k before after event end fed told told'
