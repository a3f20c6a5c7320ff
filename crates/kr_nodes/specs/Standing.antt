-- For which moves a cluster stands: that of kr_nodes after them is the run of law_nodes.
use Rattle.std.specs.Prelude.{◌≡◌, ℕ, pos, List, [], ◌∷◌, ◌++◌, map, length, Bool, true, false, FitsSigned, Some, Result, Ok, Err}
use Rattle.std.specs.Int.{w64}
use Rattle.std.specs.List.{AllByRecursion, slice_get}
use Rattle.kr_batch.specs.declared.Batch.{Batch}
use Rattle.kr_batch.specs.BatchBytes.{batch_bytes}
use Rattle.kr_calls.specs.Decide.{is_read}
use Rattle.kr_calls.specs.declared.events.Event.TheVariants as events
use Rattle.kr_defs.specs.declared.options.Options.{Options}
use Rattle.kr_defs.specs.Image.{Image}
use Rattle.kr_model.specs.declared.writes.Write.{Write}
use Rattle.kr_model.specs.Engine.{IsEngine, outputs_left}
use Rattle.kr_model.specs.World.{State}
use Rattle.kr_store.specs.Images.{kept_at}
use Rattle.law_nodes.specs.declared.moves.Move.{Move}
use Rattle.law_nodes.specs.declared.moves.Move.TheVariants as moves
use Rattle.law_nodes.specs.declared.moves.MoveFault.{MoveFault}
use Rattle.law_nodes.specs.declared.moves.MoveFault.TheVariants as faults
use Rattle.law_nodes.specs.Moves.{committed_end, length_of, move_outcome, run}
use Rattle.law_nodes.specs.NodeEvents.{writes_in}
use Rattle.law_nodes.specs.Nodes.{NodeTold, Run, RunNode}
use Rattle.law_nodes.specs.OneList.{Follows, StandsIn, list_items}
use Rattle.law_nodes.specs.ReadingBack.{ReadsBack}
use Rattle.kr_nodes.specs.declared.cluster.Cluster.{Cluster}
use Rattle.kr_nodes.specs.declared.node.Node.{Node}
use Rattle.kr_nodes.specs.declared.shared.ListBatch.{ListBatch}
use Rattle.kr_nodes.specs.declared.shared.Shared.{Shared}
use Rattle.kr_nodes.specs.declared.told.ToldReply.{ToldReply}
use Rattle.kr_nodes.specs.inner.Taking.{IsFirstNode}

-- ---- of a node

-- a batch as it is fed
abbrev pub list_batch : Batch → ListBatch
list_batch b = record { event = events.Batch (batch_bytes b); count = length b.items }

abbrev pub told_as : NodeTold → ToldReply
told_as t = record { node = t.node; client = t.client; correlation = t.correlation; place = t.place; items = t.items; reply = t.reply }

-- so many batches of the list are below the place
pub record AreBelow (list : List Batch) (place : ℕ) (count : ℕ) : Type 0 where
  pub done : List Batch
  pub ahead : List Batch
  pub is : list ≡ done ++ ahead
  pub reaches : place ≡ length (list_items done)
  pub count_is : count ≡ length done

-- the node's controller stands for its state, and has handed out all
pub record StandsForNode (options : Options) (list : List Batch) (n : RunNode) (node : Node) : Type 0 where
  pub options_are : node.engine.options ≡ options
  pub engine : IsEngine node.engine n.state (writes_in n.waiting)
  pub drained : outputs_left node.engine ≡ []
  pub settled : node.settled ≡ pos n.settled
  pub unsettled : node.pending.unsettled.items ≡ map list_batch n.unsettled
  pub waiting : node.pending.waiting.items ≡ map (λ w. w.items) n.waiting
  pub fed : AreBelow list (committed_end n) node.fed
  pub sent : AreBelow list n.settled node.sent
  pub reads : AllByRecursion ReadsBack n.unsettled
  pub time : FitsSigned w64 n.state.basis.time

-- ---- of a cluster

pub record StandsForShared (r : Run) (shared : Shared) : Type 0 where
  pub list : shared.list.items ≡ map list_batch r.list
  pub reads : AllByRecursion ReadsBack r.list
  pub length_is : shared.length ≡ pos (length_of r)
  pub elected : shared.elected ≡ r.elected
  pub told : shared.told.items ≡ map told_as r.told

-- each of the one has its own of the other
abbrev pub AllPairs : {X Y : Type 0} → (X → Y → Type 0) → List X → List Y → Type 0
AllPairs P [] [] = Unit {0}
AllPairs P (x ∷ xs) (y ∷ ys) = P x y × AllPairs P xs ys
AllPairs P [] (y ∷ ys) = ⊥
AllPairs P (x ∷ xs) [] = ⊥

pub record StandsForRun (options : Options) (r : Run) (c : Cluster) : Type 0 where
  pub running : c.spent ≡ false
  pub nodes : AllPairs (StandsForNode options r.list) r.nodes c.nodes.items
  pub count : c.count ≡ length r.nodes
  pub shared : StandsForShared r c.shared

-- so many nodes, after these moves
abbrev pub StandsForMoves : Options → ℕ → List Move → Cluster → Type 0
StandsForMoves options nodes past c = StandsForRun options (run options nodes past) c

-- ---- moves

-- what a client asks is a write
abbrev pub IsWriteMove : Move → Type 0
IsWriteMove (moves.Ask node client now call) = is_read call.request ≡ false
IsWriteMove other = Unit {0}

-- a cluster stands for some moves, or wanted memory
pub record StandsForSomeMoves (c : Cluster) : Type 0 where
  pub options : Options
  pub nodes : ℕ
  pub past : List Move
  pub stands : StandsForMoves options nodes past c

abbrev pub IsReadyCluster : Cluster → Type 0
IsReadyCluster c = c.spent ≡ false → StandsForSomeMoves c

abbrev pub is_memory : Result (Unit {0}) MoveFault → Bool
is_memory (Err faults.NoMemory) = true
is_memory other = false

-- the answer is the table's, and the cluster stands for one move more
abbrev pub AnswersMove : Options → ℕ → List Move → Move → Cluster → Result (Unit {0}) MoveFault → Type 0
AnswersMove options nodes past turn after (Err faults.NoMemory) = after.spent ≡ true
AnswersMove options nodes past turn after (Err fault) = (move_outcome options (run options nodes past) turn ≡ Err fault) × StandsForMoves options nodes (past ++ turn ∷ []) after
AnswersMove options nodes past turn after (Ok done) =
    (next : Run) × (move_outcome options (run options nodes past) turn ≡ Ok next) × StandsForMoves options nodes (past ++ turn ∷ []) after

-- ---- what is so of a cluster, whatever the moves were

-- the node's log is the list's below its committed end, from its own start on
pub record FollowsList (list : List Batch) (node : Node) : Type 0 where
  pub state : State
  pub writes : List Write
  pub stands : IsEngine node.engine state writes
  pub follows : Follows list state.world.log state.world.committed

abbrev pub IsToldOf : List Batch → ToldReply → Type 0
IsToldOf list t = (place : ℕ) → t.place ≡ pos place → StandsIn (list_items list) place t.items

pub record ClusterAgrees (c : Cluster) : Type 0 where
  pub list : List Batch
  pub list_is : c.shared.list.items ≡ map list_batch list
  pub follow : (k : ℕ) (node : Node) → slice_get c.nodes.items k ≡ Some node → FollowsList list node
  -- equal ends have equal images
  pub equal : (j k : ℕ) (m n : Node) → slice_get c.nodes.items j ≡ Some m → slice_get c.nodes.items k ≡ Some n → m.engine.committed ≡ n.engine.committed
      → (image : Image) × (kept_at m.engine.images m.engine.committed ≡ Some image) × (kept_at n.engine.images n.engine.committed ≡ Some image)
  -- what was told to have been written stands in the list
  pub told : AllByRecursion (IsToldOf list) c.shared.told.items

-- so many nodes to which nothing has happened
abbrev pub AreFirst : Options → ℕ → List Node → Type 0
AreFirst options count nodes = (length nodes ≡ count) × AllByRecursion (IsFirstNode options) nodes
