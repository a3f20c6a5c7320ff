-- What a move makes of its node, and of what the nodes share.
use Rattle.std.specs.Prelude.{◌≡◌, ◌+◌, ◌+ℤ◌, ℕ, ℤ, pos, List, [], ◌++◌, set, false, if◌then◌else◌, Some, Result, Ok, Err}
use Rattle.std.specs.Int.{saturate_signed, w64}
use Rattle.std.specs.Ordering.{int_eq}
use Rattle.std.specs.List.{AllByRecursion, slice_get}
use Rattle.kr_calls.specs.declared.calls.Ask.TheVariants as asks
use Rattle.kr_calls.specs.declared.calls.Call.{Call}
use Rattle.kr_calls.specs.declared.calls.Request.{Request}
use Rattle.kr_calls.specs.declared.events.Event.TheVariants as events
use Rattle.kr_calls.specs.Decide.{is_read}
use Rattle.kr_batch.specs.declared.Batch.{Batch}
use Rattle.kr_defs.specs.declared.options.Options.{Options}
use Rattle.kr_model.specs.Engine.{IsSound, outputs_left}
use Rattle.law_nodes.specs.declared.moves.Move.{Move}
use Rattle.law_nodes.specs.declared.moves.Move.TheVariants as moves
use Rattle.law_nodes.specs.declared.moves.MoveFault.{MoveFault}
use Rattle.law_nodes.specs.declared.moves.MoveFault.TheVariants as faults
use Rattle.law_nodes.specs.Moves as table
use Rattle.law_nodes.specs.Moves.{run, with_event}
use Rattle.law_nodes.specs.Nodes.{Run, RunNode}
use Rattle.kr_nodes.specs.declared.cluster.Cluster.{Cluster}
use Rattle.kr_nodes.specs.declared.node.Node.{Node}
use Rattle.kr_nodes.specs.declared.shared.Shared.{Shared}
use Rattle.kr_nodes.specs.Standing.{StandsForNode, StandsForRun, StandsForShared}

-- the next event may come
pub record IsIdleNode (node : Node) : Type 0 where
  pub sound : IsSound node.engine
  pub drained : outputs_left node.engine ≡ []

abbrev pub AreIdle : List Node → Type 0
AreIdle nodes = AllByRecursion IsIdleNode nodes

-- ---- places behind an event

abbrev pub passed : ℤ → Node → ℕ
passed before node = if int_eq node.engine.committed before then node.fed else node.fed + 1

abbrev pub told_fed : ℤ → Node → ℕ
told_fed end node = if int_eq node.engine.committed end then node.sent else node.fed

abbrev pub skipped : ℤ → ℕ → Node → ℕ
skipped end fed node = if int_eq node.engine.committed end then fed else node.fed

-- an end, so many items later
abbrev pub longer : ℤ → ℕ → ℤ
longer end count = saturate_signed w64 (end +ℤ pos count)

abbrev pub IsWriteRequest : Request → Type 0
IsWriteRequest request = is_read request ≡ false

-- a move of one node alone
abbrev pub IsOfOne : Move → Type 0
IsOfOne (moves.Copy from to) = ⊥
IsOfOne other = Unit {0}

-- ---- rows of the table, of a node that is there

abbrev pub Row : Type 0
Row = Options → Run → RunNode → Result Run MoveFault

abbrev pub ask_outcome : Options → Run → ℕ → RunNode → ℕ → ℤ → Call → Result Run MoveFault
ask_outcome options r k n client now call = Ok (with_event options r k n (events.Request client now (asks.Call call)))

abbrev pub tick_outcome : Options → Run → ℕ → RunNode → ℤ → Result Run MoveFault
tick_outcome options r k n now = Ok (with_event options r k n (events.Tick now))

abbrev pub one_outcome : Options → Run → ℕ → RunNode → Move → Result Run MoveFault
one_outcome options r k n (moves.Feed node) = table.feed r k n
one_outcome options r k n (moves.Elect node epoch now) = table.elect options r k n epoch now
one_outcome options r k n (moves.Ask node client now call) = ask_outcome options r k n client now call
one_outcome options r k n (moves.Tick node now) = tick_outcome options r k n now
one_outcome options r k n (moves.Settle node) = table.settle r k n
one_outcome options r k n (moves.Tell node) = table.tell options r k n
one_outcome options r k n (moves.Depose node) = table.depose options r k n
one_outcome options r k n (moves.Copy from to) = Ok r

-- ---- what a row leaves

-- the moves that led to it
pub record IsReached (options : Options) (r : Run) : Type 0 where
  pub nodes : ℕ
  pub past : List Move
  pub is : r ≡ run options nodes past

-- one node is another, and the list at most longer
pub record LeavesRun (options : Options) (r next : Run) (k : ℕ) (after : Node) (shared : Shared) : Type 0 where
  pub node : RunNode
  pub nodes_are : next.nodes ≡ set r.nodes k node
  pub more : List Batch
  pub grows : next.list ≡ r.list ++ more
  pub stands : StandsForNode options next.list node after
  pub shares : StandsForShared next shared

abbrev pub GoesTo : (Options → Run → RunNode → Run) → ℕ → Node → Node → Shared → Shared → Type 0
GoesTo to k before after shared shared' =
    (options : Options) (r : Run) (n : RunNode) → slice_get r.nodes k ≡ Some n → StandsForNode options r.list n before → StandsForShared r shared
    → LeavesRun options r (to options r n) k after shared'

abbrev pub ActsBy : Options → Run → ℕ → Result Run MoveFault → Node → Node → Shared → Shared → Result (Unit {0}) MoveFault → Type 0
ActsBy options r k outcome before after shared shared' (Ok done) = (next : Run) × (outcome ≡ Ok next) × LeavesRun options r next k after shared'
ActsBy options r k outcome before after shared shared' (Err faults.NoMemory) = Unit {0}
ActsBy options r k outcome before after shared shared' (Err fault) = (outcome ≡ Err fault) × (after ≡ before) × (shared' ≡ shared)

abbrev pub Acts : Row → ℕ → Node → Node → Shared → Shared → Result (Unit {0}) MoveFault → Type 0
Acts row k before after shared shared' result =
    (options : Options) (r : Run) (n : RunNode) → IsReached options r → slice_get r.nodes k ≡ Some n → StandsForNode options r.list n before → StandsForShared r shared
    → ActsBy options r k (row options r n) before after shared shared' result

-- among all nodes
pub record ActsAt (row : Row) (k : ℕ) (nodes nodes' : List Node) (shared shared' : Shared) (result : Result (Unit {0}) MoveFault) : Type 0 where
  pub before : Node
  pub after : Node
  pub there : slice_get nodes k ≡ Some before
  pub put : nodes' ≡ set nodes k after
  pub acts : Acts row k before after shared shared' result

-- ---- of all nodes

abbrev pub moved_node : Move → ℕ
moved_node (moves.Feed node) = node
moved_node (moves.Elect node epoch now) = node
moved_node (moves.Ask node client now call) = node
moved_node (moves.Tick node now) = node
moved_node (moves.Settle node) = node
moved_node (moves.Tell node) = node
moved_node (moves.Depose node) = node
moved_node (moves.Copy from to) = from

-- the answer is the table's
abbrev pub MakesRun : Options → Run → Result Run MoveFault → Cluster → Result (Unit {0}) MoveFault → Type 0
MakesRun options r outcome after (Ok done) = (next : Run) × (outcome ≡ Ok next) × StandsForRun options next after
MakesRun options r outcome after (Err faults.NoMemory) = Unit {0}
MakesRun options r outcome after (Err fault) = (outcome ≡ Err fault) × StandsForRun options r after

abbrev pub MakesSome : Cluster → Cluster → Move → Result (Unit {0}) MoveFault → Type 0
MakesSome before after turn result =
    (options : Options) (r : Run) → IsReached options r → StandsForRun options r before → MakesRun options r (table.move_outcome options r turn) after result
