-- What is true of nodes over one list, whatever the moves were.
use Rattle.std.specs.Prelude.{◌≡◌, ℕ, pos, List, Some, take}
use Rattle.std.specs.List.{AllByRecursion, slice_get}
use Rattle.kr_batch.specs.declared.Batch.{Batch}
use Rattle.kr_defs.specs.declared.options.Options.{Options}
use Rattle.kr_defs.specs.Image.{empty}
use Rattle.kr_defs.specs.Log.{apply_all, image_at}
use Rattle.law_nodes.specs.declared.moves.Move.{Move}
use Rattle.law_nodes.specs.Moves.{committed_end, run}
use Rattle.law_nodes.specs.Nodes.{RunNode, NodeTold, Run}
use Rattle.law_nodes.specs.OneList.{Follows, StandsIn, list_items}

-- the items of a reply that has a place stand there in the list
abbrev pub IsTold : List Batch → NodeTold → Type 0
IsTold list t = (place : ℕ) → t.place ≡ pos place → StandsIn (list_items list) place t.items

pub record RunAgrees (r : Run) : Type 0 where
  -- the log of each node is the list's below its committed end, from its own start on
  pub follows : (k : ℕ) (n : RunNode) → slice_get r.nodes k ≡ Some n → Follows r.list n.state.world.log (committed_end n)
  -- the image at its end is that of the list's items below that place
  pub images : (k : ℕ) (n : RunNode) → slice_get r.nodes k ≡ Some n
      → image_at n.state.world.log (committed_end n) ≡ apply_all empty (take (committed_end n) (list_items r.list))
  -- so nodes with equal ends have equal images
  pub equal : (j k : ℕ) (m n : RunNode) → slice_get r.nodes j ≡ Some m → slice_get r.nodes k ≡ Some n → committed_end m ≡ committed_end n
      → image_at m.state.world.log (committed_end m) ≡ image_at n.state.world.log (committed_end n)
  -- what a client was told of a write that stands
  pub told : AllByRecursion (IsTold r.list) r.told

abbrev pub NodesAgree : Type 0
NodesAgree = (options : Options) (nodes : ℕ) (ms : List Move) → RunAgrees (run options nodes ms)
