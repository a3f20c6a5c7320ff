-- What is true of nodes that are handed only what they may be.
use Rattle.std.specs.Prelude.{◌≡◌, ℕ, List, [], ◌∷◌, ◌++◌, Some}
use Rattle.law_quorum.specs.Batches.{Batch, behind}
use Rattle.law_quorum.specs.History.{Point}
use Rattle.law_quorum.specs.Laws.{IsImageOf, IsInOrder, IsOneLog}
use Rattle.law_quorum.specs.Nodes.{AreAllowed, Lead, Led, Move, Node, at_first, cluster}

-- What a node was handed is a beginning of the one log, up to its end. Where it leads, it has what the log was when its leadership
-- began, and behind that the first batches that it appended itself.
pub record IsFedNode (make : List Batch → List ℕ) (p : Point) (k : ℕ) (n : Node) : Type 0 where
  pub gone : List Batch
  pub rest : List Batch
  pub image : IsImageOf make n.image gone
  pub split : p.log ≡ (gone ++ n.batches) ++ rest
  pub end : behind 0 (gone ++ n.batches) ≡ n.end
  pub leading : (epoch : ℕ) → n.leads ≡ Some epoch → (start : List Batch) × ((gone ++ n.batches) ≡ start ++ n.settled) × Led p.leaderships k epoch start n.settled

-- The premise: at each moment each node was handed a beginning of the one log.
abbrev pub NodesFollow : Type 0
NodesFollow = (make : List Batch → List ℕ) (moves : List Move) → AreAllowed make at_first moves
    → IsOneLog make (cluster moves).point × IsInOrder (cluster moves).point × ((k : ℕ) → IsFedNode make (cluster moves).point k ((cluster moves).nodes k))

-- two nodes with equal ends were handed the same
abbrev pub EqualEnds : Type 0
EqualEnds = (make : List Batch → List ℕ) (moves : List Move) → AreAllowed make at_first moves → (j k : ℕ)
    → ((cluster moves).nodes j).end ≡ ((cluster moves).nodes k).end
    → (one : IsFedNode make (cluster moves).point j ((cluster moves).nodes j)) (other : IsFedNode make (cluster moves).point k ((cluster moves).nodes k))
    → (one.gone ++ ((cluster moves).nodes j).batches) ≡ other.gone ++ ((cluster moves).nodes k).batches

-- no two nodes are ever told to lead in one epoch
abbrev pub OneLeader : Type 0
OneLeader = (make : List Batch → List ℕ) (moves later : List Move) (j k epoch end last : ℕ)
    → AreAllowed make at_first (moves ++ Lead j epoch end ∷ (later ++ Lead k epoch last ∷ [])) → j ≡ k
