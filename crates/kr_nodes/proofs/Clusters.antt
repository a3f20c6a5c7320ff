-- A move of all nodes.
use Rattle.std.proofs.Common.{◌≡◌, ◌∙◌, sym, subst, ℕ, zero, suc, ◌≤◌, List, [], ◌∷◌, ◌++◌, length, set, refl, ap, arith}
use Rattle.std.specs.Prelude.{Option, Some, None, Result, Ok, Err}
use Rattle.std.specs.List.{slice_get}
use Rattle.std.proofs.lemmas.List.{length-set}
use Rattle.kr_batch.specs.declared.Batch.{Batch}
use Rattle.kr_defs.specs.declared.options.Options.{Options}
use Rattle.kr_defs.proofs.Tests.{some_is}
use Rattle.law_nodes.specs.declared.moves.Move.{Move}
use Rattle.law_nodes.specs.declared.moves.Move.TheVariants as moves
use Rattle.law_nodes.specs.declared.moves.MoveFault.{MoveFault}
use Rattle.law_nodes.specs.declared.moves.MoveFault.TheVariants as faults
use Rattle.law_nodes.specs.Moves.{committed_end, if_node, move_outcome, on_node}
use Rattle.law_nodes.specs.Nodes.{Run, RunNode}
use Rattle.kr_nodes.specs.declared.cluster.Cluster.{Cluster}
use Rattle.kr_nodes.specs.declared.node.Node.{Node}
use Rattle.kr_nodes.specs.inner.Acting.{ActsAt, ActsBy, IsOfOne, LeavesRun, MakesRun, MakesSome, moved_node, one_outcome}
use Rattle.kr_nodes.specs.Standing.{AllPairs, AreBelow, StandsForNode, StandsForRun, StandsForShared}
use Rattle.kr_nodes.proofs.OwnEnds.{below_more}
use Rattle.kr_nodes.proofs.Pairs.{pair_at, pairs_put, same_length}

-- ---- nodes by their numbers

none_at : {X : Type 0} (xs : List X) (k : ℕ) → length xs ≤ k → slice_get xs k ≡ None
none_at [] k low = refl
none_at (x ∷ xs) zero low = absurd (omega (arith, low))
none_at (x ∷ xs) (suc k) low = none_at xs k (omega (arith, low))

pub at_missing : (r : Run) (k : ℕ) (next : RunNode → Result Run MoveFault) → slice_get r.nodes k ≡ None → on_node r k next ≡ Err (faults.NoNode k (length r.nodes))
at_missing r k next none = ap (λ (o : Option RunNode). if_node r k o next) none

pub at_there : (r : Run) (k : ℕ) (n : RunNode) (next : RunNode → Result Run MoveFault) → slice_get r.nodes k ≡ Some n → on_node r k next ≡ next n
at_there r k n next is = ap (λ (o : Option RunNode). if_node r k o next) is

outcome_is : (options : Options) (r : Run) (n : RunNode) (turn : Move) → IsOfOne turn → slice_get r.nodes (moved_node turn) ≡ Some n → move_outcome options r turn ≡ one_outcome options r (moved_node turn) n turn
outcome_is options r n (moves.Feed k) one is = at_there r k n _ is
outcome_is options r n (moves.Elect k epoch now) one is = at_there r k n _ is
outcome_is options r n (moves.Ask k client now call) one is = at_there r k n _ is
outcome_is options r n (moves.Tick k now) one is = at_there r k n _ is
outcome_is options r n (moves.Settle k) one is = at_there r k n _ is
outcome_is options r n (moves.Tell k) one is = at_there r k n _ is
outcome_is options r n (moves.Depose k) one is = at_there r k n _ is
outcome_is options r n (moves.Copy from to) one is = absurd one

outcome_none : (options : Options) (r : Run) (turn : Move) → IsOfOne turn → slice_get r.nodes (moved_node turn) ≡ None → move_outcome options r turn ≡ Err (faults.NoNode (moved_node turn) (length r.nodes))
outcome_none options r (moves.Feed k) one none = at_missing r k _ none
outcome_none options r (moves.Elect k epoch now) one none = at_missing r k _ none
outcome_none options r (moves.Ask k client now call) one none = at_missing r k _ none
outcome_none options r (moves.Tick k now) one none = at_missing r k _ none
outcome_none options r (moves.Settle k) one none = at_missing r k _ none
outcome_none options r (moves.Tell k) one none = at_missing r k _ none
outcome_none options r (moves.Depose k) one none = at_missing r k _ none
outcome_none options r (moves.Copy from to) one none = absurd one

-- ---- one node is another

node_more : (options : Options) (list more all : List Batch) → all ≡ list ++ more → (n : RunNode) (node : Node) → StandsForNode options list n node → StandsForNode options all n node
node_more options list more all is n node s = record {
  options_are = s.options_are;
  engine = s.engine;
  drained = s.drained;
  settled = s.settled;
  unsettled = s.unsettled;
  waiting = s.waiting;
  fed = subst (λ (l : List Batch). AreBelow l (committed_end n) node.fed) (sym is) (below_more list more (committed_end n) node.fed s.fed);
  sent = subst (λ (l : List Batch). AreBelow l n.settled node.sent) (sym is) (below_more list more n.settled node.sent s.sent);
  reads = s.reads;
  time = s.time;
}

module _ (options : Options) (r : Run) (c : Cluster) (st : StandsForRun options r c) where
  pub there : (k : ℕ) (node : Node) → slice_get c.nodes.items k ≡ Some node → (n : RunNode) × (slice_get r.nodes k ≡ Some n) × StandsForNode options r.list n node
  there k node is = pair_at (StandsForNode options r.list) r.nodes c.nodes.items k node st.nodes is

  pub put_stands : (next : Run) (k : ℕ) (after : Node) (c' : Cluster) → LeavesRun options r next k after c'.shared → c'.nodes.items ≡ set c.nodes.items k after → c'.count ≡ c.count → c'.spent ≡ c.spent → StandsForRun options next c'
  put_stands next k after c' l put count spent = record {
    running = spent ∙ st.running;
    nodes =
        subst (λ (ns : List Node). AllPairs (StandsForNode options next.list) next.nodes ns) (sym put)
        (subst (λ (ns : List RunNode). AllPairs (StandsForNode options next.list) ns (set c.nodes.items k after)) (sym l.nodes_are)
        (pairs_put (StandsForNode options r.list) (StandsForNode options next.list) (node_more options r.list l.more next.list l.grows) r.nodes c.nodes.items k l.node after st.nodes l.stands));
    count = count ∙ (st.count ∙ sym (ap (λ (ns : List RunNode). length ns) l.nodes_are ∙ length-set r.nodes k l.node));
    shared = l.shares;
  }

  pub missing : (k : ℕ) → length c.nodes.items ≤ k → (slice_get r.nodes k ≡ None) × (c.count ≡ length r.nodes)
  missing k low =
      let same = same_length (StandsForNode options r.list) r.nodes c.nodes.items st.nodes in
      (none_at r.nodes k (omega (arith, low, same)), st.count)

-- ---- a move of one node

made_by : (options : Options) (r : Run) (outcome : Result Run MoveFault) (k : ℕ) (before after : Node) (c c' : Cluster) (result : Result (Unit {0}) MoveFault) → StandsForRun options r c → slice_get c.nodes.items k ≡ Some before
    → c'.nodes.items ≡ set c.nodes.items k after → c'.count ≡ c.count → c'.spent ≡ c.spent → ActsBy options r k outcome before after c.shared c'.shared result → MakesRun options r outcome c' result
made_by options r outcome k before after c c' (Ok done) st is put count spent (next, same, l) = (next, same, put_stands options r c st next k after c' l put count spent)
made_by options r outcome k before after c c' (Err fault) st is put count spent acts = by_fault fault acts
  where
    stays : after ≡ before → c'.shared ≡ c.shared → StandsForRun options r c'
    stays same shared = record {
      running = spent ∙ st.running;
      nodes = subst (λ (ns : List Node). AllPairs (StandsForNode options r.list) r.nodes ns) (sym (put ∙ (ap (λ (n : Node). set c.nodes.items k n) same ∙ set_same c.nodes.items k before is))) st.nodes;
      count = count ∙ st.count;
      shared = subst (StandsForShared r) (sym shared) st.shared;
    }
      where
        set_same : (ns : List Node) (j : ℕ) (n : Node) → slice_get ns j ≡ Some n → set ns j n ≡ ns
        set_same [] j n is = refl
        set_same (x ∷ xs) zero n is = ap (λ (y : Node). y ∷ xs) (sym (some_is x n is))
        set_same (x ∷ xs) (suc j) n is = ap (λ (l : List Node). x ∷ l) (set_same xs j n is)

    by_fault : (f : MoveFault) → ActsBy options r k outcome before after c.shared c'.shared (Err f) → MakesRun options r outcome c' (Err f)
    by_fault (faults.NoNode a b) (same, node, shared) = (same, stays node shared)
    by_fault (faults.NotStandby a) (same, node, shared) = (same, stays node shared)
    by_fault (faults.NotLeading a) (same, node, shared) = (same, stays node shared)
    by_fault (faults.OldEpoch a b) (same, node, shared) = (same, stays node shared)
    by_fault (faults.Behind a b) (same, node, shared) = (same, stays node shared)
    by_fault (faults.NotLatest a b) (same, node, shared) = (same, stays node shared)
    by_fault (faults.NothingNew a) (same, node, shared) = (same, stays node shared)
    by_fault (faults.OlderImage a b) (same, node, shared) = (same, stays node shared)
    by_fault faults.NoMemory acts = tt

pub one_made : (c c' : Cluster) (turn : Move) (result : Result (Unit {0}) MoveFault) → IsOfOne turn
    → ActsAt (λ options r n. one_outcome options r (moved_node turn) n turn) (moved_node turn) c.nodes.items c'.nodes.items c.shared c'.shared result → c'.count ≡ c.count → c'.spent ≡ c.spent → MakesSome c c' turn result
one_made c c' turn result one a count spent = λ options r reached st.
    let p = there options r c st (moved_node turn) a.before a.there in
    made_by options r (move_outcome options r turn) (moved_node turn) a.before a.after c c' result st a.there a.put count spent
    (subst (λ (o : Result Run MoveFault). ActsBy options r (moved_node turn) o a.before a.after c.shared c'.shared result) (sym (outcome_is options r p.0 turn one p.1))
    (a.acts options r p.0 reached p.1 p.2 st.shared))

pub one_missing : (c : Cluster) (turn : Move) (fault : MoveFault) → IsOfOne turn → length c.nodes.items ≤ moved_node turn → fault ≡ faults.NoNode (moved_node turn) c.count → MakesSome c c turn (Err fault)
one_missing c turn fault one low is =
    subst (λ (f : MoveFault). MakesSome c c turn (Err f)) (sym is) (λ options r reached st.
    let m = missing options r c st (moved_node turn) low in
    (outcome_none options r turn one m.0 ∙ ap (λ n. Err (faults.NoNode (moved_node turn) n)) (sym m.1), st))

pub none_made : (c c' : Cluster) (turn : Move) (fault : MoveFault) → fault ≡ faults.NoMemory → MakesSome c c' turn (Err fault)
none_made c c' turn fault is = subst (λ (f : MoveFault). MakesSome c c' turn (Err f)) (sym is) (λ options r reached st. tt)
