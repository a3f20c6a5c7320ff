-- One move more, and what is so of a cluster after any moves.
use Rattle.std.proofs.Common.{◌≡◌, ◌∙◌, sym, subst, ℕ, zero, suc, ℤ, pos, Bool, true, false, List, [], ◌∷◌, ◌++◌, map, refl, ap, arith}
use Rattle.std.specs.Prelude.{Some, Result, Ok, Err}
use Rattle.std.specs.List.{AllByRecursion, slice_get}
use Rattle.std.specs.Option.{option_map}
use Rattle.std.specs.Result.{result_unwrap_or}
use Rattle.std.proofs.lemmas.Int.{ints}
use Rattle.std.proofs.lemmas.List.Sums.{fold-append}
use Rattle.kr_batch.specs.declared.Batch.{Batch}
use Rattle.kr_defs.specs.declared.options.Options.{Options}
use Rattle.kr_defs.specs.declared.ill.Ill.{Ill}
use Rattle.kr_defs.specs.Image.{Image, empty}
use Rattle.kr_model.specs.World.{closed_of, seen_at}
use Rattle.law_nodes.specs.declared.moves.Move.{Move}
use Rattle.law_nodes.specs.declared.moves.MoveFault.{MoveFault}
use Rattle.law_nodes.specs.declared.moves.MoveFault.TheVariants as faults
use Rattle.law_nodes.specs.Agreement.{IsTold, RunAgrees}
use Rattle.law_nodes.specs.Moves.{after_move, committed_end, move_outcome, run}
use Rattle.law_nodes.specs.NodeEvents.{writes_in}
use Rattle.law_nodes.specs.Nodes.{NodeTold, Run, RunNode, first_run}
use Rattle.law_nodes.proofs.AllMoves.{nodes_agree, run_is}
use Rattle.law_nodes.proofs.Invariant.{IsNode, at_node}
use Rattle.law_nodes.proofs.Logs.{all_closed}
use Rattle.kr_nodes.specs.declared.cluster.Cluster.{Cluster}
use Rattle.kr_nodes.specs.declared.node.Node.{Node}
use Rattle.kr_nodes.specs.inner.Acting.{AreIdle, MakesRun, MakesSome}
use Rattle.kr_nodes.specs.Standing.{AllPairs, AnswersMove, ClusterAgrees, IsReadyCluster, IsToldOf, StandsForMoves, StandsForNode, StandsForRun, StandsForShared, StandsForSomeMoves, is_memory, told_as}
use Rattle.kr_nodes.proofs.Clusters.{there}
use Rattle.kr_nodes.proofs.Copies.{kept_end}

-- ---- the next event may come to each

idle_pairs : (options : Options) (list : List Batch) (ns : List RunNode) (nodes : List Node) → AllPairs (StandsForNode options list) ns nodes → AreIdle nodes
idle_pairs options list [] [] h = tt
idle_pairs options list [] (y ∷ ys) h = absurd h
idle_pairs options list (n ∷ ns) [] h = absurd h
idle_pairs options list (n ∷ ns) (node ∷ nodes) h = (
  record { sound = record { state = n.state; writes = writes_in n.waiting; stands = h.0.engine }; drained = h.0.drained },
  idle_pairs options list ns nodes h.1,
)

pub are_idle : (c : Cluster) → IsReadyCluster c → c.spent ≡ false → AreIdle c.nodes.items
are_idle c ready running =
    let s = ready running in
    let r = run s.options s.nodes s.past in
    idle_pairs s.options r.list r.nodes c.nodes.items s.stands.nodes

-- ---- one move more

next_run : (options : Options) (nodes : ℕ) (past : List Move) (turn : Move) → run options nodes (past ++ turn ∷ []) ≡ after_move options (run options nodes past) turn
next_run options nodes past turn = fold-append (after_move options) (first_run nodes) past (turn ∷ [])

clash : (b : Bool) → b ≡ true → b ≡ false → ⊥
clash b high low = absurd cc

-- the cluster has noted whether memory was wanted
module _ (c made after : Cluster) (turn : Move) (result : Result (Unit {0}) MoveFault) (makes : MakesSome c made turn result) (nodes_are : after.nodes ≡ made.nodes) (count : after.count ≡ made.count) (shared : after.shared ≡ made.shared)
    (spent : after.spent ≡ is_memory result) where
  stands_on : (options : Options) (r : Run) → is_memory result ≡ false → StandsForRun options r made → StandsForRun options r after
  stands_on options r real st = record {
    running = spent ∙ real;
    nodes = subst (λ (ns : List Node). AllPairs (StandsForNode options r.list) r.nodes ns) (sym (ap (λ v. v.items) nodes_are)) st.nodes;
    count = count ∙ st.count;
    shared = subst (StandsForShared r) (sym shared) st.shared;
  }

  module _ (options : Options) (nodes : ℕ) (past : List Move) where
    abbrev r : Run
    r = run options nodes past

    answered : (o : Result Run MoveFault) → move_outcome options r turn ≡ o → (x : Result (Unit {0}) MoveFault) → result ≡ x → MakesRun options r o made x → AnswersMove options nodes past turn after x
    answered o is (Ok done) at (next, same, st) = (
      next,
      is ∙ same,
      subst (λ (y : Run). StandsForRun options y after) (sym (next_run options nodes past turn ∙ ap (λ (z : Result Run MoveFault). result_unwrap_or z r) (is ∙ same)))
          (stands_on options next (ap is_memory at) st),
    )
    answered o is (Err fault) at makes = by_fault fault at makes
      where
        stays : (f : MoveFault) → result ≡ Err f → is_memory (Err f) ≡ false → o ≡ Err f → StandsForRun options r made → (move_outcome options r turn ≡ Err f) × StandsForMoves options nodes (past ++ turn ∷ []) after
        stays f at real same st = (
          is ∙ same,
          subst (λ (y : Run). StandsForRun options y after) (sym (next_run options nodes past turn ∙ ap (λ (z : Result Run MoveFault). result_unwrap_or z r) (is ∙ same)))
              (stands_on options r (ap is_memory at ∙ real) st),
        )

        by_fault : (f : MoveFault) → result ≡ Err f → MakesRun options r o made (Err f) → AnswersMove options nodes past turn after (Err f)
        by_fault (faults.NoNode a b) at (same, st) = stays (faults.NoNode a b) at refl same st
        by_fault (faults.NotStandby a) at (same, st) = stays (faults.NotStandby a) at refl same st
        by_fault (faults.NotLeading a) at (same, st) = stays (faults.NotLeading a) at refl same st
        by_fault (faults.OldEpoch a b) at (same, st) = stays (faults.OldEpoch a b) at refl same st
        by_fault (faults.Behind a b) at (same, st) = stays (faults.Behind a b) at refl same st
        by_fault (faults.NotLatest a b) at (same, st) = stays (faults.NotLatest a b) at refl same st
        by_fault (faults.NothingNew a) at (same, st) = stays (faults.NothingNew a) at refl same st
        by_fault (faults.OlderImage a b) at (same, st) = stays (faults.OlderImage a b) at refl same st
        by_fault faults.NoMemory at makes = spent ∙ ap is_memory at

    pub moved : StandsForMoves options nodes past c → AnswersMove options nodes past turn after result
    moved st = answered (move_outcome options r turn) refl result refl (makes options r (record { nodes = nodes; past = past; is = refl }) st)

    ready_by : (x : Result (Unit {0}) MoveFault) → AnswersMove options nodes past turn after x → after.spent ≡ false → StandsForSomeMoves after
    ready_by (Ok done) (next, same, st) running = record { options = options; nodes = nodes; past = past ++ turn ∷ []; stands = st }
    ready_by (Err (faults.NoNode a b)) (same, st) running = record { options = options; nodes = nodes; past = past ++ turn ∷ []; stands = st }
    ready_by (Err (faults.NotStandby a)) (same, st) running = record { options = options; nodes = nodes; past = past ++ turn ∷ []; stands = st }
    ready_by (Err (faults.NotLeading a)) (same, st) running = record { options = options; nodes = nodes; past = past ++ turn ∷ []; stands = st }
    ready_by (Err (faults.OldEpoch a b)) (same, st) running = record { options = options; nodes = nodes; past = past ++ turn ∷ []; stands = st }
    ready_by (Err (faults.Behind a b)) (same, st) running = record { options = options; nodes = nodes; past = past ++ turn ∷ []; stands = st }
    ready_by (Err (faults.NotLatest a b)) (same, st) running = record { options = options; nodes = nodes; past = past ++ turn ∷ []; stands = st }
    ready_by (Err (faults.NothingNew a)) (same, st) running = record { options = options; nodes = nodes; past = past ++ turn ∷ []; stands = st }
    ready_by (Err (faults.OlderImage a b)) (same, st) running = record { options = options; nodes = nodes; past = past ++ turn ∷ []; stands = st }
    ready_by (Err faults.NoMemory) gone running = absurd (clash after.spent gone running)

  pub still_ready : IsReadyCluster c → c.spent ≡ false → IsReadyCluster after
  still_ready ready running = λ still. let s = ready running in ready_by s.options s.nodes s.past result (moved s.options s.nodes s.past s.stands) still

-- ---- after any moves

told_again : (list : List Batch) (ts : List NodeTold) → AllByRecursion (IsTold list) ts → AllByRecursion (IsToldOf list) (map told_as ts)
told_again list [] h = tt
told_again list (t ∷ ts) h = (h.0, told_again list ts h.1)

pub agrees : (c : Cluster) → StandsForSomeMoves c → ClusterAgrees c
agrees c s =
    let r = run s.options s.nodes s.past in
    let a : RunAgrees r = nodes_agree s.options s.nodes s.past in
    let no_transaction : (k : ℕ) (n : RunNode) → slice_get r.nodes k ≡ Some n → closed_of n.state.world ≡ n.state.world.committed = λ k n is.
    all_closed n.state.world.log (at_node (IsNode r.list r.elected) r.nodes k n (run_is s.options s.nodes s.past).nodes is).core.means n.state.world.committed in record {
      list = r.list;
      list_is = s.stands.shared.list;
      follow = λ k node is. let p = there s.options r c s.stands k node is in record { state = p.0.state; writes = writes_in p.0.waiting; stands = p.2.engine; follows = a.follows k p.0 p.1 };
      equal = λ j k m n is_m is_n same.
          let p = there s.options r c s.stands j m is_m in
          let q = there s.options r c s.stands k n is_n in
          let ends : committed_end p.0 ≡ committed_end q.0 = as_numbers m.engine.committed n.engine.committed (committed_end p.0) (committed_end q.0) p.2.engine.committed q.2.engine.committed same in
          let images : seen_at p.0.state.world.log (committed_end p.0) ≡ seen_at q.0.state.world.log (committed_end q.0) = ap (λ (x : Result Image Ill). result_unwrap_or x empty) (a.equal j k p.0 q.0 p.1 q.1 ends) in
          (seen_at p.0.state.world.log (committed_end p.0), kept_end m.engine p.0.state (writes_in p.0.waiting) p.2.engine (no_transaction j p.0 p.1), kept_end n.engine q.0.state (writes_in q.0.waiting) q.2.engine (no_transaction k q.0 q.1) ∙ ap (λ (i : Image). Some i) (sym images));
      told = subst (AllByRecursion (IsToldOf r.list)) (sym s.stands.shared.told) (told_again r.list r.told a.told);
    }
  where
    as_numbers : (x y : ℤ) (a b : ℕ) → x ≡ pos a → y ≡ pos b → x ≡ y → a ≡ b
    as_numbers x y a b is_a is_b is = grind (arith, ints)

-- ---- ends

module _ (options : Options) (r : Run) where
  ends_by : (list : List Batch) (ns : List RunNode) (nodes : List Node) (k : ℕ) → AllPairs (StandsForNode options list) ns nodes
      → option_map (λ (node : Node). node.engine.committed) (slice_get nodes k) ≡ option_map (λ (n : RunNode). pos (committed_end n)) (slice_get ns k)
  ends_by list [] [] k h = refl
  ends_by list [] (y ∷ ys) k h = absurd h
  ends_by list (n ∷ ns) [] k h = absurd h
  ends_by list (n ∷ ns) (node ∷ nodes) zero h = ap (λ z. Some z) h.0.engine.committed
  ends_by list (n ∷ ns) (node ∷ nodes) (suc k) h = ends_by list ns nodes k h.1

  pub end_is : (c : Cluster) (k : ℕ) → StandsForRun options r c → option_map (λ (node : Node). node.engine.committed) (slice_get c.nodes.items k) ≡ option_map (λ (n : RunNode). pos (committed_end n)) (slice_get r.nodes k)
  end_is c k st = ends_by r.list r.nodes c.nodes.items k st.nodes
