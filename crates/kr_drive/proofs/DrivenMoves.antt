-- A drawn move is made, or refused.
use Rattle.std.proofs.Common.{◌≡◌, ◌∙◌, sym, subst, ℕ, suc, ◌+◌, ◌≤◌, Bool, true, false, cond, List, [], ◌∷◌, ◌++◌, refl, ap, arith}
use Rattle.std.specs.Prelude.{Result, Ok, Err, is_ok, if◌then◌else◌}
use Rattle.kr_defs.specs.declared.options.Options.{Options}
use Rattle.kr_nodes.specs.declared.cluster.Cluster.{Cluster}
use Rattle.kr_nodes.specs.Standing.{AnswersMove, IsReadyCluster, StandsForMoves, is_memory}
use Rattle.kr_workload.specs.Chances.{next_drawn}
use Rattle.kr_workload.specs.Session.{options}
use Rattle.law_nodes.specs.declared.moves.Move.{Move}
use Rattle.law_nodes.specs.declared.moves.MoveFault.{MoveFault}
use Rattle.law_nodes.specs.declared.moves.MoveFault.TheVariants as faults
use Rattle.law_nodes.specs.Moves.{move_outcome, run}
use Rattle.law_nodes.specs.Nodes.{Run}
use Rattle.kr_drive.specs.declared.driving.Driver.{Driver}
use Rattle.kr_drive.specs.Driving.{Driven, drawn_turn, driven, nothing_driven, run_behind, with_move}
use Rattle.kr_drive.specs.inner.Standing.{DrivesMove, HasDriven, MayDrive}

module _ (o : Options) (nodes : ℕ) (past : List Move) (turn : Move) (after : Cluster) where
  abbrev outcome : Result Run MoveFault
  outcome = move_outcome o (run o nodes past) turn

  abbrev Stood : Result (Unit {0}) MoveFault → Type 0
  Stood result = StandsForMoves o nodes (past ++ turn ∷ []) after × (is_ok outcome ≡ is_ok result)

  pub stood : (result : Result (Unit {0}) MoveFault) → is_memory result ≡ false → AnswersMove o nodes past turn after result → Stood result
  stood (Ok done) real (next, same, st) = (st, ap (λ (q : Result Run MoveFault). is_ok q) same)
  stood (Err (faults.NoNode a b)) real (same, st) = (st, ap (λ (q : Result Run MoveFault). is_ok q) same)
  stood (Err (faults.NotStandby a)) real (same, st) = (st, ap (λ (q : Result Run MoveFault). is_ok q) same)
  stood (Err (faults.NotLeading a)) real (same, st) = (st, ap (λ (q : Result Run MoveFault). is_ok q) same)
  stood (Err (faults.OldEpoch a b)) real (same, st) = (st, ap (λ (q : Result Run MoveFault). is_ok q) same)
  stood (Err (faults.Behind a b)) real (same, st) = (st, ap (λ (q : Result Run MoveFault). is_ok q) same)
  stood (Err (faults.NotLatest a b)) real (same, st) = (st, ap (λ (q : Result Run MoveFault). is_ok q) same)
  stood (Err (faults.NothingNew a)) real (same, st) = (st, ap (λ (q : Result Run MoveFault). is_ok q) same)
  stood (Err (faults.OlderImage a b)) real (same, st) = (st, ap (λ (q : Result Run MoveFault). is_ok q) same)
  stood (Err faults.NoMemory) real gone = absurd cc

-- one more where it was accepted
one_more_at_most : (n : ℕ) (b : Bool) → (n + cond b 1 0) ≤ n + 1
one_more_at_most n true = omega arith
one_more_at_most n false = omega arith

pub drives : (turn : Move) (before after : Driver) (result : Result (Unit {0}) MoveFault) → is_memory result ≡ false
    → ((o : Options) (nodes : ℕ) (past : List Move) → StandsForMoves o nodes past before.cluster → AnswersMove o nodes past turn after.cluster result)
    → IsReadyCluster after.cluster → after.cluster.spent ≡ is_memory result → after.made ≡ before.made + cond (is_ok result) 1 0 → after.drawn ≡ before.drawn → DrivesMove turn before after
drives turn before after result real moved ready spent made drawn = record {
  stands = λ o nodes past st.
      let s = stood o nodes past turn after.cluster result real (moved o nodes past st) in
      (s.0, made ∙ ap (λ b. before.made + cond b 1 0) (sym s.1));
  ready = ready;
  running = spent ∙ real;
  few = subst (λ n. n ≤ before.made + 1) (sym made) (one_more_at_most before.made (is_ok result));
  drawn = drawn;
}

-- ---- rounds

pub may_more : (round : ℕ) (turn : Move) (before between after : Driver) → MayDrive round before → DrivesMove turn before between → after.cluster ≡ between.cluster → after.made ≡ between.made → MayDrive (round + 1) after
may_more round turn before between after may d cluster made =
    let low = may.few in
    let up = d.few in record {
      ready = subst IsReadyCluster (sym cluster) d.ready;
      running = ap (λ (c : Cluster). c.spent) cluster ∙ d.running;
      few = omega (arith, low, up, made);
    }

pub driven_more : (seed round : ℕ) (d : Driven) (turn : Move) (before between after : Driver) → HasDriven seed round d before → DrivesMove turn before between → turn ≡ drawn_turn seed (round + 1) d
    → after.cluster ≡ between.cluster → after.made ≡ between.made → after.drawn ≡ next_drawn (next_drawn before.drawn) → HasDriven seed (round + 1) (with_move seed (drawn_turn seed (round + 1) d) d) after
driven_more seed round d turn before between after has makes is cluster made drawn =
    let s = makes.stands (options seed) 3 d.past has.cluster in
    subst (λ (t : Move). HasDriven seed (round + 1) (with_move seed t d) after) is
    (record {
      cluster = subst (StandsForMoves (options seed) 3 (d.past ++ turn ∷ [])) (sym cluster) s.0;
      made = made ∙ (s.1 ∙ ap (λ n. n + cond (is_ok (move_outcome (options seed) (run_behind seed d) turn)) 1 0) has.made);
      drawn = drawn ∙ ap (λ n. next_drawn (next_drawn n)) has.drawn;
    })

pub driven_none : (seed : ℕ) → driven seed 0 ≡ nothing_driven seed
unfolding driven
driven_none seed = refl

pub driven_next : (seed n : ℕ) → driven seed (n + 1) ≡ with_move seed (drawn_turn seed (n + 1) (driven seed n)) (driven seed n)
unfolding driven
driven_next seed n =
    let next : n + 1 ≡ suc n = omega arith in
    ap (λ m. driven seed m) next ∙ ap (λ m. with_move seed (drawn_turn seed m (driven seed n)) (driven seed n)) (sym next)
