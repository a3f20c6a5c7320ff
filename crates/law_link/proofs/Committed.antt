-- What a daemon has committed stands in the log.
use Rattle.std.proofs.Common.{◌≡◌, ◌∙◌, sym, ℕ, List, [], ◌∷◌, ◌++◌, ap, subst}
use Rattle.std.proofs.lemmas.List.{append_assoc, append-nil}
use Rattle.std.specs.Prelude.{fold}
use Rattle.law_quorum.specs.Batches.{Batch, BatchStandsAt, Meet, behind}
use Rattle.law_quorum.specs.History.{Point}
use Rattle.law_quorum.specs.NodeLaws.{IsFedNode}
use Rattle.law_quorum.specs.Nodes.{Cluster, Move, Node, Store, moved}
use Rattle.law_quorum.proofs.Places.{meet_after, stands_later}
use Rattle.law_quorum.proofs.WholeHistories.{fold_append, grows_from}
use Rattle.law_link.specs.Frames.{AllMayHappen, Network, NetworkStep, daemon_moves, daemons_of, network_after, no_network}
use Rattle.law_link.specs.LinkLaws.{CommittedBatchesStand}
use Rattle.law_link.proofs.LateFrames.{IsNetwork, first_network, networks_right, same_point}

-- ---- the log grows

move_grows : (c : Cluster) (move : Move) → (more : List Batch) × ((moved c move).point.log ≡ c.point.log ++ more)
move_grows c (Store change) = grows_from c.point (change ∷ [])
move_grows c other = ([], sym (append-nil c.point.log))

moves_grow : (c : Cluster) (moves : List Move) → (more : List Batch) × ((fold moved c moves).point.log ≡ c.point.log ++ more)
moves_grow c [] = ([], sym (append-nil c.point.log))
moves_grow c (move ∷ moves) =
    let first = move_grows c move in
    let rest = moves_grow (moved c move) moves in
    (first.0 ++ rest.0, rest.1 ∙ (ap (λ (l : List Batch). l ++ rest.0) first.1 ∙ append_assoc c.point.log first.0 rest.0))

module _ (make : List Batch → List ℕ) where
  log_grows : (n : Network) (steps : List NetworkStep)
      → (more : List Batch) × ((fold network_after n steps).web.cluster.point.log ≡ n.web.cluster.point.log ++ more)
  log_grows n [] = ([], sym (append-nil n.web.cluster.point.log))
  log_grows n (step ∷ steps) =
      let moves = moves_grow (daemons_of n) (daemon_moves n step) in
      let first : (network_after n step).web.cluster.point.log ≡ n.web.cluster.point.log ++ moves.0 = ap (λ (p : Point). p.log) (sym (same_point make n step)) ∙ moves.1 in
      let rest = log_grows (network_after n step) steps in
      (moves.0 ++ rest.0, rest.1 ∙ (ap (λ (l : List Batch). l ++ rest.0) first ∙ append_assoc n.web.cluster.point.log moves.0 rest.0))

  happen_before : (n : Network) (some more : List NetworkStep) → AllMayHappen make n (some ++ more) → AllMayHappen make n some
  happen_before n [] more a = tt
  happen_before n (step ∷ some) more (here, a) = (here, happen_before (network_after n step) some more a)

  stands_now : (p : Point) (k : ℕ) (d : Node) (b : Batch) (before after : List Batch) → Meet 0 p.log → IsFedNode make p k d → d.batches ≡ before ++ b ∷ after
      → BatchStandsAt p.log b.base b
  stands_now p k d b before after meet f is =
      let split : p.log ≡ (f.gone ++ before) ++ b ∷ (after ++ f.rest) =
      f.split
      ∙ (ap (λ (x : List Batch). (f.gone ++ x) ++ f.rest) is
      ∙ (ap (λ (x : List Batch). x ++ f.rest) (sym (append_assoc f.gone before (b ∷ after))) ∙ append_assoc (f.gone ++ before) (b ∷ after) f.rest)) in
      let at : b.base ≡ behind 0 (f.gone ++ before) = (meet_after 0 (f.gone ++ before) (b ∷ (after ++ f.rest)) (subst (Meet 0) split meet)).0 in
      record { before = f.gone ++ before; after = after ++ f.rest; split = split; begins = sym at }

pub committed_batches_stand : CommittedBatchesStand
committed_batches_stand make steps later k b before after a is =
    let n = fold network_after no_network steps in
    let h : IsNetwork make n = networks_right make no_network steps (first_network make) (happen_before make no_network steps later a) in
    let now : BatchStandsAt n.web.cluster.point.log b.base b = stands_now make n.web.cluster.point k (n.daemons k) b before after h.web.cluster.one.meet (h.daemons k) is in
    let r = log_grows make n later in
    subst (λ (x : Network). BatchStandsAt x.web.cluster.point.log b.base b) (sym (fold_append network_after no_network steps later))
    (subst (λ (l : List Batch). BatchStandsAt l b.base b) (sym r.1) (stands_later n.web.cluster.point.log r.0 b.base b now))
