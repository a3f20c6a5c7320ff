-- What daemons do keeps each node beside a run of cores.
use Rattle.std.proofs.Common.{◌≡◌, ◌∙◌, ℕ, Bool, true, false, cond, List, [], ◌∷◌, ◌++◌, refl, ap, subst}
use Rattle.std.specs.Prelude.{flat_map}
use Rattle.law_quorum.specs.Batches.{Batch, StoredImage}
use Rattle.law_quorum.specs.History.{Point}
use Rattle.law_quorum.specs.Nodes.{Cluster, Node, Write, moved}
use Rattle.law_link.specs.Frames.{Arrive, Commit, Emit, Feed, Frame, Lead, Load, Lost, Network, Snapshot, daemons_of, emitted, leads_epoch, move_of, network_after, set_at}
use Rattle.law_link.specs.Links.{Link, stepped}
use Rattle.law_link.proofs.LateFrames.{at_node}
use Rattle.law_core.specs.Core.{Elected, Leading, Role, Standby}
use Rattle.law_core.specs.Runs.{CoreRun, Happens, run_after}
use Rattle.law_core.proofs.CoreSteps.{IsCore, IsRole}
use Rattle.law_timed_links.specs.TimedRuns.{Arrives, Gives, LinkedNode, TimedRun, Writes, frames_sent, timed_after}
use Rattle.law_timed_links.proofs.Sides.{AllSides, AreSides, core_side, link_side, side_of}
use Rattle.law_timed_links.proofs.WonEpochs.{CountedAt}

arrive_cluster : (n : Network) (k : ℕ) (frame : Frame) (rest : List Frame) → daemons_of (network_after n (Arrive k frame rest)) ≡ moved (daemons_of n) (move_of k frame)
arrive_cluster n k (Feed b) rest = refl
arrive_cluster n k (Load image) rest = refl
arrive_cluster n k (Lead epoch end) rest = refl
arrive_cluster n k (Commit epoch end) rest = refl
arrive_cluster n k (Lost epoch) rest = refl

arrive_point : (c : Cluster) (k : ℕ) (frame : Frame) → c.point ≡ (moved c (move_of k frame)).point
arrive_point c k (Feed b) = refl
arrive_point c k (Load image) = refl
arrive_point c k (Lead epoch end) = refl
arrive_point c k (Commit epoch end) = refl
arrive_point c k (Lost epoch) = refl

-- what a daemon writes changes no role
with_own : (role : Role) (v : Node) (l : Link) (own pipe : List Batch) → IsRole role v l → IsRole role (record v { own = own }) (record l { pipe = pipe })
with_own Standby v l own pipe is = is
with_own (Elected h) v l own pipe is = is
with_own (Leading h asked waits) v l own pipe is = is

with_pipe : (role : Role) (v : Node) (l : Link) (pipe : List Batch) → IsRole role v l → IsRole role v (record l { pipe = pipe })
with_pipe Standby v l pipe is = is
with_pipe (Elected h) v l pipe is = is
with_pipe (Leading h asked waits) v l pipe is = is

abbrev pub AreCores : CoreRun → Type 0
AreCores r = (j : ℕ) → IsCore (r.cores j) (r.network.web.cluster.nodes j) (r.network.web.links j)

-- a run of cores is where a run of links by their clocks is
pub record Keeps (name : ℕ → ℕ → ℕ) (t : TimedRun) (won : ℕ → List ℕ) (r : CoreRun) : Type 0 where
  pub cluster : daemons_of r.network ≡ t.cluster
  pub cores : AreCores r
  pub sides : AllSides t.nodes won r
  pub counted : (k : ℕ) → CountedAt name t.cluster.point k (t.nodes k) (won k)

module _ (name : ℕ → ℕ → ℕ) (t : TimedRun) (won : ℕ → List ℕ) (r : CoreRun) (b : Keeps name t won r) (k : ℕ) where
  abbrev c : Cluster
  c = t.cluster

  abbrev p : Point
  p = t.cluster.point

  abbrev x : LinkedNode
  x = t.nodes k

  abbrev n : Network
  n = r.network

  -- what is under way to its daemon behind the frames that were sent
  abbrev pub unsent : List Frame
  unsent = flat_map frames_sent (t.nodes k).link.out.actions

  pub arrive_keeps : (frame : Frame) (rest : List Frame) → Keeps name (timed_after t (Arrives k frame rest)) won (run_after r (Happens (Arrive k frame (rest ++ unsent))))
  arrive_keeps frame rest =
      let a = b.sides k in
      let y : LinkedNode = record x { frames = rest } in
      let here : AreSides (side_of (r.cores k) (rest ++ unsent) (n.web.links k) (n.images k)) (link_side y (won k)) =
      record { core = a.core; frames = refl; pipe = a.pipe; images = a.images; won = a.won; known = a.known; done = a.done; asked = a.asked } in
      record {
        cluster = arrive_cluster n k frame (rest ++ unsent) ∙ ap (λ (q : Cluster). moved q (move_of k frame)) b.cluster;
        cores = b.cores;
        sides = at_node k (λ j u. AreSides (side_of (r.cores j) (cond u (rest ++ unsent) (n.frames j)) (n.web.links j) (n.images j)) (link_side (cond u y (t.nodes j)) (won j))) here b.sides;
        counted = λ j. subst (λ (q : Point). CountedAt name q j (set_at k y t.nodes j) (won j)) (arrive_point c k frame)
            (at_node k (λ i u. CountedAt name p i (cond u y (t.nodes i)) (won i)) (b.counted k) b.counted j);
      }

  pub give_keeps : (image : StoredImage) → Keeps name (timed_after t (Gives k image)) won (run_after r (Happens (Snapshot k image)))
  give_keeps image =
      let a = b.sides k in
      let y : LinkedNode = record x { images = image ∷ x.images } in
      let here : AreSides (side_of (r.cores k) (n.frames k) (n.web.links k) (image ∷ n.images k)) (link_side y (won k)) = record {
        core = a.core;
        frames = a.frames;
        pipe = a.pipe;
        images = ap (λ (images : List StoredImage). image ∷ images) a.images;
        won = a.won;
        known = a.known;
        done = a.done;
        asked = a.asked;
      } in
      record {
        cluster = b.cluster;
        cores = b.cores;
        sides = at_node k (λ j u. AreSides (side_of (r.cores j) (n.frames j) (n.web.links j) (cond u (image ∷ n.images k) (n.images j))) (link_side (cond u y (t.nodes j)) (won j))) here b.sides;
        counted = at_node k (λ i u. CountedAt name p i (cond u y (t.nodes i)) (won i)) (b.counted k) b.counted;
      }

  module _ (batch : Batch) where
    abbrev wrote : LinkedNode
    wrote = record x { pipe = x.pipe ++ batch ∷ [] }

    abbrev piped : Link
    piped = record (n.web.links k) { pipe = (n.web.links k).pipe ++ batch ∷ [] }

    emit_cluster : (u : Bool) → daemons_of (record { web = stepped n.web (emitted u k batch); daemons = (moved (daemons_of n) (Write k batch)).nodes; frames = n.frames; images = n.images })
        ≡ moved (daemons_of n) (Write k batch)
    emit_cluster true = refl
    emit_cluster false = refl

    emit_here : AreSides (core_side r k) (link_side x (won k)) → AreSides (side_of (r.cores k) (n.frames k) piped (n.images k)) (link_side wrote (won k))
    emit_here a = record {
      core = a.core;
      frames = a.frames;
      pipe = ap (λ (pipe : List Batch). pipe ++ batch ∷ []) a.pipe;
      images = a.images;
      won = a.won;
      known = a.known;
      done = a.done;
      asked = a.asked;
    }

    emit_sides : (u : Bool) (j : ℕ) → AreSides (side_of (r.cores j) (n.frames j) ((stepped n.web (emitted u k batch)).links j) (n.images j)) (link_side (set_at k wrote t.nodes j) (won j))
    emit_sides true = at_node k (λ j u. AreSides (side_of (r.cores j) (n.frames j) (cond u piped (n.web.links j)) (n.images j)) (link_side (cond u wrote (t.nodes j)) (won j))) (emit_here (b.sides k)) b.sides
    emit_sides false = at_node k (λ j u. AreSides (side_of (r.cores j) (n.frames j) (cond u piped (n.web.links j)) (n.images j)) (link_side (cond u wrote (t.nodes j)) (won j))) (emit_here (b.sides k)) b.sides

    emit_cores : (u : Bool) (j : ℕ) → IsCore (r.cores j) ((stepped n.web (emitted u k batch)).cluster.nodes j) ((stepped n.web (emitted u k batch)).links j)
    emit_cores true =
        let v = n.web.cluster.nodes k in
        at_node k (λ j u. IsCore (r.cores j) (cond u (record v { own = v.own ++ batch ∷ [] }) (n.web.cluster.nodes j)) (cond u piped (n.web.links j)))
        (record { fed = (b.cores k).fed; role = with_own (r.cores k).role v (n.web.links k) (v.own ++ batch ∷ []) ((n.web.links k).pipe ++ batch ∷ []) (b.cores k).role }) b.cores
    emit_cores false =
        at_node k (λ j u. IsCore (r.cores j) (n.web.cluster.nodes j) (cond u piped (n.web.links j)))
        (record { fed = (b.cores k).fed; role = with_pipe (r.cores k).role (n.web.cluster.nodes k) (n.web.links k) ((n.web.links k).pipe ++ batch ∷ []) (b.cores k).role }) b.cores

    pub write_keeps : Keeps name (timed_after t (Writes k batch)) won (run_after r (Happens (Emit k batch)))
    write_keeps =
        let leads = leads_epoch (n.web.cluster.nodes k).leads batch.epoch in
        record {
          cluster = emit_cluster leads ∙ ap (λ (q : Cluster). moved q (Write k batch)) b.cluster;
          cores = emit_cores leads;
          sides = emit_sides leads;
          counted = at_node k (λ i u. CountedAt name p i (cond u wrote (t.nodes i)) (won i)) (b.counted k) b.counted;
        }
