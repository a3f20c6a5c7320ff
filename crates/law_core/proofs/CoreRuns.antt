-- Whole runs of cores.
use Rattle.std.proofs.Common.{◌≡◌, sym, ℕ, Bool, true, false, cond, List, [], ◌∷◌, ◌++◌, refl, ap, subst}
use Rattle.std.proofs.lemmas.Bool.{eqb-true}
use Rattle.std.specs.Prelude.{Some, nat_eq, fold}
use Rattle.law_quorum.specs.Batches.{Batch, behind}
use Rattle.law_quorum.specs.Nodes.{Node}
use Rattle.law_quorum.specs.Nodes as nodes
use Rattle.law_link.specs.Frames.{Act, AllMayHappen, Arrive, Emit, Network, NetworkStep, Snapshot, emitted, leads_epoch, network_after}
use Rattle.law_link.specs.Links.{Clear, Execute, Link, Make, Web, idle, stepped}
use Rattle.law_link.proofs.LateFrames.{IsNetwork, at_node, first_network, network_right, networks_right}
use Rattle.law_core.specs.Core.{CallAppend, CallDrop, Deed, Elected, HandBatch, HandCommit, HandImage, HandLead, HandLost, Hear, Hold, Leading, LinkCore, Pass, Resign, Role, Serve, Standby, core_step}
use Rattle.law_core.specs.Runs.{AllMayCome, Comes, CoreRun, CoresKeepTheRules, DeedsAreHanded, Event, Happens, IsOfNoLink, MayCome, acts, all_steps, behind_first, no_run, run_after, step_of, steps_of}
use Rattle.law_core.proofs.CoreSteps.{Does, IsCore, IsRole, came_right}

-- what a core does leaves another node and its link as they are
module _ (k j : ℕ) (other : nat_eq k j ≡ false) (r : List Batch) (w : Web) where
  not_there : {X : Type 0} (new old : X) → cond (nat_eq k j) new old ≡ old
  not_there new old = ap (λ (t : Bool). cond t new old) other

  node_stays : (deed : Deed) → (stepped w (step_of k r deed)).cluster.nodes j ≡ w.cluster.nodes j
  node_stays (HandBatch b) = not_there (nodes.fed (w.cluster.nodes k) b) (w.cluster.nodes j)
  node_stays (HandImage image) = not_there (nodes.loaded (w.cluster.nodes k) image) (w.cluster.nodes j)
  node_stays (HandLead e) = not_there (nodes.told_to_lead (w.cluster.nodes k) e.epoch) (w.cluster.nodes j)
  node_stays (HandCommit e end) = not_there (nodes.committed (w.cluster.nodes k) (behind (w.cluster.nodes k).end (w.links k).asked)) (w.cluster.nodes j)
  node_stays (HandLost e) = not_there (nodes.after_loss (w.cluster.nodes k)) (w.cluster.nodes j)
  node_stays Serve = not_there nodes.new_node (w.cluster.nodes j)
  node_stays (Hear b) = refl
  node_stays (Pass b) = refl
  node_stays (CallAppend e group waits) = refl
  node_stays (CallDrop before image) = refl
  node_stays (Hold e) = refl
  node_stays (Resign e) = refl

  link_stays : (deed : Deed) → (stepped w (step_of k r deed)).links j ≡ w.links j
  link_stays (HandBatch b) = refl
  link_stays (HandImage image) = refl
  link_stays (HandLead e) = not_there (record (w.links k) { asked = []; waits = [] }) (w.links j)
  link_stays (HandCommit e end) = not_there (record (w.links k) { asked = [] }) (w.links j)
  link_stays (HandLost e) = not_there (idle (w.links k)) (w.links j)
  link_stays Serve = not_there (record (idle (w.links k)) { pipe = [] }) (w.links j)
  link_stays (Hear b) = not_there (record (w.links k) { pipe = r; waits = (w.links k).waits ++ b ∷ [] }) (w.links j)
  link_stays (Pass b) = not_there (record (w.links k) { pipe = r }) (w.links j)
  link_stays (CallAppend e group waits) =
      not_there (record (w.links k) { asked = group; waits = waits; calls = record { epoch = e.epoch; made = e.made; group = group } ∷ (w.links k).calls }) (w.links j)
  link_stays (CallDrop before image) = not_there (record (w.links k) { keeps = record { before = before; image = image } ∷ (w.links k).keeps }) (w.links j)
  link_stays (Hold e) = not_there
      (record { held = Some e; asked = []; waits = []; pipe = (w.links k).pipe; won = e.epoch ∷ (w.links k).won; calls = (w.links k).calls; keeps = (w.links k).keeps })
      (w.links j)
  link_stays (Resign e) = not_there (idle (w.links k)) (w.links j)

module _ (k j : ℕ) (other : nat_eq k j ≡ false) (r : List Batch) where
  stays : (n : Network) (deeds : List Deed) (c : LinkCore) → IsCore c (n.web.cluster.nodes j) (n.web.links j)
      → IsCore c ((fold network_after n (acts k r deeds)).web.cluster.nodes j) ((fold network_after n (acts k r deeds)).web.links j)
  stays n [] c is = is
  stays n (deed ∷ deeds) c is =
      stays (network_after n (Act (step_of k r deed))) deeds c
      (subst (λ (v : Node). IsCore c v ((stepped n.web (step_of k r deed)).links j)) (sym (node_stays k j other r n.web deed))
      (subst (λ (l : Link). IsCore c (n.web.cluster.nodes j) l) (sym (link_stays k j other r n.web deed)) is))

-- what a daemon writes changes no role
module _ (c : LinkCore) (v : Node) (l : Link) (is : IsCore c v l) where
  with_own : (own : List Batch) (pipe : List Batch) → IsCore c (record v { own = own }) (record l { pipe = pipe })
  with_own own pipe = record { fed = is.fed; role = by c.role is.role }
    where
      by : (role : Role) → IsRole role v l → IsRole role (record v { own = own }) (record l { pipe = pipe })
      by Standby r = r
      by (Elected e) r = r
      by (Leading e asked waits) r = r

  with_pipe : (pipe : List Batch) → IsCore c v (record l { pipe = pipe })
  with_pipe pipe = record { fed = is.fed; role = by c.role is.role }
    where
      by : (role : Role) → IsRole role v l → IsRole role v (record l { pipe = pipe })
      by Standby r = r
      by (Elected e) r = r
      by (Leading e asked waits) r = r

module _ (make : List Batch → List ℕ) where
  pub record IsRun (r : CoreRun) : Type 0 where
    pub network : IsNetwork make r.network
    pub cores : (k : ℕ) → IsCore (r.cores k) (r.network.web.cluster.nodes k) (r.network.web.links k)

  happen_both : (n : Network) (some more : List NetworkStep) → AllMayHappen make n some → AllMayHappen make (fold network_after n some) more → AllMayHappen make n (some ++ more)
  happen_both n [] more a b = b
  happen_both n (step ∷ some) more (here, a) b = (here, happen_both (network_after n step) some more a b)

  module _ (r : CoreRun) (h : IsRun r) where
    cores_of : (k : ℕ) (b : Batch) (t : Bool) (j : ℕ)
        → IsCore (r.cores j) ((stepped r.network.web (emitted t k b)).cluster.nodes j) ((stepped r.network.web (emitted t k b)).links j)
    cores_of k b true = at_node k
        (λ j t. IsCore (r.cores j) (cond t (record (r.network.web.cluster.nodes k) { own = (r.network.web.cluster.nodes k).own ++ b ∷ [] }) (r.network.web.cluster.nodes j))
        (cond t (record (r.network.web.links k) { pipe = (r.network.web.links k).pipe ++ b ∷ [] }) (r.network.web.links j)))
        (with_own (r.cores k) (r.network.web.cluster.nodes k) (r.network.web.links k) (h.cores k) ((r.network.web.cluster.nodes k).own ++ b ∷ []) ((r.network.web.links k).pipe ++ b ∷ []))
        h.cores
    cores_of k b false = at_node k
        (λ j t. IsCore (r.cores j) (r.network.web.cluster.nodes j) (cond t (record (r.network.web.links k) { pipe = (r.network.web.links k).pipe ++ b ∷ [] }) (r.network.web.links j)))
        (with_pipe (r.cores k) (r.network.web.cluster.nodes k) (r.network.web.links k) (h.cores k) ((r.network.web.links k).pipe ++ b ∷ []))
        h.cores

    happens_right : (step : NetworkStep) → IsOfNoLink step → (j : ℕ)
        → IsCore (r.cores j) ((network_after r.network step).web.cluster.nodes j) ((network_after r.network step).web.links j)
    happens_right (Act (Execute k call)) is j = h.cores j
    happens_right (Act (Clear k keep)) is j = h.cores j
    happens_right (Act (Make change)) is j = h.cores j
    happens_right (Act other) is j = absurd is
    happens_right (Arrive k frame rest) is j = h.cores j
    happens_right (Emit k b) is j = cores_of k b (leads_epoch (r.network.web.cluster.nodes k).leads b.epoch) j
    happens_right (Snapshot k image) is j = h.cores j

    event_right : (event : Event) → MayCome make r event → AllMayHappen make r.network (steps_of r event) × IsRun (run_after r event)
    event_right (Happens step) (no_link, may) =
        ((may, tt), record { network = (network_right make r.network step h.network may).2; cores = happens_right step no_link })
    event_right (Comes k came) right =
        let rest = behind_first (r.network.web.links k).pipe in
        let out = core_step (r.cores k) came in
        let d : Does make k rest r.network out.1 out.0 = came_right make k r.network h.network (r.cores k) came (h.cores k) right in
        (d.may, record { network = networks_right make r.network (acts k rest out.1) h.network d.may; cores = both_cores k rest out.0 out.1 d })
      where
        both_cores : (k : ℕ) (rest : List Batch) (c : LinkCore) (deeds : List Deed) → Does make k rest r.network deeds c → (j : ℕ)
            → IsCore (cond (nat_eq k j) c (r.cores j)) ((fold network_after r.network (acts k rest deeds)).web.cluster.nodes j) ((fold network_after r.network (acts k rest deeds)).web.links j)
        both_cores k rest c deeds d j = by (nat_eq k j) refl
          where
            by : (t : Bool) → nat_eq k j ≡ t
                → IsCore (cond t c (r.cores j)) ((fold network_after r.network (acts k rest deeds)).web.cluster.nodes j) ((fold network_after r.network (acts k rest deeds)).web.links j)
            by true e = subst (λ (i : ℕ). IsCore c ((fold network_after r.network (acts k rest deeds)).web.cluster.nodes i) ((fold network_after r.network (acts k rest deeds)).web.links i))
                (eqb-true k j e) d.core
            by false e = stays k j e rest r.network deeds (r.cores j) (h.cores j)

  runs_right : (r : CoreRun) (events : List Event) → IsRun r → AllMayCome make r events → IsRun (fold run_after r events)
  runs_right r [] h a = h
  runs_right r (event ∷ events) h (here, a) = runs_right (run_after r event) events (event_right r h event here).1 a

  events_right : (r : CoreRun) (events : List Event) → IsRun r → AllMayCome make r events → AllMayHappen make r.network (all_steps r events)
  events_right r [] h a = tt
  events_right r (event ∷ events) h (here, a) =
      let e = event_right r h event here in
      happen_both r.network (steps_of r event) (all_steps (run_after r event) events) e.0 (events_right (run_after r event) events e.1 a)

  first_run : IsRun no_run
  first_run = record { network = first_network make; cores = λ k. record { fed = refl; role = (refl, refl) } }

pub cores_keep_the_rules : CoresKeepTheRules
cores_keep_the_rules make events a = events_right make no_run events (first_run make) a

pub deeds_are_handed : DeedsAreHanded
deeds_are_handed make events k came a right =
    let r = fold run_after no_run events in
    let h : IsRun make r = runs_right make no_run events (first_run make) a in
    (came_right make k r.network h.network (r.cores k) came (h.cores k) right).handed
