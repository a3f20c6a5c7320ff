-- Each run of links by their clocks is beside a run of cores that are told only what is right.
use Rattle.std.proofs.Common.{◌≡◌, ◌∙◌, sym, ℕ, List, [], ◌∷◌, ◌++◌, refl, ap, subst}
use Rattle.std.specs.Prelude.{flat_map, fold}
use Rattle.law_quorum.specs.Batches.{Batch}
use Rattle.law_quorum.specs.Laws.{IsInOrder, IsOneLog}
use Rattle.law_quorum.specs.NodeLaws.{IsFedNode}
use Rattle.law_quorum.specs.Nodes.{Cluster}
use Rattle.law_link.specs.Frames.{Act, Arrive, Emit, Frame, MayHappen, MaySnapshot, Network, NetworkStep, Snapshot, daemons_of, network_after, no_network}
use Rattle.law_link.specs.Links.{MayWrite}
use Rattle.law_link.specs.Refusals.{Rises}
use Rattle.law_link.proofs.LateFrames.{IsNetwork, first_network, network_right, networks_right}
use Rattle.law_link.proofs.LinkSteps.{all_map}
use Rattle.law_core.specs.Core.{Joined}
use Rattle.law_core.specs.Runs.{Comes, CoreRun, Happens, IsOfNoLink, all_steps, no_run, run_after}
use Rattle.law_core.proofs.CoreRuns.{cores_keep_the_rules}
use Rattle.kr_link.specs.declared.actions.Action.{Action}
use Rattle.kr_link.specs.declared.link.LinkSettings.{LinkSettings}
use Rattle.kr_link.specs.LinkMoves as calls
use Rattle.kr_link.specs.TimedLinks.{first_link}
use Rattle.law_timed_links.specs.TimedLaws.{AreNames, IsExact, IsNodeOf, IsRunOfCores, KeepsOneLog, TimedLinksAreCores, TimedLinksKeepOneLog}
use Rattle.law_timed_links.specs.TimedRuns.{AllMayFollow, Arrives, Calls, Gives, IsOfNoDaemon, MayFollow, TimedEvent, TimedRun, Writes, frames_sent, timed_after, timed_start}
use Rattle.law_timed_links.proofs.CoreRunEnds.{IsRightRun, network_is, one_more, run_of}
use Rattle.law_timed_links.proofs.DeedEffects.{IsKnown, exact}
use Rattle.law_timed_links.proofs.CallSides.{RecordsAll, RecordsJoin}
use Rattle.law_timed_links.proofs.DaemonEvents.{Keeps, arrive_keeps, give_keeps, write_keeps}
use Rattle.law_timed_links.proofs.TimedRuns.{IsBeside, RecordsStore, Then, link_beside}

-- ---- with any record

module _ (make : List Batch → List ℕ) (R : CoreRun → Type 0) (name : ℕ → ℕ → ℕ) where
  pub keeps_of : (t : TimedRun) (b : IsBeside make R name t) → Keeps name t b.won b.cores.run
  keeps_of t b = record { cluster = b.cores.cluster; cores = b.cores.cores; sides = b.cores.sides; counted = b.counted }

  pub beside_of : (t : TimedRun) (won : ℕ → List ℕ) (r : CoreRun) → R r → IsNetwork make r.network → Keeps name t won r → IsBeside make R name t
  beside_of t won r recorded network k = record {
    won = won;
    cores = record { run = r; recorded = recorded; network = network; cores = k.cores; cluster = k.cluster; sides = k.sides };
    counted = k.counted;
  }

-- what is so at the start
pub first_keeps : (name : ℕ → ℕ → ℕ) (settings : ℕ → LinkSettings) → Keeps name (timed_start settings) (λ k. []) no_run
unfolding first_link
first_keeps name settings = record {
  cluster = refl;
  cores = λ j. record { fed = refl; role = (refl, refl) };
  sides = λ k. record { core = refl; frames = refl; pipe = refl; images = refl; won = refl; known = tt; done = tt; asked = tt };
  counted = λ k. record { low = tt; below = tt; earlier = tt; past = tt };
}

-- ---- with the record that cores are told only what is right

module _ (make : List Batch → List ℕ) (name : ℕ → ℕ → ℕ) (names : AreNames name) where
  records : RecordsAll make (IsRightRun make)
  records r k came free recorded right may rise = one_more make r (Comes k came) recorded right rise

  joins : RecordsJoin make (IsRightRun make) (λ (k : ℕ). IsRightRun make)
  joins r k recorded may rise = one_more make r (Comes k Joined) recorded tt rise

  stores : RecordsStore make (IsRightRun make)
  stores r step recorded is may rise = one_more make r (Happens (Act step)) recorded (is, may) (rise, tt)

  abbrev Is : TimedRun → Type 0
  Is t = IsBeside make (IsRightRun make) name t

  module _ (t : TimedRun) (b : IsBeside make (IsRightRun make) name t) where
    abbrev r : CoreRun
    r = b.cores.run

    happens : (u : TimedRun) (step : NetworkStep) → IsOfNoLink step → MayHappen make r.network step → Rises r.network step → Keeps name u b.won (run_after r (Happens step)) → Is u
    happens u step is may rise k =
        beside_of make (IsRightRun make) name u b.won (run_after r (Happens step)) (one_more make r (Happens step) b.cores.recorded (is, may) (rise, tt))
        (network_right make r.network step b.cores.network may).2 k

    abbrev linked_type : TimedEvent → Type 0
    linked_type event = IsBeside make (Then (IsRightRun make) (λ (k : ℕ). IsRightRun make) event) name (timed_after t event)

    linked : (event : TimedEvent) → IsOfNoDaemon event → MayFollow make name t event → linked_type event
    linked event is may = link_beside make (IsRightRun make) (λ (k : ℕ). IsRightRun make) name names records joins stores t b event is may

    event_beside : (event : TimedEvent) → MayFollow make name t event → Is (timed_after t event)
    event_beside (Arrives k frame rest) may =
        let sent = flat_map frames_sent (t.nodes k).link.out.actions in
        happens (timed_after t (Arrives k frame rest)) (Arrive k frame (rest ++ sent)) tt ((b.cores.sides k).frames ∙ ap (λ (frames : List Frame). frames ++ sent) may) tt
        (arrive_keeps name t b.won r (keeps_of make (IsRightRun make) name t b) k frame rest)
    event_beside (Writes k batch) may =
        happens (timed_after t (Writes k batch)) (Emit k batch) tt (subst (λ (q : Cluster). MayWrite (q.nodes k) batch) (sym b.cores.cluster) may) tt
        (write_keeps name t b.won r (keeps_of make (IsRightRun make) name t b) k batch)
    event_beside (Gives k image) may =
        happens (timed_after t (Gives k image)) (Snapshot k image) tt (subst (λ (q : Cluster). MaySnapshot make q.point k (q.nodes k) image) (sym b.cores.cluster) may) tt
        (give_keeps name t b.won r (keeps_of make (IsRightRun make) name t b) k image)
    event_beside (Calls k (calls.Join now)) may = linked (Calls k (calls.Join now)) tt may
    event_beside event may = linked event tt may

  events_beside : (t : TimedRun) (events : List TimedEvent) → Is t → AllMayFollow make name t events → Is (fold timed_after t events)
  events_beside t [] b a = b
  events_beside t (event ∷ events) b (here, a) = events_beside (timed_after t event) events (event_beside t b event here) a

  first_beside : (settings : ℕ → LinkSettings) → Is (timed_start settings)
  first_beside settings =
      beside_of make (IsRightRun make) name (timed_start settings) (λ k. []) no_run (record { events = []; may = tt; rise = tt; run = refl }) (first_network make) (first_keeps name settings)

  nodes_at : (t : TimedRun) (b : Is t) (k : ℕ) → IsNodeOf b.cores.run k (t.nodes k)
  nodes_at t b k =
      let a = b.cores.sides k in
      let link = b.cores.run.network.web.links k in
      record {
        core = a.core;
        frames = a.frames;
        pipe = a.pipe;
        images = a.images;
        done = all_map (λ (e : ℕ × Action). IsKnown link e.1) (λ (e : ℕ × Action). IsExact e.1) (λ e h. exact link e.1 h) (t.nodes k).done a.done;
      }

  runs_beside : (t : TimedRun) → Is t → IsRunOfCores make t
  runs_beside t b = record {
    events = b.cores.recorded.events;
    may = b.cores.recorded.may;
    rise = b.cores.recorded.rise;
    cluster = subst (λ (x : CoreRun). daemons_of x.network ≡ t.cluster) (sym b.cores.recorded.run) b.cores.cluster;
    nodes = λ k. subst (λ (x : CoreRun). IsNodeOf x k (t.nodes k)) (sym b.cores.recorded.run) (nodes_at t b k);
  }

-- ---- the laws

pub timed_links_are_cores : TimedLinksAreCores
timed_links_are_cores make name settings events names may =
    runs_beside make name names (fold timed_after (timed_start settings) events) (events_beside make name names (timed_start settings) events (first_beside make name names settings) may)

keeps_one_log : (make : List Batch → List ℕ) (t : TimedRun) → IsRunOfCores make t → KeepsOneLog make t
keeps_one_log make t r =
    let steps = all_steps no_run r.events in
    let all : IsNetwork make (fold network_after no_network steps) = networks_right make no_network steps (first_network make) (cores_keep_the_rules make r.events r.may) in
    let h : IsNetwork make (run_of r.events).network = subst (λ (n : Network). IsNetwork make n) (network_is no_run r.events) all in
    record {
      one = subst (λ (q : Cluster). IsOneLog make q.point) r.cluster h.web.cluster.one;
      order = subst (λ (q : Cluster). IsInOrder q.point) r.cluster h.web.cluster.order;
      daemons = subst (λ (q : Cluster). (k : ℕ) → IsFedNode make q.point k (q.nodes k)) r.cluster h.daemons;
    }

pub timed_links_keep_one_log : TimedLinksKeepOneLog
timed_links_keep_one_log make name settings events names may =
    keeps_one_log make (fold timed_after (timed_start settings) events) (timed_links_are_cores make name settings events names may)
