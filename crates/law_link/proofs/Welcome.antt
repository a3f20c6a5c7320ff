-- What arrives is welcome.
use Rattle.std.proofs.Common.{◌≡◌, ◌∙◌, sym, ℕ, suc, ◌<◌, ◌≤◌, Bool, true, false, cond, List, [], ◌∷◌, ◌++◌, refl, ap, subst, arith}
use Rattle.std.proofs.lemmas.List.{append-nil}
use Rattle.std.specs.Prelude.{Option, None, Some, nat_eq, option_to_list}
use Rattle.std.specs.List.{AllByRecursion}
use Rattle.law_quorum.specs.Batches.{Batch, BatchStandsAt, Meet, behind}
use Rattle.law_quorum.specs.History.{Point}
use Rattle.law_quorum.specs.Nodes.{Node, ended_batches, new_node, unended_batches}
use Rattle.law_quorum.proofs.Places.{all_after, meet_after}
use Rattle.law_link.specs.Frames.{Act, AllMayHappen, Arrive, Commit, Emit, Feed, Frame, Lead, Load, Lost, MayAct, MayHappen, Network, NetworkStep, Snapshot, emitted, leads_epoch, network_after, no_network}
use Rattle.law_link.specs.Links.{Ask, Begin, Clear, Execute, Give, GiveUp, Has, Hear, Held, LetGo, Link, LinkStep, Make, Pass, Read, Renew, Settle, Stray, Take, Win, Write, idle, stepped}
use Rattle.law_link.specs.Refusals.{AllRise, AllWelcome, IsWelcome, IsWelcomeStep, NothingIsRefused, Rises, least_after, leasts_after}
use Rattle.law_link.proofs.LinkSteps.{all_map, has_all, held_is}
use Rattle.law_link.proofs.UnderWay.{IsUnderWay, MayArrive, after_frame, begun_append, ended_joined, epoch_begun, epochs_begun, epochs_led, none_leads}
use Rattle.law_link.proofs.LateFrames.{IsNetwork, at_node, first_network, network_right}

-- each above the one before it, from the least on
abbrev Ascend : ℕ → List ℕ → Type 0
Ascend least [] = Unit {0}
Ascend least (e ∷ es) = (least ≤ e) × Ascend (suc e) es

abbrev Below : ℕ → List ℕ → Type 0
Below x es = AllByRecursion (λ e. e < x) es

ascend_more : (least x : ℕ) (es : List ℕ) → Ascend least es → least ≤ x → Below x es → Ascend least (es ++ x ∷ [])
ascend_more least x [] a low below = (low, tt)
ascend_more least x (e ∷ es) (here, a) low (under, below) = (here, ascend_more (suc e) x es a (let u : e < x = under in omega arith) below)

-- the epochs that a daemon is to lead ascend from the least on that it takes, below what is above all that its link won; and the one
-- that its link holds and hasn't handed in is above them
pub record IsAscent (least : ℕ) (frames : List Frame) (v : Node) (won : List ℕ) (held : Option Held) : Type 0 where
  pub low : (x : ℕ) → AllByRecursion (λ e. e < x) won → least ≤ x
  pub rise : Ascend least (epochs_begun frames)
  pub next : v.leads ≡ None → (h : Held) → held ≡ Some h → (least ≤ h.epoch) × AllByRecursion (λ e. e < h.epoch) (epochs_begun frames)

module _ (least : ℕ) (frames : List Frame) (v : Node) (won : List ℕ) (held : Option Held) (i : IsAscent least frames v won held) where
  -- a frame is sent that begins no epoch
  ascent_sent : (frame : Frame) (u : Node) (then : Option Held) → epoch_begun frame ≡ []
      → (u.leads ≡ None → (h : Held) → then ≡ Some h → (least ≤ h.epoch) × AllByRecursion (λ (e : ℕ). e < h.epoch) (epochs_begun frames))
      → IsAscent least (frames ++ frame ∷ []) u won then
  ascent_sent frame u then none next =
      let same : epochs_begun frames ≡ epochs_begun (frames ++ frame ∷ []) =
      sym (append-nil (epochs_begun frames)) ∙ (ap (λ (es : List ℕ). epochs_begun frames ++ es) (sym none) ∙ sym (begun_append frames frame)) in
      record {
        low = i.low;
        rise = subst (Ascend least) same i.rise;
        next = λ standby h is. (let n = next standby h is in (n.0, subst (λ (es : List ℕ). AllByRecursion (λ (e : ℕ). e < h.epoch) es) same n.1));
      }

  ascent_lead : (h : Held) (u : Node) → v.leads ≡ None → held ≡ Some h → u.leads ≡ Some h.epoch → IsAscent least (frames ++ Lead h.epoch h.start ∷ []) u won held
  ascent_lead h u standby holds leads =
      let n = i.next standby h holds in
      record {
        low = i.low;
        rise = subst (Ascend least) (sym (begun_append frames (Lead h.epoch h.start))) (ascend_more least h.epoch (epochs_begun frames) i.rise n.0 n.1);
        next = λ none x is. none_leads u.leads h.epoch none leads;
      }

module _ (frame : Frame) (least : ℕ) (rest : List Frame) (d v : Node) (won : List ℕ) (held : Option Held) where
  ascent_arrived : (make : List Batch → List ℕ) (p : Point) (k : ℕ) → IsUnderWay make p k d (frame ∷ rest) v won held
      → IsAscent least (frame ∷ rest) v won held → IsAscent (least_after frame least) rest v won held
  ascent_arrived make p k w i = by frame w.won_all i
    where
      by : (f : Frame) → AllByRecursion (λ (e : ℕ). Has e won) (epochs_led d.leads (f ∷ rest)) → IsAscent least (f ∷ rest) v won held → IsAscent (least_after f least) rest v won held
      by (Feed b) all i = record { low = i.low; rise = i.rise; next = i.next }
      by (Load image) all i = record { low = i.low; rise = i.rise; next = i.next }
      by (Commit epoch end) all i = record { low = i.low; rise = i.rise; next = i.next }
      by (Lost epoch) all i = record { low = i.low; rise = i.rise; next = i.next }
      by (Lead epoch end) all i =
          let begun = all_after (λ (e : ℕ). Has e won) (option_to_list d.leads) (epochs_begun (Lead epoch end ∷ rest)) all in
          record {
            low = λ x below. (let under : epoch < x = has_all (λ (e : ℕ). e < x) epoch won below begun.0 in omega arith);
            rise = i.rise.1;
            next = λ standby h is. (let n = i.next standby h is in let under : epoch < h.epoch = n.1.0 in (omega arith, n.1.1));
          }

module _ (make : List Batch → List ℕ) where
  abbrev pub AscentOf : (ℕ → ℕ) → Network → ℕ → Type 0
  AscentOf leasts n j = IsAscent (leasts j) (n.frames j) (n.web.cluster.nodes j) (n.web.links j).won (n.web.links j).held

  module _ (n : Network) (h : IsNetwork make n) (leasts : ℕ → ℕ) (all : (j : ℕ) → AscentOf leasts n j) where
    abbrev v : ℕ → Node
    v j = n.web.cluster.nodes j

    abbrev l : ℕ → Link
    l j = n.web.links j

    abbrev Of : ℕ → List Frame → Node → Link → Type 0
    Of j frames node link = IsAscent (leasts j) frames node link.won link.held

    -- a link changes, and nothing is sent
    linked : (k : ℕ) (new : Link) → Of k (n.frames k) (v k) new → (j : ℕ) → Of j (n.frames j) (v j) (cond (nat_eq k j) new (l j))
    linked k new here = at_node k (λ j t. Of j (n.frames j) (v j) (cond t new (l j))) here all

    sent : (k : ℕ) (frame : Frame) (u : Node) → Of k (n.frames k ++ frame ∷ []) u (l k) → (j : ℕ)
        → Of j (cond (nat_eq k j) (n.frames k ++ frame ∷ []) (n.frames j)) (cond (nat_eq k j) u (v j)) (l j)
    sent k frame u here = at_node k (λ j t. Of j (cond t (n.frames k ++ frame ∷ []) (n.frames j)) (cond t u (v j)) (l j)) here all

    sent_by : (k : ℕ) (frame : Frame) (u : Node) (new : Link) → Of k (n.frames k ++ frame ∷ []) u new → (j : ℕ)
        → Of j (cond (nat_eq k j) (n.frames k ++ frame ∷ []) (n.frames j)) (cond (nat_eq k j) u (v j)) (cond (nat_eq k j) new (l j))
    sent_by k frame u new here = at_node k (λ j t. Of j (cond t (n.frames k ++ frame ∷ []) (n.frames j)) (cond t u (v j)) (cond t new (l j))) here all

    none_held : {X : Type 0} (e : Held) → None ≡ Some e → X
    none_held e is = absurd cc

    on : (k : ℕ) (frame : Frame) (u : Node) (then : Option Held) → epoch_begun frame ≡ []
        → (u.leads ≡ None → (e : Held) → then ≡ Some e → (leasts k ≤ e.epoch) × AllByRecursion (λ (x : ℕ). x < e.epoch) (epochs_begun (n.frames k)))
        → IsAscent (leasts k) (n.frames k ++ frame ∷ []) u (l k).won then
    on k frame u then none next = ascent_sent (leasts k) (n.frames k) (v k) (l k).won (l k).held (all k) frame u then none next

    acts : (step : LinkStep) → MayAct make n step → Rises n (Act step) → (j : ℕ) → AscentOf (leasts_after leasts (Act step)) (network_after n (Act step)) j
    acts (Execute k call) a r j = all j
    acts (Clear k keep) a r j = all j
    acts (Make change) a r j = all j
    acts (Win k e) a r j =
        linked k (record { held = Some e; asked = []; waits = []; pipe = (l k).pipe; won = e.epoch ∷ (l k).won; calls = (l k).calls; keeps = (l k).keeps }) (record {
          low = λ x below. (all k).low x below.1;
          rise = (all k).rise;
          next = λ standby x is. (
              let begun = all_after (λ (y : ℕ). Has y (l k).won) (option_to_list (n.daemons k).leads) (epochs_begun (n.frames k)) (h.way k).won_all in
              subst (λ (y : Held). (leasts k ≤ y.epoch) × AllByRecursion (λ (z : ℕ). z < y.epoch) (epochs_begun (n.frames k))) (held_is e x is)
              ((all k).low e.epoch r, all_map (λ (y : ℕ). Has y (l k).won) (λ (y : ℕ). y < e.epoch) (λ y has. has_all (λ (z : ℕ). z < e.epoch) y (l k).won r has) (epochs_begun (n.frames k)) begun));
        }) j
    acts (Read k b) a r j = sent k (Feed b) (after_frame (v k) (Feed b)) (on k (Feed b) (after_frame (v k) (Feed b)) (l k).held refl (all k).next) j
    acts (Take k image) a r j = sent k (Load image) (after_frame (v k) (Load image)) (on k (Load image) (after_frame (v k) (Load image)) (l k).held refl (all k).next) j
    acts (Begin k e) a r j =
        sent_by k (Lead e.epoch e.start) (after_frame (v k) (Lead e.epoch e.start)) (record (l k) { asked = []; waits = [] })
        (ascent_lead (leasts k) (n.frames k) (v k) (l k).won (l k).held (all k) e (after_frame (v k) (Lead e.epoch e.start)) a.standby a.holds refl) j
    acts (Write k b) a r j = absurd a
    acts (Stray k b) a r j = absurd a
    acts (Hear k b rest) a r j = linked k (record (l k) { pipe = rest; waits = (l k).waits ++ b ∷ [] }) (all k) j
    acts (Pass k b rest) a r j = linked k (record (l k) { pipe = rest }) (all k) j
    acts (Ask k e group rest) a r j =
        linked k (record (l k) { asked = group; waits = rest; calls = record { epoch = e.epoch; made = e.made; group = group } ∷ (l k).calls }) (all k) j
    acts (Settle k e) a r j =
        let frame = Commit e.epoch (behind (v k).end (l k).asked) in
        sent_by k frame (after_frame (v k) frame) (record (l k) { asked = [] }) (on k frame (after_frame (v k) frame) (l k).held refl (all k).next) j
    acts (Give k keep) a r j = linked k (record (l k) { keeps = keep ∷ (l k).keeps }) (all k) j
    acts (GiveUp k epoch) a r j =
        sent_by k (Lost epoch) (after_frame (v k) (Lost epoch)) (idle (l k))
        (on k (Lost epoch) (after_frame (v k) (Lost epoch)) None refl (λ standby e is. none_held e is)) j
    acts (LetGo k) a r j =
        linked k (idle (l k)) (record { low = (all k).low; rise = (all k).rise; next = λ standby e is. none_held e is }) j
    acts (Renew k) a r j = at_node k
        (λ j t. IsAscent (cond t 0 (leasts j)) (cond t [] (n.frames j)) (cond t new_node (v j))
        (cond t (record (idle (l k)) { pipe = [] }) (l j)).won (cond t (record (idle (l k)) { pipe = [] }) (l j)).held)
        (record { low = λ x below. omega arith; rise = tt; next = λ standby e is. none_held e is }) all j

    emits : (k : ℕ) (b : Batch) (t : Bool) (j : ℕ)
        → IsAscent (leasts j) (n.frames j) ((stepped n.web (emitted t k b)).cluster.nodes j) ((stepped n.web (emitted t k b)).links j).won ((stepped n.web (emitted t k b)).links j).held
    emits k b true = at_node k
        (λ j t. Of j (n.frames j) (cond t (record (v k) { own = (v k).own ++ b ∷ [] }) (v j)) (cond t (record (l k) { pipe = (l k).pipe ++ b ∷ [] }) (l j)))
        (record { low = (all k).low; rise = (all k).rise; next = (all k).next }) all
    emits k b false = linked k (record (l k) { pipe = (l k).pipe ++ b ∷ [] }) (record { low = (all k).low; rise = (all k).rise; next = (all k).next })

    arrives : (k : ℕ) (frame : Frame) (rest : List Frame) → n.frames k ≡ frame ∷ rest → (j : ℕ)
        → AscentOf (leasts_after leasts (Arrive k frame rest)) (network_after n (Arrive k frame rest)) j
    arrives k frame rest is = at_node k
        (λ j t. IsAscent (cond t (least_after frame (leasts k)) (leasts j)) (cond t rest (n.frames j)) (v j) (l j).won (l j).held)
        (ascent_arrived frame (leasts k) rest (n.daemons k) (v k) (l k).won (l k).held make n.web.cluster.point k
        (subst (λ (fs : List Frame). IsUnderWay make n.web.cluster.point k (n.daemons k) fs (v k) (l k).won (l k).held) is (h.way k))
        (subst (λ (fs : List Frame). IsAscent (leasts k) fs (v k) (l k).won (l k).held) is (all k))) all

    pub ascends : (step : NetworkStep) → MayHappen make n step → Rises n step → (j : ℕ) → AscentOf (leasts_after leasts step) (network_after n step) j
    ascends (Act step) a r j = acts step a r j
    ascends (Arrive k frame rest) a r j = arrives k frame rest a j
    ascends (Emit k b) a r j = emits k b (leads_epoch (v k).leads b.epoch) j
    ascends (Snapshot k image) a r j = all j

    -- ---- what arrives

    place_is : (k : ℕ) (b : Batch) (end : ℕ) → BatchStandsAt n.web.cluster.point.log end b → b.base ≡ end
    place_is k b end s = (meet_after 0 s.before (b ∷ s.after) (subst (Meet 0) s.split h.web.cluster.one.meet)).0 ∙ s.begins

    welcome_by : (k : ℕ) (frame : Frame) (rest : List Frame) → MayArrive make n.web.cluster.point k (n.daemons k) frame
        → Ascend (leasts k) (epochs_begun (frame ∷ rest)) → IsWelcome (n.daemons k) (leasts k) frame
    welcome_by k (Feed b) rest a r = (a.0, place_is k b (n.daemons k).end a.1)
    welcome_by k (Load image) rest a r = (a.standby, a.later)
    welcome_by k (Lead epoch end) rest a r = (a.standby, r.0, sym a.reached)
    welcome_by k (Commit epoch end) rest a r = (
      a.leads,
      record { ended = ended_batches end (n.daemons k).own; others = unended_batches end (n.daemons k).own; split = sym (ended_joined end (n.daemons k).own); at = a.whole },
    )
    welcome_by k (Lost epoch) rest a r = a

    pub welcome : (step : NetworkStep) → MayHappen make n step → IsWelcomeStep n leasts step
    welcome (Arrive k frame rest) is =
        welcome_by k frame rest
        (subst (λ (fs : List Frame). IsUnderWay make n.web.cluster.point k (n.daemons k) fs (v k) (l k).won (l k).held) is (h.way k)).reaches.0
        (subst (λ (fs : List Frame). Ascend (leasts k) (epochs_begun fs)) is (all k).rise)
    welcome (Act step) a = tt
    welcome (Emit k b) a = tt
    welcome (Snapshot k image) a = tt

  pub first_ascent : (j : ℕ) → AscentOf (λ k. 0) no_network j
  first_ascent j = record { low = λ x below. omega arith; rise = tt; next = λ standby e is. (let x : None ≡ Some e = is in absurd cc) }

  all_welcome : (n : Network) (leasts : ℕ → ℕ) (steps : List NetworkStep) → IsNetwork make n → ((j : ℕ) → AscentOf leasts n j) → AllMayHappen make n steps → AllRise n steps
      → AllWelcome n leasts steps
  all_welcome n leasts [] h i a r = tt
  all_welcome n leasts (step ∷ steps) h i (here, a) (rise, r) = (
    welcome n h leasts i step here,
    all_welcome (network_after n step) (leasts_after leasts step) steps (network_right make n step h here).2 (ascends n h leasts i step here rise) a r,
  )

pub nothing_is_refused : NothingIsRefused
nothing_is_refused make steps a r =
    all_welcome make no_network (λ k. 0) steps (first_network make) (first_ascent make) a r
