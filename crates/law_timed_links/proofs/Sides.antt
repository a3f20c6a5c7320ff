-- What a run of links by their clocks has of a node, beside what a run of cores has of it; and that both stay together where a core is told
-- what came, and where its link puts out what is beside the log.
use Rattle.std.proofs.Common.{◌≡◌, ◌∙◌, sym, ℕ, ◌<◌, Bool, true, false, cond, List, [], ◌∷◌, ◌++◌, refl, ap, subst}
use Rattle.std.proofs.lemmas.Bool.{eqb-true}
use Rattle.std.proofs.lemmas.List.{append_assoc}
use Rattle.std.proofs.lemmas.List.Concat.{flat_map-append}
use Rattle.std.specs.Prelude.{flat_map, fold, nat_eq}
use Rattle.std.specs.List.{AllByRecursion}
use Rattle.law_quorum.specs.Batches.{Batch, StoredImage}
use Rattle.law_quorum.specs.Nodes.{Node, Renew, moved}
use Rattle.law_link.specs.Frames.{Act, AllMayHappen, Frame, Network, daemons_of, network_after}
use Rattle.law_link.specs.Links.{Held, Link}
use Rattle.law_link.specs.Refusals.{AllRise, Rises}
use Rattle.law_link.proofs.LinkSteps.{all_map}
use Rattle.law_core.specs.Core.{Appended, Came, Deed, Elected, Hear, Hold, Joined, Leading, LinkCore, Pass, Role, Serve, Standby, Won, core_step, first_core, frames_with, leading, on_appended, on_won, resigning}
use Rattle.law_core.specs.Runs.{Comes, CoreRun, IsRightOf, acts, behind_first, run_after, step_of, steps_of}
use Rattle.law_core.proofs.CoreSteps.{Does, IsCore, came_right}
use Rattle.law_link.proofs.LateFrames.{IsNetwork, networks_right}
use Rattle.kr_link.specs.declared.actions.Action.{Action}
use Rattle.kr_link.specs.Outgoing.{actions_of}
use Rattle.law_timed_links.specs.TimedRuns.{LinkedNode, frames_sent}
use Rattle.law_timed_links.proofs.DeedEffects.{IsKnown, all_both, all_frames_stay, all_later, all_linked, all_same_cluster, all_same_images, all_sent, deeds_known, frames_put, known_later, link_with, links_stay, nodes_stay, there}
use Rattle.law_timed_links.proofs.CoreDeeds.{AreQuiet, IsAsked, IsNoJoin, IsQuiet, Leaves, TakesFirst, appended, asks, led, leaves, pipe_told, plain, quiet_all, resigned, won_told}

pub record CoreSide : Type 0 where
  pub core : LinkCore
  pub frames : List Frame
  pub link : Link
  pub images : List StoredImage

abbrev pub side_of : LinkCore → List Frame → Link → List StoredImage → CoreSide
side_of core frames link images = record { core = core; frames = frames; link = link; images = images }

abbrev pub core_side : CoreRun → ℕ → CoreSide
core_side r k = side_of (r.cores k) (r.network.frames k) (r.network.web.links k) (r.network.images k)

-- with the epochs that the link of the node was told to have won
pub record LinkSide : Type 0 where
  pub core : LinkCore
  pub actions : List Action
  pub done : List (ℕ × Action)
  pub frames : List Frame
  pub pipe : List Batch
  pub images : List StoredImage
  pub won : List ℕ

abbrev pub link_side : LinkedNode → List ℕ → LinkSide
link_side x won = record { core = x.link.core; actions = x.link.out.actions; done = x.done; frames = x.frames; pipe = x.pipe; images = x.images; won = won }

pub record AreSides (v : CoreSide) (s : LinkSide) : Type 0 where
  pub core : v.core ≡ s.core
  pub frames : v.frames ≡ s.frames ++ flat_map frames_sent s.actions
  pub pipe : v.link.pipe ≡ s.pipe
  pub images : v.images ≡ s.images
  pub won : v.link.won ≡ s.won
  pub known : AllByRecursion (IsKnown v.link) s.actions
  pub done : AllByRecursion (λ (e : ℕ × Action). IsKnown v.link e.1) s.done
  pub asked : IsAsked s.core.role v.link.calls

abbrev pub AllSides : (ℕ → LinkedNode) → (ℕ → List ℕ) → CoreRun → Type 0
AllSides nodes won r = (k : ℕ) → AreSides (core_side r k) (link_side (nodes k) (won k))

abbrev pub told_by : LinkCore → LinkSide → Came → LinkSide
told_by c s came = record {
  core = (core_step c came).0;
  actions = s.actions ++ flat_map actions_of (core_step c came).1;
  done = s.done;
  frames = s.frames;
  pipe = pipe_told (behind_first s.pipe) came s.pipe;
  images = s.images;
  won = won_told came c.role s.won;
}

abbrev pub joined_side : LinkSide → List Action → LinkSide
joined_side s actions = record { core = first_core; actions = actions; done = s.done; frames = []; pipe = []; images = s.images; won = s.won }

-- ---- campaigns rise

abbrev pub RisesBehind : Came → List ℕ → Type 0
RisesBehind (Won h) won = AllByRecursion (λ (e : ℕ). e < h.epoch) won
RisesBehind other won = Unit {0}

module _ (k : ℕ) (rest : List Batch) where
  rise_one : (n : Network) (deed : Deed) → IsQuiet deed → Rises n (Act (step_of k rest deed))
  rise_one n (Hold h) q = absurd q
  rise_one n other q = tt

  rise_quiet : (n : Network) (deeds : List Deed) → AreQuiet deeds → AllRise n (acts k rest deeds)
  rise_quiet n [] q = tt
  rise_quiet n (deed ∷ deeds) (q, all) = (rise_one n deed q, rise_quiet (network_after n (Act (step_of k rest deed))) deeds all)

  rise_taken : (n : Network) (deeds : List Deed) → TakesFirst deeds → AllRise n (acts k rest deeds)
  rise_taken n [] t = absurd t
  rise_taken n (Hear b ∷ deeds) (t, q) = (tt, rise_quiet (network_after n (Act (step_of k rest (Hear b)))) deeds q)
  rise_taken n (Pass b ∷ deeds) (t, q) = (tt, rise_quiet (network_after n (Act (step_of k rest (Pass b)))) deeds q)
  rise_taken n (other ∷ deeds) (t, q) = absurd t

  rise_won : (n : Network) (fed : ℕ) (role : Role) (h : Held) → AllByRecursion (λ (e : ℕ). e < h.epoch) (n.web.links k).won → AllRise n (acts k rest (on_won fed role h).1)
  rise_won n fed Standby h below = (below, rise_quiet (network_after n (Act (step_of k rest (Hold h)))) (leading fed h) (led fed h))
  rise_won n fed (Elected held) h below = tt
  rise_won n fed (Leading held asked waits) h below = tt

  pub rises : (n : Network) (c : LinkCore) (came : Came) → RisesBehind came (n.web.links k).won → AllRise n (acts k rest (core_step c came).1)
  rises n c Joined below = (tt, rise_quiet (network_after n (Act (step_of k rest Serve))) (resigning c.role) (resigned c.role))
  rises n c (Appended b) below = rise_taken n (on_appended c.fed c.role b).1 (appended c.fed c.role b)
  rises n c (Won h) below = rise_won n c.fed c.role h below
  rises n c came below = rise_quiet n (core_step c came).1 (plain c came tt)

-- ---- another node's sides

same_side : (a b : LinkCore) (f g : List Frame) (l m : Link) (i h : List StoredImage) → a ≡ b → f ≡ g → l ≡ m → i ≡ h → side_of a f l i ≡ side_of b g m h
same_side a b f g l m i h x y z w =
    ap (λ (core : LinkCore). side_of core f l i) x ∙ (ap (λ (frames : List Frame). side_of b frames l i) y
    ∙ (ap (λ (link : Link). side_of b g link i) z ∙ ap (λ (images : List StoredImage). side_of b g m images) w))

module _ (k : ℕ) (came : Came) (r : CoreRun) where
  abbrev deeds : List Deed
  deeds = (core_step (r.cores k) came).1

  abbrev rest : List Batch
  rest = behind_first (r.network.web.links k).pipe

  side_stays : (j : ℕ) → nat_eq k j ≡ false → core_side (run_after r (Comes k came)) j ≡ core_side r j
  side_stays j other =
      let next = run_after r (Comes k came) in
      same_side (next.cores j) (r.cores j) (next.network.frames j) (r.network.frames j) (next.network.web.links j) (r.network.web.links j) (next.network.images j) (r.network.images j)
      (ap (λ (t : Bool). cond t (core_step (r.cores k) came).0 (r.cores j)) other) (all_frames_stay k rest j other r.network deeds)
      (links_stay k rest j other r.network deeds) (ap (λ (images : ℕ → List StoredImage). images j) (all_same_images k rest r.network deeds))

  pub sides_stay : (j : ℕ) → nat_eq k j ≡ false → (s : LinkSide) → AreSides (core_side r j) s → AreSides (core_side (run_after r (Comes k came)) j) s
  sides_stay j other s a = subst (λ (v : CoreSide). AreSides v s) (sym (side_stays j other)) a

-- ---- a core is told what came

module _ (make : List Batch → List ℕ) (k : ℕ) (r : CoreRun) (net : IsNetwork make r.network)
    (cores : (j : ℕ) → IsCore (r.cores j) (r.network.web.cluster.nodes j) (r.network.web.links j)) where
  abbrev n : Network
  n = r.network

  abbrev c : LinkCore
  c = r.cores k

  abbrev l : Link
  l = n.web.links k

  module _ (came : Came) (right : IsRightOf make r.network k came) where
    does : Does make k (behind_first l.pipe) n (core_step c came).1 (core_step c came).0
    does = came_right make k n net c came (cores k) right

    pub may_come : AllMayHappen make r.network (steps_of r (Comes k came))
    may_come = does.may

    pub network_then : IsNetwork make (run_after r (Comes k came)).network
    network_then = networks_right make n (acts k (behind_first l.pipe) (core_step c came).1) net does.may

    abbrev next : CoreRun
    next = run_after r (Comes k came)

    pub cores_then : (j : ℕ) → IsCore ((run_after r (Comes k came)).cores j) ((run_after r (Comes k came)).network.web.cluster.nodes j) ((run_after r (Comes k came)).network.web.links j)
    cores_then j = by (nat_eq k j) refl
      where
        by : (t : Bool) → nat_eq k j ≡ t → IsCore (cond t (core_step c came).0 (r.cores j)) (next.network.web.cluster.nodes j) (next.network.web.links j)
        by true e = subst (λ (i : ℕ). IsCore (core_step c came).0 (next.network.web.cluster.nodes i) (next.network.web.links i)) (eqb-true k j e) does.core
        by false e =
            subst (λ (v : Node). IsCore (r.cores j) v (next.network.web.links j)) (sym (nodes_stay k (behind_first l.pipe) j e n (core_step c came).1))
            (subst (λ (m : Link). IsCore (r.cores j) (n.web.cluster.nodes j) m) (sym (links_stay k (behind_first l.pipe) j e n (core_step c came).1)) (cores j))

  module _ (came : Came) (free : IsNoJoin came) (right : IsRightOf make r.network k came) (s : LinkSide) (a : AreSides (core_side r k) s) where
    abbrev after : CoreRun
    after = run_after r (Comes k came)

    abbrev link_then : Link
    link_then = fold (link_with (behind_first l.pipe)) l (core_step c came).1

    linked : after.network.web.links k ≡ link_then
    linked = all_linked k (behind_first l.pipe) n (core_step c came).1

    left : Leaves (behind_first l.pipe) l (core_step c came).1 (pipe_told (behind_first l.pipe) came l.pipe) (won_told came c.role l.won)
    left = leaves (behind_first l.pipe) l c came free

    frames_then : after.network.frames k ≡ s.frames ++ flat_map frames_sent (s.actions ++ flat_map actions_of (core_step c came).1)
    frames_then =
        let deeds = (core_step c came).1 in
        (does came right).handed
        ∙ (frames_put (n.frames k) deeds left.no_serve
        ∙ (ap (λ (fs : List Frame). fs ++ all_sent deeds) a.frames
        ∙ (append_assoc s.frames (flat_map frames_sent s.actions) (all_sent deeds)
        ∙ ap (λ (fs : List Frame). s.frames ++ fs) (sym (flat_map-append frames_sent s.actions (flat_map actions_of deeds))))))

    told_sides : AreSides (core_side after k) (told_by c s came)
    told_sides = record {
      core = there k (core_step c came).0 (r.cores k);
      frames = frames_then;
      pipe = ap (λ (x : Link). x.pipe) linked ∙ (left.pipe ∙ ap (λ (p : List Batch). pipe_told (behind_first p) came p) a.pipe);
      images = ap (λ (images : ℕ → List StoredImage). images k) (all_same_images k (behind_first l.pipe) n (core_step c came).1) ∙ a.images;
      won = ap (λ (x : Link). x.won) linked ∙ (left.won ∙ ap (λ (w : List ℕ). won_told came c.role w) a.won);
      known = subst (λ (x : Link). AllByRecursion (IsKnown x) (s.actions ++ flat_map actions_of (core_step c came).1)) (sym linked)
          (all_both (IsKnown link_then) s.actions (flat_map actions_of (core_step c came).1)
          (all_later (behind_first l.pipe) l (core_step c came).1 s.actions a.known) (deeds_known (behind_first l.pipe) l (core_step c came).1));
      done = subst (λ (x : Link). AllByRecursion (λ (e : ℕ × Action). IsKnown x e.1) s.done) (sym linked)
          (all_map (λ (e : ℕ × Action). IsKnown l e.1) (λ (e : ℕ × Action). IsKnown link_then e.1)
          (λ e h. known_later (behind_first l.pipe) l (core_step c came).1 e.1 h) s.done a.done);
      asked = subst (λ (x : Link). IsAsked (core_step c came).0.role x.calls) (sym linked)
          (asks (behind_first l.pipe) l c came (subst (λ (q : LinkCore). IsAsked q.role l.calls) (sym a.core) a.asked));
    }

    pub told_right : AreSides (core_side (run_after r (Comes k came)) k) (told_by s.core s came)
    told_right = subst (λ (q : LinkCore). AreSides (core_side after k) (told_by q s came)) a.core told_sides

    pub told_cluster : daemons_of (run_after r (Comes k came)).network ≡ daemons_of r.network
    told_cluster = all_same_cluster k (behind_first l.pipe) n (core_step c came).1 left.no_serve

  -- ---- a new daemon

  frames_resigning : (role : Role) → fold frames_with [] (resigning role) ≡ []
  frames_resigning Standby = refl
  frames_resigning (Elected h) = refl
  frames_resigning (Leading h asked waits) = refl

  pipe_resigning : (x : Link) (role : Role) → x.pipe ≡ [] → (fold (link_with (behind_first l.pipe)) x (resigning role)).pipe ≡ []
  pipe_resigning x Standby e = e
  pipe_resigning x (Elected h) e = e
  pipe_resigning x (Leading h asked waits) e = e

  won_resigning : (x : Link) (role : Role) → (fold (link_with (behind_first l.pipe)) x (resigning role)).won ≡ x.won
  won_resigning x Standby = refl
  won_resigning x (Elected h) = refl
  won_resigning x (Leading h asked waits) = refl

  module _ (s : LinkSide) (a : AreSides (core_side r k) s) (actions : List Action) (silent : flat_map frames_sent actions ≡ [])
      (known : (x : Link) → AllByRecursion (IsKnown x) actions) where
    abbrev joined : CoreRun
    joined = run_after r (Comes k Joined)

    abbrev served : Link
    served = fold (link_with (behind_first l.pipe)) l (core_step c Joined).1

    joined_link : joined.network.web.links k ≡ served
    joined_link = all_linked k (behind_first l.pipe) n (core_step c Joined).1

    pub join_right : AreSides (core_side (run_after r (Comes k Joined)) k) (joined_side s actions)
    join_right = record {
      core = there k (core_step c Joined).0 (r.cores k);
      frames = (does Joined tt).handed ∙ (frames_resigning c.role ∙ sym silent);
      pipe = ap (λ (x : Link). x.pipe) joined_link ∙ pipe_resigning (link_with (behind_first l.pipe) l Serve) c.role refl;
      images = ap (λ (images : ℕ → List StoredImage). images k) (all_same_images k (behind_first l.pipe) n (core_step c Joined).1) ∙ a.images;
      won = ap (λ (x : Link). x.won) joined_link ∙ (won_resigning (link_with (behind_first l.pipe) l Serve) c.role ∙ a.won);
      known = known (joined.network.web.links k);
      done = subst (λ (x : Link). AllByRecursion (λ (e : ℕ × Action). IsKnown x e.1) s.done) (sym joined_link)
          (all_map (λ (e : ℕ × Action). IsKnown l e.1) (λ (e : ℕ × Action). IsKnown served e.1)
          (λ e h. known_later (behind_first l.pipe) l (core_step c Joined).1 e.1 h) s.done a.done);
      asked = tt;
    }

  pub join_cluster : daemons_of (run_after r (Comes k Joined)).network ≡ moved (daemons_of r.network) (Renew k)
  join_cluster = all_same_cluster k (behind_first l.pipe) (network_after n (Act (step_of k (behind_first l.pipe) Serve))) (resigning c.role) (quiet_all (resigning c.role) (resigned c.role))
