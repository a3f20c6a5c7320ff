-- Each call of a link keeps its node beside a run of cores: its core is told what came, or that the leadership is over, and what else it
-- puts out is beside the log.
use Rattle.std.proofs.Common.{◌≡◌, ◌∙◌, sym, ℕ, Bool, true, false, cond, List, [], ◌∷◌, ◌++◌, refl, ap, subst, inl, inr, ◌⊎◌}
use Rattle.std.proofs.lemmas.List.{append_assoc, append-nil}
use Rattle.std.proofs.lemmas.List.Concat.{flat_map-append}
use Rattle.std.specs.Prelude.{None, Option, Some, filter, flat_map, fold, nat_eq}
use Rattle.std.specs.List.{AllByRecursion}
use Rattle.law_quorum.specs.Batches.{Batch}
use Rattle.law_quorum.specs.Nodes.{Cluster, Renew, moved}
use Rattle.law_link.specs.Frames.{AllMayHappen, Frame, daemons_of}
use Rattle.law_link.specs.Links.{Held, Link}
use Rattle.law_link.specs.Refusals.{AllRise}
use Rattle.law_link.proofs.LateFrames.{IsNetwork}
use Rattle.law_core.specs.Core.{Appended, Came, Elected, Joined, Leading, LinkCore, Outcome, Over, Pass, Role, Standby, Won, core_step, first_core, on_appended, on_over, resigning}
use Rattle.law_core.specs.Runs.{Comes, CoreRun, IsRightOf, behind_first, run_after, steps_of}
use Rattle.law_core.proofs.CoreSteps.{IsCore}
use Rattle.kr_link.specs.declared.actions.Action.{Action}
use Rattle.kr_link.specs.declared.actions.Action.TheVariants as actions
use Rattle.kr_link.specs.declared.actions.DaemonFrame.TheVariants as frames
use Rattle.kr_link.specs.declared.campaigns.Campaign.{Campaign}
use Rattle.kr_link.specs.declared.roles.Held.{Held as KrHeld}
use Rattle.kr_link.specs.LinkMoves as calls
use Rattle.kr_link.specs.Roles.{held_of}
use Rattle.kr_link.specs.Outgoing.{Outgoing, actions_of, put_all, put_one}
use Rattle.kr_link.specs.LinkMoves.{AreLinkMoves, CallAgain, Campaigns, CoreWork, Do, GiveUp, LinkMove, TakesWhatCame, again_actions, core_work, is_beside, won_came, work_after, work_told}
use Rattle.kr_link.specs.TimedLinks.{TimedLink, closes, gives_up, hears, is_stray, let_go, on_join, on_write, pinged, serves}
use Rattle.law_timed_links.specs.TimedRuns.{LinkedNode, called, frames_sent}
use Rattle.law_timed_links.proofs.DeedEffects.{IsKnown, all_both, either}
use Rattle.law_timed_links.proofs.CoreDeeds.{IsAsked, IsNoJoin, IsPlain, won_by}
use Rattle.law_timed_links.proofs.Sides.{AreSides, CoreSide, LinkSide, RisesBehind, core_side, cores_then, join_cluster, join_right, joined_side, link_side, may_come, network_then, rises, sides_stay, told_by, told_cluster, told_right}

-- ---- what goes out

put_actions : (more : List Action) (out : Outgoing) → (fold put_one out more).actions ≡ out.actions ++ more
put_actions [] out = sym (append-nil out.actions)
put_actions (action ∷ more) out = put_actions more (put_one out action) ∙ append_assoc out.actions (action ∷ []) more

-- actions that hand over nothing of the log, and change nothing of it but what is known
module _ (v : CoreSide) (s : LinkSide) (a : AreSides v s) (more : List Action) (silent : flat_map frames_sent more ≡ []) (known : AllByRecursion (IsKnown v.link) more) where
  same_frames : s.frames ++ flat_map frames_sent s.actions ≡ s.frames ++ flat_map frames_sent (s.actions ++ more)
  same_frames =
      ap (λ (fs : List Frame). s.frames ++ fs)
      (sym (flat_map-append frames_sent s.actions more ∙ (ap (λ (fs : List Frame). flat_map frames_sent s.actions ++ fs) silent ∙ append-nil (flat_map frames_sent s.actions))))

  more_put : AreSides v (record s { actions = s.actions ++ more })
  more_put = record {
    core = a.core;
    frames = a.frames ∙ same_frames;
    pipe = a.pipe;
    images = a.images;
    won = a.won;
    known = all_both (IsKnown v.link) s.actions more a.known known;
    done = a.done;
    asked = a.asked;
  }

-- ---- at one node

abbrev pub side_with : LinkSide → CoreWork → LinkSide
side_with s w = record s { core = w.core; actions = w.actions }

-- a run of cores, of which something is recorded, that comes to a cluster and to what is said of it
pub record ComesTo (make : List Batch → List ℕ) (R : CoreRun → Type 0) (c : Cluster) (P : CoreRun → Type 0) : Type 0 where
  pub run : CoreRun
  pub recorded : R run
  pub network : IsNetwork make run.network
  pub cores : (j : ℕ) → IsCore (run.cores j) (run.network.web.cluster.nodes j) (run.network.web.links j)
  pub cluster : daemons_of run.network ≡ c
  pub sides : P run

-- it is recorded that something came, and that a new daemon did
abbrev pub RecordsAll : (List Batch → List ℕ) → (CoreRun → Type 0) → Type 0
RecordsAll make R = (r : CoreRun) (k : ℕ) (came : Came) → IsNoJoin came → R r → IsRightOf make r.network k came → AllMayHappen make r.network (steps_of r (Comes k came))
    → AllRise r.network (steps_of r (Comes k came)) → R (run_after r (Comes k came))

abbrev pub RecordsJoin : (List Batch → List ℕ) → (CoreRun → Type 0) → (ℕ → CoreRun → Type 0) → Type 0
RecordsJoin make R Renewed = (r : CoreRun) (k : ℕ) → R r → AllMayHappen make r.network (steps_of r (Comes k Joined)) → AllRise r.network (steps_of r (Comes k Joined))
    → Renewed k (run_after r (Comes k Joined))

module _ (make : List Batch → List ℕ) (R : CoreRun → Type 0) where
  -- what is said of it says something else
  pub so_too : (c : Cluster) (P Q : CoreRun → Type 0) (x : ComesTo make R c P) → (P x.run → Q x.run) → ComesTo make R c Q
  so_too c P Q x f = record { run = x.run; recorded = x.recorded; network = x.network; cores = x.cores; cluster = x.cluster; sides = f x.sides }

module _ (make : List Batch → List ℕ) (R : CoreRun → Type 0) (Renewed : ℕ → CoreRun → Type 0) (records : RecordsAll make R) (joins : RecordsJoin make R Renewed) (k : ℕ) (sides : ℕ → LinkSide) where
  abbrev pub AreAt : LinkSide → CoreRun → Type 0
  AreAt s r = AreSides (core_side r k) s × ((j : ℕ) → nat_eq k j ≡ false → AreSides (core_side r j) (sides j))

  came_at : (c d : Cluster) (P Q S : CoreRun → Type 0) (x : ComesTo make R c P) (came : Came) → IsRightOf make x.run.network k came
      → (AllMayHappen make x.run.network (steps_of x.run (Comes k came)) → AllRise x.run.network (steps_of x.run (Comes k came)) → S (run_after x.run (Comes k came)))
      → RisesBehind came (x.run.network.web.links k).won → daemons_of (run_after x.run (Comes k came)).network ≡ d → Q (run_after x.run (Comes k came)) → ComesTo make S d Q
  came_at c d P Q S x came right recorded below cluster sides = record {
    run = run_after x.run (Comes k came);
    recorded = recorded (may_come make k x.run x.network x.cores came right)
        (rises k (behind_first (x.run.network.web.links k).pipe) x.run.network (x.run.cores k) came below);
    network = network_then make k x.run x.network x.cores came right;
    cores = cores_then make k x.run x.network x.cores came right;
    cluster = cluster;
    sides = sides;
  }

  pub told_at : (c : Cluster) (s : LinkSide) (came : Came) → IsNoJoin came → (x : ComesTo make R c (AreAt s)) → IsRightOf make x.run.network k came
      → RisesBehind came s.won → ComesTo make R c (AreAt (told_by s.core s came))
  told_at c s came free x right below =
      let r = x.run in
      came_at c c (AreAt s) (AreAt (told_by s.core s came)) R x came right (λ may rise. records r k came free x.recorded right may rise) (subst (λ (won : List ℕ). RisesBehind came won) (sym x.sides.0.won) below)
      (told_cluster make k r x.network x.cores came free right s x.sides.0 ∙ x.cluster)
      (told_right make k r x.network x.cores came free right s x.sides.0, λ j other. sides_stay k came r j other (sides j) (x.sides.1 j other))

  pub joins_at : (c : Cluster) (s : LinkSide) (actions : List Action) → flat_map frames_sent actions ≡ [] → ((l : Link) → AllByRecursion (IsKnown l) actions)
      → ComesTo make R c (AreAt s) → ComesTo make (Renewed k) (moved c (Renew k)) (AreAt (joined_side s actions))
  joins_at c s actions silent known x =
      let r = x.run in
      came_at c (moved c (Renew k)) (AreAt s) (AreAt (joined_side s actions)) (Renewed k) x Joined tt (λ may rise. joins r k x.recorded may rise) tt
      (join_cluster make k r x.network x.cores ∙ ap (λ (q : Cluster). moved q (Renew k)) x.cluster)
      (join_right make k r x.network x.cores s x.sides.0 actions silent known, λ j other. sides_stay k Joined r j other (sides j) (x.sides.1 j other))

  silent_at : (c : Cluster) (s : LinkSide) (more : List Action) → flat_map frames_sent more ≡ [] → ((v : CoreSide) → AreSides v s → AllByRecursion (IsKnown v.link) more)
      → ComesTo make R c (AreAt s) → ComesTo make R c (AreAt (record s { actions = s.actions ++ more }))
  silent_at c s more silent known x =
      so_too make R c (AreAt s) (AreAt (record s { actions = s.actions ++ more })) x
      (λ a. (more_put (core_side x.run k) s a.0 more silent (known (core_side x.run k) a.0), a.1))

  side_is : (c : Cluster) (s t : LinkSide) → s ≡ t → ComesTo make R c (AreAt s) → ComesTo make R c (AreAt t)
  side_is c s t e x = subst (λ (side : LinkSide). ComesTo make R c (AreAt side)) e x

  -- ---- moves

  again_silent : (role : Role) → flat_map frames_sent (again_actions role) ≡ []
  again_silent Standby = refl
  again_silent (Elected h) = refl
  again_silent (Leading h [] waits) = refl
  again_silent (Leading h (b ∷ bs) waits) = refl

  again_known : (l : Link) (role : Role) → IsAsked role l.calls → AllByRecursion (IsKnown l) (again_actions role)
  again_known l Standby a = tt
  again_known l (Elected h) a = tt
  again_known l (Leading h [] waits) a = tt
  again_known l (Leading h (b ∷ bs) waits) a = ((record { call = record { epoch = h.epoch; made = h.made; group = b ∷ bs }; has = a; key = refl; batches = refl }, refl), tt)

  beside_silent : (action : Action) → flat_map frames_sent (filter is_beside (action ∷ [])) ≡ []
  beside_silent (actions.Send frames.Ping) = refl
  beside_silent (actions.Send frames.Tick) = refl
  beside_silent (actions.Send frame) = refl
  beside_silent other = refl

  beside_known : (l : Link) (action : Action) → AllByRecursion (IsKnown l) (filter is_beside (action ∷ []))
  beside_known l (actions.Send frames.Ping) = (tt, tt)
  beside_known l (actions.Send frames.Tick) = (tt, tt)
  beside_known l (actions.Send frame) = tt
  beside_known l (actions.Append guard batches) = tt
  beside_known l (actions.DropBatches before below image) = tt
  beside_known l (actions.Campaign token) = tt
  beside_known l other = (tt, tt)

  move_at : (c : Cluster) (s : LinkSide) (w : CoreWork) (move : LinkMove) → ComesTo make R c (AreAt (side_with s w)) → ComesTo make R c (AreAt (side_with s (work_after w move)))
  move_at c s w GiveUp x = told_at c (side_with s w) Over tt x tt tt
  move_at c s w CallAgain x = silent_at c (side_with s w) (again_actions w.core.role) (again_silent w.core.role) (λ v a. again_known v.link w.core.role a.asked) x
  move_at c s w Campaigns x = silent_at c (side_with s w) (actions.Campaign w.next ∷ []) refl (λ v a. (tt, tt)) x
  move_at c s w (Do action) x = silent_at c (side_with s w) (filter is_beside (action ∷ [])) (beside_silent action) (λ v a. beside_known v.link action) x

  moves_at : (c : Cluster) (s : LinkSide) (w : CoreWork) (moves : List LinkMove) → ComesTo make R c (AreAt (side_with s w)) → ComesTo make R c (AreAt (side_with s (fold work_after w moves)))
  moves_at c s w [] x = x
  moves_at c s w (move ∷ moves) x = moves_at c s (work_after w move) moves (move_at c s w move x)

  pub all_moves_at : (c : Cluster) (s : LinkSide) (w then : CoreWork) → AreLinkMoves w then → ComesTo make R c (AreAt (side_with s w)) → ComesTo make R c (AreAt (side_with s then))
  all_moves_at c s w then m x = side_is c (side_with s (fold work_after w m.0)) (side_with s then) (ap (λ (q : CoreWork). side_with s q) m.1) (moves_at c s w m.0 x)

  -- ---- a call that brings nothing but for the core, or what can't be wrong

  plain_by : (c : Cluster) (s : LinkSide) (came : Came) (before then : CoreWork) → IsPlain came → (told : Bool) → AreLinkMoves (cond told (work_told before came) before) then
      → (x : ComesTo make R c (AreAt (side_with s before))) → IsRightOf make x.run.network k came → ComesTo make R c (AreAt (side_with s then))
  plain_by c s Joined before then p told m x right = absurd p
  plain_by c s (Appended b) before then p told m x right = absurd p
  plain_by c s (Won h) before then p told m x right = absurd p
  plain_by c s came before then p true m x right = all_moves_at c s (work_told before came) then m (told_at c (side_with s before) came tt x right tt)
  plain_by c s came before then p false m x right = all_moves_at c s before then m x

  pub plain_at : (c : Cluster) (s : LinkSide) (came : Came) (before then : CoreWork) → IsPlain came → TakesWhatCame came before then
      → (x : ComesTo make R c (AreAt (side_with s before))) → IsRightOf make x.run.network k came → ComesTo make R c (AreAt (side_with s then))
  plain_at c s came before then p t x right = plain_by c s came before then p t.0 t.1 x right

  -- ---- a daemon's batch

  abbrev wrote_side : LinkSide → LinkCore → List Action → LinkSide
  wrote_side s core done = record s { core = core; actions = done; pipe = behind_first s.pipe }

  over_then : (fed : ℕ) (role : Role) (b : Batch) → on_appended (on_over fed role).0.fed (on_over fed role).0.role b ≡ ((on_over fed role).0, Pass b ∷ [])
  over_then fed Standby b = refl
  over_then fed (Elected h) b = refl
  over_then fed (Leading h asked waits) b = refl

  module _ (c : Cluster) (x : LinkedNode) (won : List ℕ) (at : ComesTo make R c (AreAt (link_side x won))) where
    abbrev s : LinkSide
    s = link_side x won

    abbrev l : TimedLink
    l = x.link

    module _ (b : Batch) (rest : List Batch) (piped : x.pipe ≡ b ∷ rest) where
      heard_at : ComesTo make R c (AreAt (wrote_side s (hears l b).core (hears l b).out.actions))
      unfolding hears
      heard_at =
          let o = core_step l.core (Appended b) in
          side_is c (told_by l.core s (Appended b)) (wrote_side s o.0 (put_all l.out o.1).actions)
          (ap (λ (done : List Action). wrote_side s o.0 done) (sym (put_actions (flat_map actions_of o.1) l.out)))
          (told_at c s (Appended b) tt at (rest, at.sides.0.pipe ∙ piped) tt)

      stray_at : ComesTo make R c (AreAt (wrote_side s (let_go l).core (let_go l).out.actions))
      unfolding let_go closes gives_up
      stray_at =
          let first = core_step l.core Over in
          let over : LinkSide = told_by l.core s Over in
          let told : ComesTo make R c (AreAt over) = told_at c s Over tt at tt tt in
          let both : ComesTo make R c (AreAt (told_by over.core over (Appended b))) = told_at c over (Appended b) tt told (rest, told.sides.0.pipe ∙ piped) tt in
          let closed = silent_at c (told_by over.core over (Appended b)) (actions.Close ∷ []) refl (λ v a. (tt, tt)) both in
          let passed : core_step over.core (Appended b) ≡ (first.0, Pass b ∷ []) = over_then l.core.fed l.core.role b in
          side_is c (wrote_side s (core_step over.core (Appended b)).0 ((over.actions ++ flat_map actions_of (core_step over.core (Appended b)).1) ++ actions.Close ∷ []))
          (wrote_side s first.0 ((put_all l.out first.1).actions ++ actions.Close ∷ []))
          (ap (λ (o : Outcome). wrote_side s o.0 ((over.actions ++ flat_map actions_of o.1) ++ actions.Close ∷ [])) passed
          ∙ (ap (λ (done : List Action). wrote_side s first.0 (done ++ actions.Close ∷ [])) (append-nil over.actions)
          ∙ ap (λ (done : List Action). wrote_side s first.0 (done ++ actions.Close ∷ [])) (sym (put_actions (flat_map actions_of first.1) l.out))))
          closed

      pub wrote_at : ComesTo make R c (AreAt (link_side (called x (calls.Write b)) won))
      unfolding on_write
      wrote_at = either (λ (m : TimedLink). ComesTo make R c (AreAt (wrote_side s m.core m.out.actions))) (is_stray l b) (let_go l) (hears l b) stray_at heard_at

    -- ---- a new daemon

    abbrev resign_actions : Role → List Action
    resign_actions role = flat_map actions_of (resigning role) ++ actions.Send frames.Ping ∷ []

    resign_silent : (role : Role) → flat_map frames_sent (resign_actions role) ≡ []
    resign_silent Standby = refl
    resign_silent (Elected h) = refl
    resign_silent (Leading h asked waits) = refl

    resign_known : (m : Link) (role : Role) → AllByRecursion (IsKnown m) (resign_actions role)
    resign_known m Standby = (tt, tt)
    resign_known m (Elected h) = (tt, (tt, tt))
    resign_known m (Leading h asked waits) = (tt, (tt, tt))

    module _ (now : ℕ) (none : x.link.out.actions ≡ []) where
      join_puts : (on_join l now).out.actions ≡ resign_actions l.core.role
      unfolding on_join serves pinged
      join_puts =
          ap (λ (done : List Action). done ++ actions.Send frames.Ping ∷ [])
          (put_actions (flat_map actions_of (resigning l.core.role)) l.out ∙ ap (λ (done : List Action). done ++ flat_map actions_of (resigning l.core.role)) none)

      join_core : (on_join l now).core ≡ first_core
      unfolding on_join serves pinged
      join_core = refl

      pub joined_at : ComesTo make (Renewed k) (moved c (Renew k)) (AreAt (link_side (called x (calls.Join now)) won))
      joined_at =
          let puts = (on_join l now).out.actions in
          subst (λ (side : LinkSide). ComesTo make (Renewed k) (moved c (Renew k)) (AreAt side))
          (ap (λ (core : LinkCore). record (joined_side s puts) { core = core }) (sym join_core))
          (joins_at c s puts (ap (λ (done : List Action). flat_map frames_sent done) join_puts ∙ resign_silent l.core.role)
          (λ m. subst (λ (done : List Action). AllByRecursion (IsKnown m) done) (sym join_puts) (resign_known m l.core.role)) at)

    -- ---- a campaign that took effect

    pub record WinsAt (then : TimedLink) (campaign : Option Campaign) (h : Held) : Type 0 where
      pub won_then : List ℕ
      pub how : (won_then ≡ won) ⊎ ((campaign ≡ None → ⊥) × (won_then ≡ h.epoch ∷ won))
      pub at_then : ComesTo make R c (AreAt (record s { core = then.core; actions = then.out.actions; won = won_then }))

    won_how : (role : Role) (h : Held) → (won_by role h won ≡ won) ⊎ (won_by role h won ≡ h.epoch ∷ won)
    won_how Standby h = inr refl
    won_how (Elected held) h = inl refl
    won_how (Leading held asked waits) h = inl refl

    some_is : (campaign : Campaign) → Some campaign ≡ None → ⊥
    some_is campaign e = (let z : Some campaign ≡ None = e in absurd cc)

    module _ (then : TimedLink) (held : KrHeld) where
      told_win : (campaign : Campaign) → IsRightOf make at.run.network k (Won (held_of held)) → RisesBehind (Won (held_of held)) won
          → (told : Bool) → AreLinkMoves (cond told (work_told (core_work l) (Won (held_of held))) (core_work l)) (core_work then) → WinsAt then (Some campaign) (held_of held)
      told_win campaign right below false m = record { won_then = won; how = inl refl; at_then = all_moves_at c s (core_work l) (core_work then) m at }
      told_win campaign right below true m =
          let won_then = won_by l.core.role (held_of held) won in
          record {
            won_then = won_then;
            how = elim (won_how l.core.role (held_of held)) [ inl e ↦ inl e | inr e ↦ inr (some_is campaign, e) ];
            at_then = all_moves_at c (record s { won = won_then }) (work_told (core_work l) (Won (held_of held))) (core_work then) m
                (told_at c s (Won (held_of held)) tt at right below);
          }

      pub win_at : (campaign : Option Campaign) → TakesWhatCame (won_came held campaign) (core_work l) (core_work then)
          → ((it : Campaign) → campaign ≡ Some it → IsRightOf make at.run.network k (Won (held_of held)) × RisesBehind (Won (held_of held)) won)
          → WinsAt then campaign (held_of held)
      win_at None t right = record { won_then = won; how = inl refl; at_then = plain_at c s Over (core_work l) (core_work then) tt t at tt }
      win_at (Some campaign) t right = told_win campaign (right campaign refl).0 (right campaign refl).1 t.0 t.1
