-- What links by their clocks and the store do keeps each node beside a run of cores, of which that is recorded.
use Rattle.std.proofs.Common.{◌≡◌, ◌∙◌, sym, ℕ, ◌<◌, ◌≤◌, Bool, true, false, cond, List, [], ◌∷◌, ◌++◌, refl, ap, subst, arith, inl, inr, ◌⊎◌}
use Rattle.std.proofs.lemmas.Bool.{eqb-true}
use Rattle.std.proofs.lemmas.List.{append_assoc}
use Rattle.std.specs.Prelude.{None, Option, Some, flat_map, fold, nat_eq}
use Rattle.std.specs.List.{AllByRecursion}
use Rattle.law_quorum.specs.Batches.{Batch, StoredImage, BatchStandsAt, ImageStandsFor}
use Rattle.law_quorum.specs.Changes.{Append, Campaign, Change, Drop, Expire, Other}
use Rattle.law_quorum.specs.History.{Point}
use Rattle.law_quorum.specs.Nodes.{Cluster, Renew, Store, moved}
use Rattle.law_link.specs.Frames.{Act, MayAct, daemons_of, network_after, set_at}
use Rattle.law_link.specs.Refusals.{Rises}
use Rattle.law_link.specs.Links.{Call, Clear, Execute, Has, IsFree, Keep, LinkStep, Make, TookLeadership, append_of}
use Rattle.law_link.proofs.LateFrames.{at_node, network_right}
use Rattle.law_link.proofs.LinkSteps.{has_all}
use Rattle.law_core.specs.Core.{Found, FoundImage, Imaged, Over, Stood, Won}
use Rattle.law_core.specs.Runs.{CoreRun, Happens, IsOfNoLink, IsRightOf, run_after}
use Rattle.law_core.proofs.CoreSteps.{IsCore}
use Rattle.kr_link.specs.declared.actions.Action.{Action}
use Rattle.kr_link.specs.declared.actions.Action.TheVariants as actions
use Rattle.kr_link.specs.declared.campaigns.Campaign.{Campaign as LinkCampaign}
use Rattle.kr_link.specs.declared.link.LinkSettings.{LinkSettings}
use Rattle.kr_link.specs.declared.roles.Held.{Held as KrHeld}
use Rattle.kr_link.specs.LinkMoves.{LinkCall, core_work, link_after}
use Rattle.kr_link.specs.LinkMoves as calls
use Rattle.kr_link.specs.Roles.{held_of}
use Rattle.kr_link.specs.TimedLinks.{TimedLink, campaign_of, first_link}
use Rattle.kr_link.proofs.LinkMoves.{calls_are_moves}
use Rattle.law_timed_links.specs.TimedLaws.{AreNames}
use Rattle.law_timed_links.specs.TimedRuns.{Calls, CallsFor, Changes, IsOfNoDaemon, IsRightCall, IsSeenAppend, IsUncalled, LinkedNode, MayFollow, Reaches, Restarts, Takes, TimedEvent, TimedRun, called, cluster_moves, frames_sent, restarted, timed_after, with_done}
use Rattle.law_timed_links.proofs.DeedEffects.{IsKnown, IsOwnAppend}
use Rattle.law_timed_links.proofs.Campaigns.{Goes, IsBelow, IsNoWin, answered, awaits_after, goes, unanswered, was_awaited}
use Rattle.law_timed_links.proofs.Sides.{AllSides, AreSides, LinkSide, core_side, link_side}
use Rattle.law_timed_links.proofs.CallSides.{AreAt, ComesTo, RecordsAll, RecordsJoin, so_too, joined_at, joins_at, plain_at, win_at, wrote_at}
use Rattle.law_timed_links.proofs.WonEpochs.{CountedAt, IsCalledIn, above_won, called_right, done_right, restarted_right, stored_right, won_right}

some_of : (o : Option LinkCampaign) → (o ≡ None → ⊥) → (it : LinkCampaign) × (o ≡ Some it)
some_of None f = absurd (f refl)
some_of (Some it) f = (it, refl)

point_stays : (c : Cluster) (k : ℕ) (call : LinkCall) → c.point ≡ (fold moved c (cluster_moves (Calls k call))).point
point_stays c k (calls.Join now) = refl
point_stays c k other = refl

-- it is recorded that the store did something
abbrev pub RecordsStore : (List Batch → List ℕ) → (CoreRun → Type 0) → Type 0
RecordsStore make R = (r : CoreRun) (step : LinkStep) → R r → IsOfNoLink (Act step) → MayAct make r.network step → Rises r.network (Act step) → R (run_after r (Happens (Act step)))

pub record IsBeside (make : List Batch → List ℕ) (R : CoreRun → Type 0) (name : ℕ → ℕ → ℕ) (t : TimedRun) : Type 0 where
  pub won : ℕ → List ℕ
  pub cores : ComesTo make R t.cluster (AllSides t.nodes won)
  pub counted : (k : ℕ) → CountedAt name t.cluster.point k (t.nodes k) (won k)

-- what is recorded behind an event
abbrev pub Then : (CoreRun → Type 0) → (ℕ → CoreRun → Type 0) → TimedEvent → CoreRun → Type 0
Then R Renewed (Calls k (calls.Join now)) = Renewed k
Then R Renewed (Restarts k settings) = Renewed k
Then R Renewed other = R

module _ (make : List Batch → List ℕ) (R : CoreRun → Type 0) (Renewed : ℕ → CoreRun → Type 0) (name : ℕ → ℕ → ℕ) where
  module _ (names : AreNames name) (records : RecordsAll make R) (joins : RecordsJoin make R Renewed) (stores : RecordsStore make R) (t : TimedRun) (b : IsBeside make R name t) where
    abbrev c : Cluster
    c = t.cluster

    abbrev p : Point
    p = t.cluster.point

    abbrev side : ℕ → LinkSide
    side j = link_side (t.nodes j) (b.won j)

    -- ---- something changes at one node

    module _ (k : ℕ) where
      abbrev x : LinkedNode
      x = t.nodes k

      abbrev l : TimedLink
      l = x.link

      abbrev At : LinkSide → CoreRun → Type 0
      At s = AreAt make R Renewed records joins k side s

      at_first : ComesTo make R c (At (side k))
      at_first = so_too make R c (AllSides t.nodes b.won) (At (side k)) b.cores (λ all. (all k, λ j other. all j))

      one_node : (S : CoreRun → Type 0) (d : Cluster) (y : LinkedNode) (won : List ℕ) → p ≡ d.point → ComesTo make S d (At (link_side y won)) → CountedAt name p k y won
          → IsBeside make S name (record { cluster = d; nodes = set_at k y t.nodes })
      one_node S d y won same cores counted = record {
        won = set_at k won b.won;
        cores = so_too make S d (At (link_side y won)) (AllSides (set_at k y t.nodes) (set_at k won b.won)) cores (λ a j. each a.0 a.1 j);
        counted = λ j. subst (λ (q : Point). CountedAt name q j (set_at k y t.nodes j) (set_at k won b.won j)) same
            (at_node k (λ i u. CountedAt name p i (cond u y (t.nodes i)) (cond u won (b.won i))) counted b.counted j);
      }
        where
          each : AreSides (core_side cores.run k) (link_side y won) → ((j : ℕ) → nat_eq k j ≡ false → AreSides (core_side cores.run j) (side j))
              → (j : ℕ) → AreSides (core_side cores.run j) (link_side (set_at k y t.nodes j) (set_at k won b.won j))
          each here others j = by (nat_eq k j) refl
            where
              by : (u : Bool) → nat_eq k j ≡ u → AreSides (core_side cores.run j) (link_side (cond u y (t.nodes j)) (cond u won (b.won j)))
              by true e = subst (λ (i : ℕ). AreSides (core_side cores.run i) (link_side y won)) (eqb-true k j e) here
              by false e = others j e

      -- ---- calls

      stood_right : (made base : ℕ) → IsSeenAppend p.log x.done made base → IsRightOf make at_first.run.network k (Stood made base)
      stood_right made base seen =
          let n = at_first.run.network in
          let own : IsOwnAppend (n.web.links k).calls seen.guard.made (seen.first ∷ seen.others) =
          (has_all (λ (e : ℕ × Action). IsKnown (n.web.links k) e.1) (seen.life, actions.Append seen.guard (seen.first ∷ seen.others)) x.done at_first.sides.0.done seen.was_done).0 in
          record {
            call = own.call;
            has = own.has;
            key = own.key ∙ seen.key;
            first = seen.first;
            others = seen.others;
            group = own.batches;
            at = seen.at;
            seen = subst (λ (q : Cluster). BatchStandsAt q.point.log base seen.first) (sym at_first.cluster) seen.seen;
          }

      call_sides : (call : LinkCall) → IsNoWin call → IsRightCall make name t k call
          → ComesTo make (Then R Renewed (Calls k call)) (fold moved c (cluster_moves (Calls k call))) (At (link_side (called x call) (b.won k)))
      call_sides (calls.Join now) free right = joined_at make R Renewed records joins k side c x (b.won k) at_first now right
      call_sides (calls.Write batch) free (rest, piped) = wrote_at make R Renewed records joins k side c x (b.won k) at_first batch rest piped
      call_sides (calls.Win token held) free right = absurd free
      call_sides (calls.Stand made base) free right =
          plain_at make R Renewed records joins k side c (side k) (Stood made base) (core_work l) (core_work (link_after l (calls.Stand made base))) tt (calls_are_moves l (calls.Stand made base)) at_first
          (stood_right made base right)
      call_sides (calls.Find batch now) free right =
          plain_at make R Renewed records joins k side c (side k) (Found batch) (core_work l) (core_work (link_after l (calls.Find batch now))) tt (calls_are_moves l (calls.Find batch now)) at_first
          (subst (λ (q : Cluster). BatchStandsAt q.point.log batch.base batch) (sym at_first.cluster) right)
      call_sides (calls.FindImage image now) free right =
          plain_at make R Renewed records joins k side c (side k) (FoundImage image) (core_work l) (core_work (link_after l (calls.FindImage image now))) tt (calls_are_moves l (calls.FindImage image now)) at_first
          (subst (λ (q : Cluster). ImageStandsFor make q.point.log image) (sym at_first.cluster) right)
      call_sides (calls.Give image) free right =
          plain_at make R Renewed records joins k side c (side k) (Imaged l.seen.image image) (core_work l) (core_work (link_after l (calls.Give image))) tt (calls_are_moves l (calls.Give image)) at_first
          (subst (λ (images : List StoredImage). Has image images) (sym at_first.sides.0.images) right)
      call_sides call free right = plain_at make R Renewed records joins k side c (side k) Over (core_work l) (core_work (link_after l call)) tt (calls_are_moves l call) at_first tt

      goes_on : (call : LinkCall) → Goes (core_work l) (core_work (link_after l call))
      goes_on call = goes (calls.came_with l call) (core_work l) (core_work (link_after l call)) (calls_are_moves l call)

      call_counted : (call : LinkCall) → IsNoWin call → CountedAt name p k (called x call) (b.won k)
      call_counted call free =
          called_right name k p.keys.epoch p.leaderships x.life x.done l.campaigns.next l.campaigns.under_way l.out.actions (b.won k) (b.counted k) names
          (link_after l call).campaigns.next (link_after l call).campaigns.under_way (link_after l call).out.actions (goes_on call).next
          ((goes_on call).below (b.counted k).below) (awaits_after l call free)

      called_beside : (call : LinkCall) → IsNoWin call → IsRightCall make name t k call → IsBeside make (Then R Renewed (Calls k call)) name (timed_after t (Calls k call))
      called_beside call free right =
          one_node (Then R Renewed (Calls k call)) (fold moved c (cluster_moves (Calls k call))) (called x call) (b.won k) (point_stays c k call) (call_sides call free right) (call_counted call free)

      module _ (token : ℕ) (held : KrHeld) (took : TookLeadership p.leaderships k (held_of held)) (named : took.leadership.token ≡ name x.life token) where
        abbrev then : TimedLink
        then = link_after l (calls.Win token held)

        above : (it : LinkCampaign) → campaign_of l token ≡ Some it → AllByRecursion (λ (e : ℕ). e < held.epoch) (b.won k) × (held.epoch ≤ p.keys.epoch)
        above it e =
            let w = was_awaited l token it e in
            above_won name k p.keys.epoch p.leaderships x.life x.done l.campaigns.next l.campaigns.under_way l.out.actions (b.won k) (b.counted k) (held_of held) took it w.0
            (named ∙ ap (λ (y : ℕ). name x.life y) (sym w.1))

        won_once : (it : LinkCampaign) → campaign_of l token ≡ Some it → IsRightOf make at_first.run.network k (Won (held_of held))
        won_once it e = (
          λ has. (let low : held.epoch < held.epoch =
              has_all (λ (y : ℕ). y < held.epoch) held.epoch (b.won k) (above it e).0 (subst (λ (w : List ℕ). Has held.epoch w) at_first.sides.0.won has) in absurd (omega (arith, low))),
          subst (λ (q : Cluster). TookLeadership q.point.leaderships k (held_of held)) (sym at_first.cluster) took,
        )

        win_beside : IsBeside make R name (timed_after t (Calls k (calls.Win token held)))
        win_beside =
            let w = win_at make R Renewed records joins k side c x (b.won k) at_first then held (campaign_of l token) (calls_are_moves l (calls.Win token held)) (λ it e. (won_once it e, (above it e).0)) in
            one_node R c (called x (calls.Win token held)) w.won_then refl w.at_then (counted w.won_then w.how)
          where
            counted : (won : List ℕ) → (won ≡ b.won k) ⊎ ((campaign_of l token ≡ None → ⊥) × (won ≡ held.epoch ∷ b.won k)) → CountedAt name p k (called x (calls.Win token held)) won
            counted won (inl same) =
                subst (λ (w : List ℕ). CountedAt name p k (called x (calls.Win token held)) w) (sym same)
                (called_right name k p.keys.epoch p.leaderships x.life x.done l.campaigns.next l.campaigns.under_way l.out.actions (b.won k) (b.counted k) names
                then.campaigns.next then.campaigns.under_way then.out.actions (goes_on (calls.Win token held)).next
                ((goes_on (calls.Win token held)).below (b.counted k).below) (unanswered l token held))
            counted won (inr (some, more)) =
                let it = some_of (campaign_of l token) some in
                subst (λ (w : List ℕ). CountedAt name p k (called x (calls.Win token held)) w) (sym more)
                (won_right name k p.keys.epoch p.leaderships x.life x.done l.campaigns.next l.campaigns.under_way l.out.actions (b.won k) (b.counted k)
                held.epoch then.campaigns.next then.campaigns.under_way then.out.actions (above it.0 it.1).1 (goes_on (calls.Win token held)).next
                ((goes_on (calls.Win token held)).below (b.counted k).below) (answered l token held some))

      call_beside : (call : LinkCall) → IsRightCall make name t k call → IsBeside make (Then R Renewed (Calls k call)) name (timed_after t (Calls k call))
      call_beside (calls.Win token held) (took, named) = win_beside token held took named
      call_beside call right = called_beside call tt right

      -- ---- what was put out is done

      module _ (action : Action) (rest : List Action) (first : l.out.actions ≡ action ∷ rest) where
        done_sides : (r : CoreRun) → AreSides (core_side r k) (side k) → AreSides (core_side r k) (link_side (with_done x action rest) (b.won k))
        done_sides r a =
            let known : AllByRecursion (IsKnown (r.network.web.links k)) (action ∷ rest) = subst (λ (puts : List Action). AllByRecursion (IsKnown (r.network.web.links k)) puts) first a.known in
            record {
              core = a.core;
              frames = a.frames ∙ (ap (λ (puts : List Action). x.frames ++ flat_map frames_sent puts) first ∙ sym (append_assoc x.frames (frames_sent action) (flat_map frames_sent rest)));
              pipe = a.pipe;
              images = a.images;
              won = a.won;
              known = known.1;
              done = (known.0, a.done);
              asked = a.asked;
            }

        done_beside : IsBeside make R name (timed_after t (Takes k action rest))
        done_beside =
            one_node R c (with_done x action rest) (b.won k) refl
            (so_too make R c (At (side k)) (At (link_side (with_done x action rest) (b.won k))) at_first (λ a. (done_sides at_first.run a.0, a.1)))
            (done_right name k p.keys.epoch p.leaderships x.life x.done l.campaigns.next l.campaigns.under_way l.out.actions (b.won k) (b.counted k) action rest
            (subst (λ (puts : List Action). AllByRecursion (IsBelow l.campaigns.next) puts) first (b.counted k).below))

      restart_beside : (settings : LinkSettings) → IsBeside make (Renewed k) name (timed_after t (Restarts k settings))
      unfolding first_link
      restart_beside settings =
          one_node (Renewed k) (moved c (Renew k)) (restarted x settings) (b.won k) refl (joins_at make R Renewed records joins k side c (side k) [] refl (λ m. tt) at_first)
          (restarted_right name k p.keys.epoch p.leaderships x.life x.done l.campaigns.next l.campaigns.under_way l.out.actions (b.won k) (b.counted k))

    -- ---- the store

    abbrev All : CoreRun → Type 0
    All r = AllSides t.nodes b.won r

    stores_one : (step : LinkStep) (d : Cluster) → IsOfNoLink (Act step) → MayAct make b.cores.run.network step → Rises b.cores.run.network (Act step)
        → ((j : ℕ) → IsCore (b.cores.run.cores j) ((network_after b.cores.run.network (Act step)).web.cluster.nodes j) ((network_after b.cores.run.network (Act step)).web.links j))
        → daemons_of (network_after b.cores.run.network (Act step)) ≡ d → All (run_after b.cores.run (Happens (Act step))) → ComesTo make R d All
    stores_one step d is may rise cores cluster sides = record {
      run = run_after b.cores.run (Happens (Act step));
      recorded = stores b.cores.run step b.cores.recorded is may rise;
      network = (network_right make b.cores.run.network (Act step) b.cores.network may).2;
      cores = cores;
      cluster = cluster;
      sides = sides;
    }

    executes : (k : ℕ) (call : Call) → Has call (b.cores.run.network.web.links k).calls → ComesTo make R (moved c (Store (append_of call))) All
    executes k call has =
        stores_one (Execute k call) (moved c (Store (append_of call))) tt has tt b.cores.cores (ap (λ (q : Cluster). moved q (Store (append_of call))) b.cores.cluster) b.cores.sides

    clears : (k : ℕ) (keep : Keep) → Has keep (b.cores.run.network.web.links k).keeps → ComesTo make R (moved c (Store (Drop keep.before keep.image))) All
    clears k keep has =
        stores_one (Clear k keep) (moved c (Store (Drop keep.before keep.image))) tt has tt b.cores.cores
        (ap (λ (q : Cluster). moved q (Store (Drop keep.before keep.image))) b.cores.cluster) b.cores.sides

    makes : (change : Change) → IsFree change → ComesTo make R (moved c (Store change)) All
    makes change free = stores_one (Make change) (moved c (Store change)) tt free tt b.cores.cores (ap (λ (q : Cluster). moved q (Store change)) b.cores.cluster) b.cores.sides

    stored : (change : Change) → ComesTo make R (moved c (Store change)) All → ((j : ℕ) → IsCalledIn name j (t.nodes j).done change)
        → IsBeside make R name (record { cluster = moved c (Store change); nodes = t.nodes })
    stored change cores is = record {
      won = b.won;
      cores = cores;
      counted = λ j. stored_right name j p (t.nodes j).life (t.nodes j).done (t.nodes j).link.campaigns.next (t.nodes j).link.campaigns.under_way (t.nodes j).link.out.actions (b.won j)
          (b.counted j) change (is j);
    }

    other_change : (some other : Change) → some ≡ other → ComesTo make R (moved c (Store some)) All → ComesTo make R (moved c (Store other)) All
    other_change some other e x = subst (λ (y : Change). ComesTo make R (moved c (Store y)) All) e x

    reaches : (k life : ℕ) (action : Action) (change : Change) → Has (life, action) (t.nodes k).done → CallsFor name k life action change → IsBeside make R name (timed_after t (Reaches k life action change))
    reaches k life (actions.Append guard batches) change has is =
        let n = b.cores.run.network in
        let own : IsOwnAppend (n.web.links k).calls guard.made batches =
        (has_all (λ (e : ℕ × Action). IsKnown (n.web.links k) e.1) (life, actions.Append guard batches) (t.nodes k).done (b.cores.sides k).done has).0 in
        let same : append_of own.call ≡ change =
        ap (λ (made : ℕ). Append made own.call.group) own.key ∙ (ap (λ (group : List Batch). Append guard.made group) own.batches ∙ sym is) in
        stored change (other_change (append_of own.call) change same (executes k own.call own.has)) (λ j. subst (λ (y : Change). IsCalledIn name j (t.nodes j).done y) (sym is) tt)
    reaches k life (actions.DropBatches before below image) change has is =
        let n = b.cores.run.network in
        let kept : Has (record { before = before; image = image }) (n.web.links k).keeps =
        (has_all (λ (e : ℕ × Action). IsKnown (n.web.links k) e.1) (life, actions.DropBatches before below image) (t.nodes k).done (b.cores.sides k).done has).0 in
        stored change (other_change (Drop before image) change (sym is) (clears k (record { before = before; image = image }) kept))
        (λ j. subst (λ (y : Change). IsCalledIn name j (t.nodes j).done y) (sym is) tt)
    reaches k life (actions.Campaign token) change has (epoch, is) =
        stored change (other_change (Campaign k (name life token) epoch) change (sym is) (makes (Campaign k (name life token) epoch) tt))
        (λ j. subst (λ (y : Change). IsCalledIn name j (t.nodes j).done y) (sym is)
        (λ same. record { life = life; number = token; has = subst (λ (i : ℕ). Has (life, actions.Campaign token) (t.nodes i).done) same has; named = refl }))
    reaches k life other change has is = absurd is

    changes : (change : Change) → IsUncalled change → IsBeside make R name (timed_after t (Changes change))
    changes Expire is = stored Expire (makes Expire tt) (λ j. tt)
    changes Other is = stored Other (makes Other tt) (λ j. tt)
    changes _ is = absurd is

    -- a link or the store does something
    pub link_beside : (event : TimedEvent) → IsOfNoDaemon event → MayFollow make name t event → IsBeside make (Then R Renewed event) name (timed_after t event)
    link_beside (Calls k call) is may = call_beside k call may
    link_beside (Takes k action rest) is may = done_beside k action rest may
    link_beside (Restarts k settings) is may = restart_beside k settings
    link_beside (Reaches k life action change) is (has, calls_for) = reaches k life action change has calls_for
    link_beside (Changes change) is may = changes change may
    link_beside other is may = absurd is
