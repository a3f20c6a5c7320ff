-- Links, daemons, and what is under way between them: each step keeps all of it right.
use Rattle.std.proofs.Common.{◌≡◌, ◌∙◌, sym, ℕ, Bool, true, false, cond, List, [], ◌∷◌, ◌++◌, refl, ap, subst, arith, inl, inr}
use Rattle.std.proofs.lemmas.Bool.{eqb-true}
use Rattle.std.proofs.lemmas.Bool.Decides.{nat_tests}
use Rattle.std.proofs.lemmas.List.{append_assoc}
use Rattle.std.specs.Prelude.{IsSome, Option, None, Some, nat_eq, fold, flat_map}
use Rattle.std.specs.List.{AllByRecursion}
use Rattle.law_quorum.specs.Batches.{Batch, StoredImage, ImageStandsFor, behind}
use Rattle.law_quorum.specs.Changes.{Change, Drop}
use Rattle.law_quorum.specs.History.{IsSent, Point, point_after}
use Rattle.law_quorum.specs.NodeLaws.{IsFedNode}
use Rattle.law_quorum.specs.Nodes.{AreAllowed, Cluster, IsAllowedMove, Node, after_loss, at_first, committed, fed, loaded, moved, new_node, set_node, told_to_lead, with_node}
use Rattle.law_quorum.specs.Nodes as moves
use Rattle.law_quorum.proofs.ReadKeys.{images_stand_later}
use Rattle.law_quorum.proofs.WholeHistories.{grows_from}
use Rattle.law_quorum.proofs.FedNodes.{IsCluster, first_cluster, moves_on}
use Rattle.law_link.specs.Links.{ArePossible, Has, Held, IsPossible, Link, LinkStep, MayStray, MayWrite, Web, append_of, handed, idle, set_link, stepped}
use Rattle.law_link.specs.Links.{Execute, Clear, Make, Win, Read, Take, Begin, Write, Ask, Settle, Give, GiveUp, LetGo, Renew, Stray, Hear, Pass}
use Rattle.law_link.specs.Frames.{AllMayHappen, Act, Arrive, Commit, Emit, Feed, Frame, Lead, Load, Lost, MayAct, MayHappen, MaySnapshot, Network, NetworkStep, Snapshot, all_link_steps, all_daemon_moves, at_once, daemons_of, emitted, leads_epoch, move_of, network_after, no_network, as_seen, set_at, daemon_moves, with_frame}
use Rattle.law_link.specs.LinkLaws.{LateFramesAreRight}
use Rattle.law_link.proofs.LinkSteps.{IsWeb, all_map, has_all, held_is, runs_at, waits_at}
use Rattle.law_link.proofs.StepLaws.{allowed_both, first_web, step_right}
use Rattle.law_link.proofs.UnderWay.{IsUnderWay, MayArrive, Once, after_frame, arrived, epoch_begun, epochs_begun, epochs_led, none_leads, same_epoch, sent_lead, sent_on, stray_reaches, tip_stays, way_later, write_reaches, written}

-- what is so at a node, and at each other one
pub at_node : (k : ℕ) (P : ℕ → Bool → Type 0) → P k true → ((j : ℕ) → P j false) → (j : ℕ) → P j (nat_eq k j)
at_node k P here all j = by (nat_eq k j) refl
  where
    by : (t : Bool) → nat_eq k j ≡ t → P j t
    by true e = subst (λ (i : ℕ). P i true) (eqb-true k j e) here
    by false e = all j

led_true : (leads : Option ℕ) (epoch : ℕ) → leads_epoch leads epoch ≡ true → leads ≡ Some epoch
led_true None epoch e = absurd cc
led_true (Some led) epoch e = ap (λ (x : ℕ). Some x) (eqb-true led epoch e)

led_false : (leads : Option ℕ) (epoch : ℕ) → leads_epoch leads epoch ≡ false → leads ≡ Some epoch → ⊥
led_false None epoch e leads = none_leads None epoch refl leads
led_false (Some led) epoch e leads =
    let same : led ≡ epoch = same_epoch led epoch leads in
    let t : nat_eq led epoch ≡ true = grind (arith, nat_tests) in
    (let x : true ≡ false = sym t ∙ e in absurd cc)

leads_some : (leads : Option ℕ) (epoch : ℕ) → leads ≡ Some epoch → IsSome leads
leads_some None epoch e = none_leads None epoch refl e
leads_some (Some x) epoch e = refl

module _ (make : List Batch → List ℕ) where
  pub record IsNetwork (n : Network) : Type 0 where
    pub web : IsWeb make n.web
    pub daemons : (k : ℕ) → IsFedNode make n.web.cluster.point k (n.daemons k)
    pub way : (k : ℕ) → IsUnderWay make n.web.cluster.point k (n.daemons k) (n.frames k) (n.web.cluster.nodes k) (n.web.links k).won (n.web.links k).held
    pub images : (k : ℕ) → AllByRecursion (ImageStandsFor make n.web.cluster.point.log) (n.images k)

  possible : (n : Network) (step : LinkStep) → IsNetwork n → MayAct make n step → IsPossible make n.web step
  possible n (Write k b) h a = absurd a
  possible n (Stray k b) h a = absurd a
  possible n (Give k keep) h a = record {
    later = a.0;
    right = has_all (ImageStandsFor make n.web.cluster.point.log) keep.image (n.images k) (h.images k) a.1;
  }
  possible n other h a = a

  module _ (n : Network) (h : IsNetwork n) where
    abbrev p : Point
    p = n.web.cluster.point

    abbrev view : ℕ → Node
    view k = n.web.cluster.nodes k

    abbrev link : ℕ → Link
    link k = n.web.links k

    abbrev WayOf : (j : ℕ) → Node → List Frame → Node → Link → Type 0
    WayOf j d frames v l = IsUnderWay make p j d frames v l.won l.held

    daemons_right : IsCluster make (daemons_of n)
    daemons_right = record { one = h.web.cluster.one; order = h.web.cluster.order; nodes = h.daemons }

    -- ---- the store

    store_right : (change : Change) → IsSent make p change → IsWeb make (record { cluster = moved n.web.cluster (moves.Store change); links = n.web.links })
        → IsNetwork (record { web = record { cluster = moved n.web.cluster (moves.Store change); links = n.web.links }; daemons = n.daemons; frames = n.frames; images = n.images })
    store_right change sent web = record {
      web = web;
      daemons = (moves_on make (daemons_of n) (moves.Store change) daemons_right sent).nodes;
      way = λ k. way_later make p change k (n.daemons k) (n.frames k) (view k) (link k).won (link k).held (h.way k);
      images = λ k.
          let r = grows_from p (change ∷ []) in
          all_map (ImageStandsFor make p.log) (ImageStandsFor make (point_after p change).log)
          (λ image i. subst (λ (l : List Batch). ImageStandsFor make l image) (sym r.1) (images_stand_later make p.log r.0 image i)) (n.images k) (h.images k);
    }

    -- ---- links

    -- nothing is handed over
    link_right : (k : ℕ) (new : Link) → IsWeb make (record { cluster = n.web.cluster; links = set_link k new n.web.links })
        → WayOf k (n.daemons k) (n.frames k) (view k) new
        → IsNetwork (record { web = record { cluster = n.web.cluster; links = set_link k new n.web.links }; daemons = n.daemons; frames = n.frames; images = n.images })
    link_right k new web here = record {
      web = web;
      daemons = h.daemons;
      way = at_node k (λ j t. WayOf j (n.daemons j) (n.frames j) (view j) (cond t new (link j))) here h.way;
      images = h.images;
    }

    -- a frame is sent
    sent_right : (k : ℕ) (frame : Frame) (links : ℕ → Link) → IsWeb make (record { cluster = with_node n.web.cluster k (after_frame (view k) frame); links = links })
        → ((j : ℕ) → WayOf j (n.daemons j) (with_frame k frame n.frames j) (set_node k (after_frame (view k) frame) n.web.cluster.nodes j) (links j))
        → IsNetwork (record { web = record { cluster = with_node n.web.cluster k (after_frame (view k) frame); links = links }; daemons = n.daemons; frames = with_frame k frame n.frames; images = n.images })
    sent_right k frame links web way = record { web = web; daemons = h.daemons; way = way; images = h.images }

    way_sent : (k : ℕ) (frame : Frame) → WayOf k (n.daemons k) (n.frames k ++ frame ∷ []) (after_frame (view k) frame) (link k)
        → (j : ℕ) → WayOf j (n.daemons j) (with_frame k frame n.frames j) (set_node k (after_frame (view k) frame) n.web.cluster.nodes j) (link j)
    way_sent k frame here =
        at_node k (λ j t. WayOf j (n.daemons j) (cond t (n.frames k ++ frame ∷ []) (n.frames j)) (cond t (after_frame (view k) frame) (view j)) (link j)) here h.way

    way_sent_by : (k : ℕ) (frame : Frame) (new : Link) → WayOf k (n.daemons k) (n.frames k ++ frame ∷ []) (after_frame (view k) frame) new
        → (j : ℕ) → WayOf j (n.daemons j) (with_frame k frame n.frames j) (set_node k (after_frame (view k) frame) n.web.cluster.nodes j) (set_link k new n.web.links j)
    way_sent_by k frame new here =
        at_node k (λ j t. WayOf j (n.daemons j) (cond t (n.frames k ++ frame ∷ []) (n.frames j)) (cond t (after_frame (view k) frame) (view j)) (cond t new (link j))) here h.way

    on : (k : ℕ) (frame : Frame) (then : Option Held) → epoch_begun frame ≡ [] → MayArrive make p k (view k) frame
        → ((after_frame (view k) frame).leads ≡ None → (e : Held) → then ≡ Some e → Has e.epoch (epochs_led (n.daemons k).leads (n.frames k)) → ⊥)
        → IsUnderWay make p k (n.daemons k) (n.frames k ++ frame ∷ []) (after_frame (view k) frame) (link k).won then
    on k frame then none a fresh = sent_on make p k (n.daemons k) (n.frames k) (view k) (link k).won (link k).held (h.way k) frame then none a fresh

    none_held : {X : Type 0} (e : Held) → None ≡ Some e → X
    none_held e is = absurd cc

    act : (step : LinkStep) → MayAct make n step → IsNetwork (network_after n (Act step))
    act (Execute k call) a = let r = step_right make n.web (Execute k call) h.web a in store_right (append_of call) r.0.0 r.1
    act (Clear k keep) a = let r = step_right make n.web (Clear k keep) h.web a in store_right (Drop keep.before keep.image) r.0.0 r.1
    act (Make change) a = let r = step_right make n.web (Make change) h.web a in store_right change r.0.0 r.1
    act (Win k e) a =
        let l = link k in
        let new : Link = record { held = Some e; asked = []; waits = []; pipe = l.pipe; won = e.epoch ∷ l.won; calls = l.calls; keeps = l.keeps } in
        let w = h.way k in
        let es = epochs_led (n.daemons k).leads (n.frames k) in
        let here : WayOf k (n.daemons k) (n.frames k) (view k) new = record {
          reaches = w.reaches;
          won_all = all_map (λ (x : ℕ). Has x l.won) (λ (x : ℕ). Has x (e.epoch ∷ l.won)) (λ x has. inr has) es w.won_all;
          once = w.once;
          fresh = λ standby x is has. a.1 (subst (λ (y : Held). Has y.epoch l.won) (sym (held_is e x is)) (has_all (λ (y : ℕ). Has y l.won) x.epoch es w.won_all has));
        } in
        link_right k new (step_right make n.web (Win k e) h.web a).1 here
    act (Read k b) a =
        sent_right k (Feed b) n.web.links (step_right make n.web (Read k b) h.web a).1 (way_sent k (Feed b) (on k (Feed b) (link k).held refl a (h.way k).fresh))
    act (Take k image) a =
        sent_right k (Load image) n.web.links (step_right make n.web (Take k image) h.web a).1
        (way_sent k (Load image) (on k (Load image) (link k).held refl a (λ standby e is has. (h.way k).fresh a.standby e is has)))
    act (Begin k e) a =
        let r = step_right make n.web (Begin k e) h.web a in
        let waits = waits_at p.leaderships k (view k) (link k) e a.holds a.standby (h.web.right k) in
        let new : Link = record (link k) { asked = []; waits = [] } in
        sent_right k (Lead e.epoch e.start) (set_link k new n.web.links) r.1
        (way_sent_by k (Lead e.epoch e.start) new
        (sent_lead make p k (n.daemons k) (n.frames k) (view k) (link k).won (link k).held (h.way k) e a.standby a.holds waits.taken_once r.0.0))
    act (Write k b) a = absurd a
    act (Stray k b) a = absurd a
    act (Hear k b rest) a =
        link_right k (record (link k) { pipe = rest; waits = (link k).waits ++ b ∷ [] }) (step_right make n.web (Hear k b rest) h.web a).1 (h.way k)
    act (Pass k b rest) a = link_right k (record (link k) { pipe = rest }) (step_right make n.web (Pass k b rest) h.web a).1 (h.way k)
    act (Ask k e group rest) a =
        link_right k (record (link k) { asked = group; waits = rest; calls = record { epoch = e.epoch; made = e.made; group = group } ∷ (link k).calls })
        (step_right make n.web (Ask k e group rest) h.web a).1 (h.way k)
    act (Settle k e) a =
        let r = step_right make n.web (Settle k e) h.web a in
        let frame = Commit e.epoch (behind (view k).end (link k).asked) in
        let new : Link = record (link k) { asked = [] } in
        sent_right k frame (set_link k new n.web.links) r.1 (way_sent_by k frame new (on k frame (link k).held refl r.0.0 (h.way k).fresh))
    act (Give k keep) a =
        link_right k (record (link k) { keeps = keep ∷ (link k).keeps }) (step_right make n.web (Give k keep) h.web (possible n (Give k keep) h a)).1 (h.way k)
    act (GiveUp k epoch) a =
        let r = step_right make n.web (GiveUp k epoch) h.web a in
        sent_right k (Lost epoch) (set_link k (idle (link k)) n.web.links) r.1
        (way_sent_by k (Lost epoch) (idle (link k)) (on k (Lost epoch) None refl a (λ standby e is has. none_held e is)))
    act (LetGo k) a =
        let w = h.way k in
        link_right k (idle (link k)) (step_right make n.web (LetGo k) h.web a).1
        (record { reaches = w.reaches; won_all = w.won_all; once = w.once; fresh = λ standby e is has. none_held e is })
    act (Renew k) a = record {
      web = (step_right make n.web (Renew k) h.web a).1;
      daemons = (moves_on make (daemons_of n) (moves.Renew k) daemons_right tt).nodes;
      way = at_node k (λ j t. WayOf j (cond t new_node (n.daemons j)) (cond t [] (n.frames j)) (cond t new_node (view j)) (cond t (record (idle (link k)) { pipe = [] }) (link j)))
          (record { reaches = refl; won_all = tt; once = tt; fresh = λ standby e is has. none_held e is }) h.way;
      images = h.images;
    }

    act_allowed : (step : LinkStep) → MayAct make n step → AreAllowed make (daemons_of n) (flat_map at_once (handed n.web step))
    act_allowed (Execute k call) a = ((step_right make n.web (Execute k call) h.web a).0.0, tt)
    act_allowed (Clear k keep) a = ((step_right make n.web (Clear k keep) h.web a).0.0, tt)
    act_allowed (Make change) a = ((step_right make n.web (Make change) h.web a).0.0, tt)
    act_allowed (Renew k) a = (tt, tt)
    act_allowed other a = tt

    -- ---- daemons

    way_with : (k : ℕ) (frames : List Frame) → n.frames k ≡ frames → WayOf k (n.daemons k) frames (view k) (link k)
    way_with k frames is = subst (λ (fs : List Frame). WayOf k (n.daemons k) fs (view k) (link k)) is (h.way k)

    arrive : (k : ℕ) (frame : Frame) (rest : List Frame) → n.frames k ≡ frame ∷ rest
        → ((j : ℕ) → IsFedNode make p j (set_node k (after_frame (n.daemons k) frame) n.daemons j))
        → IsNetwork (record { web = n.web; daemons = set_node k (after_frame (n.daemons k) frame) n.daemons; frames = set_at k rest n.frames; images = n.images })
    arrive k frame rest is daemons = record {
      web = h.web;
      daemons = daemons;
      way = at_node k (λ j t. WayOf j (cond t (after_frame (n.daemons k) frame) (n.daemons j)) (cond t rest (n.frames j)) (view j) (link j))
          (arrived make p k (n.daemons k) (view k) rest (link k).won (link k).held frame (way_with k (frame ∷ rest) is)) h.way;
      images = h.images;
    }

    next : (k : ℕ) (frame : Frame) (rest : List Frame) → n.frames k ≡ frame ∷ rest → MayArrive make p k (n.daemons k) frame
    next k frame rest is = (way_with k (frame ∷ rest) is).reaches.0

    arrive_right : (k : ℕ) (frame : Frame) (rest : List Frame) → n.frames k ≡ frame ∷ rest
        → AreAllowed make (daemons_of n) (move_of k frame ∷ []) × IsNetwork (network_after n (Arrive k frame rest))
    arrive_right k (Feed b) rest is =
        let a = next k (Feed b) rest is in ((a, tt), arrive k (Feed b) rest is (moves_on make (daemons_of n) (moves.Feed k b) daemons_right a).nodes)
    arrive_right k (Load image) rest is =
        let a = next k (Load image) rest is in ((a, tt), arrive k (Load image) rest is (moves_on make (daemons_of n) (moves.Load k image) daemons_right a).nodes)
    arrive_right k (Lead epoch end) rest is =
        let a = next k (Lead epoch end) rest is in
        ((a, tt), arrive k (Lead epoch end) rest is (moves_on make (daemons_of n) (moves.Lead k epoch end) daemons_right a).nodes)
    arrive_right k (Commit epoch end) rest is =
        let a = next k (Commit epoch end) rest is in
        ((a, tt), arrive k (Commit epoch end) rest is (moves_on make (daemons_of n) (moves.Commit k epoch end) daemons_right a).nodes)
    arrive_right k (Lost epoch) rest is =
        let a = next k (Lost epoch) rest is in ((a, tt), arrive k (Lost epoch) rest is (moves_on make (daemons_of n) (moves.Lost k epoch) daemons_right a).nodes)

    module _ (k : ℕ) (b : Batch) (m : MayWrite (n.daemons k) b) where
      abbrev way_led : IsUnderWay make p k (n.daemons k) (n.frames k) (view k) (link k).won (link k).held
      way_led = h.way k

      won_led : AllByRecursion (λ (e : ℕ). Has e (link k).won) (b.epoch ∷ epochs_begun (n.frames k))
      won_led = subst (λ (o : Option ℕ). AllByRecursion (λ (e : ℕ). Has e (link k).won) (epochs_led o (n.frames k))) m.leads way_led.won_all

      never : Has b.epoch (epochs_begun (n.frames k)) → ⊥
      never = (subst (λ (o : Option ℕ). Once (epochs_led o (n.frames k))) m.leads way_led.once).0

      stray_over : ((view k).leads ≡ Some b.epoch → ⊥) → (e : Held) → (link k).held ≡ Some e → b.epoch ≡ e.epoch → ⊥
      stray_over other e holds same = by (view k).leads refl
        where
          by : (leads : Option ℕ) → (view k).leads ≡ leads → ⊥
          by None none = way_led.fresh none e holds (subst (λ (o : Option ℕ). Has e.epoch (epochs_led o (n.frames k))) (sym m.leads) (inl (sym same)))
          by (Some x) some =
              let number : x ≡ e.epoch = (runs_at p.leaderships k (view k) (link k) e x holds some (h.web.right k)).number in
              other (some ∙ ap (λ (y : ℕ). Some y) (number ∙ sym same))

      emit_allowed : AreAllowed make (daemons_of n) (moves.Write k b ∷ [])
      emit_allowed = (leads_some (n.daemons k).leads b.epoch m.leads, tt)

      emit_seen : (t : Bool) → leads_epoch (view k).leads b.epoch ≡ t → IsPossible make n.web (emitted t k b)
          × IsNetwork (record { web = stepped n.web (emitted t k b); daemons = set_node k (written (n.daemons k) b) n.daemons; frames = n.frames; images = n.images })
      emit_seen true is =
          let leads = led_true (view k).leads b.epoch is in
          let a : MayWrite (view k) b = record {
            leads = leads;
            base = m.base ∙ sym (tip_stays make p k b.epoch (n.daemons k) (n.frames k) (view k) way_led.reaches m.leads never leads);
            some = m.some;
          } in (
            a,
            record {
              web = (step_right make n.web (Write k b) h.web a).1;
              daemons = (moves_on make (daemons_of n) (moves.Write k b) daemons_right emit_allowed.0).nodes;
              way = at_node k
                  (λ j t. WayOf j (cond t (written (n.daemons k) b) (n.daemons j)) (n.frames j) (cond t (written (view k) b) (view j))
                  (cond t (record (link k) { pipe = (link k).pipe ++ b ∷ [] }) (link j)))
                  (record {
                    reaches = write_reaches make p k b.epoch b m.some (n.daemons k) (n.frames k) (view k) way_led.reaches m.leads never m.base leads;
                    won_all = way_led.won_all;
                    once = way_led.once;
                    fresh = way_led.fresh;
                  }) h.way;
              images = h.images;
            },
          )
      emit_seen false is =
          let other = led_false (view k).leads b.epoch is in
          let a : MayStray n.web k b = record { led = won_led.0; over = stray_over other } in (
            a,
            record {
              web = (step_right make n.web (Stray k b) h.web a).1;
              daemons = (moves_on make (daemons_of n) (moves.Write k b) daemons_right emit_allowed.0).nodes;
              way = at_node k
                  (λ j t. WayOf j (cond t (written (n.daemons k) b) (n.daemons j)) (n.frames j) (view j) (cond t (record (link k) { pipe = (link k).pipe ++ b ∷ [] }) (link j)))
                  (record {
                    reaches = stray_reaches make p k b.epoch b m.some (n.daemons k) (n.frames k) (view k) way_led.reaches m.leads never m.base other;
                    won_all = way_led.won_all;
                    once = way_led.once;
                    fresh = way_led.fresh;
                  }) h.way;
              images = h.images;
            },
          )

    snapshot_right : (k : ℕ) (image : StoredImage) → MaySnapshot make p k (n.daemons k) image → IsNetwork (network_after n (Snapshot k image))
    snapshot_right k image m =
        let f = h.daemons k in
        let d = n.daemons k in
        let stands : ImageStandsFor make p.log image = record {
          gone = f.gone ++ m.first;
          rest = m.more ++ f.rest;
          split = f.split
              ∙ (ap (λ (x : List Batch). (f.gone ++ x) ++ f.rest) m.split
              ∙ (ap (λ (x : List Batch). x ++ f.rest) (sym (append_assoc f.gone m.first m.more)) ∙ append_assoc (f.gone ++ m.first) m.more f.rest));
          offset = (m.right f).0;
          bytes = (m.right f).1;
        } in
        record {
          web = h.web;
          daemons = h.daemons;
          way = h.way;
          images = at_node k (λ j t. AllByRecursion (ImageStandsFor make p.log) (cond t (image ∷ n.images k) (n.images j))) (stands, h.images k) h.images;
        }

  -- ---- all

  pub network_right : (n : Network) (step : NetworkStep) → IsNetwork n → MayHappen make n step
      → AreAllowed make (daemons_of n) (daemon_moves n step) × ArePossible make n.web (as_seen n step) × IsNetwork (network_after n step)
  network_right n (Act step) h a = (act_allowed n h step a, (possible n step h a, tt), act n h step a)
  network_right n (Arrive k frame rest) h a = let r = arrive_right n h k frame rest a in (r.0, tt, r.1)
  network_right n (Emit k b) h a =
      let r = emit_seen n h k b a (leads_epoch (n.web.cluster.nodes k).leads b.epoch) refl in (emit_allowed n h k b a, (r.0, tt), r.1)
  network_right n (Snapshot k image) h a = (tt, tt, snapshot_right n h k image a)

  -- the daemons' store is that of the links
  same_act : (n : Network) (step : LinkStep) → (fold moved (daemons_of n) (flat_map at_once (handed n.web step))).point ≡ (stepped n.web step).cluster.point
  same_act n (Execute k call) = refl
  same_act n other = refl

  same_arrive : (n : Network) (k : ℕ) (frame : Frame) → (moved (daemons_of n) (move_of k frame)).point ≡ n.web.cluster.point
  same_arrive n k (Feed b) = refl
  same_arrive n k other = refl

  same_emit : (n : Network) (t : Bool) (k : ℕ) (b : Batch) → n.web.cluster.point ≡ (stepped n.web (emitted t k b)).cluster.point
  same_emit n true k b = refl
  same_emit n false k b = refl

  pub same_point : (n : Network) (step : NetworkStep) → (fold moved (daemons_of n) (daemon_moves n step)).point ≡ (fold stepped n.web (as_seen n step)).cluster.point
  same_point n (Act step) = same_act n step
  same_point n (Arrive k frame rest) = same_arrive n k frame
  same_point n (Emit k b) = same_emit n (leads_epoch (n.web.cluster.nodes k).leads b.epoch) k b
  same_point n (Snapshot k image) = refl

  possible_both : (w : Web) (some more : List LinkStep) → ArePossible make w some → ArePossible make (fold stepped w some) more → ArePossible make w (some ++ more)
  possible_both w [] more a b = b
  possible_both w (step ∷ some) more (here, a) b = (here, possible_both (stepped w step) some more a b)

  all_right : (n : Network) (steps : List NetworkStep) → IsNetwork n → AllMayHappen make n steps
      → AreAllowed make (daemons_of n) (all_daemon_moves n steps) × ArePossible make n.web (all_link_steps n steps)
  all_right n [] h a = (tt, tt)
  all_right n (step ∷ steps) h (here, a) =
      let r = network_right n step h here in
      let then = network_after n step in
      let rest = all_right then steps r.2 a in
      let daemons : AreAllowed make (fold moved (daemons_of n) (daemon_moves n step)) (all_daemon_moves then steps) =
      subst (λ (q : Point). AreAllowed make (record { point = q; nodes = then.daemons }) (all_daemon_moves then steps)) (sym (same_point n step)) rest.0 in (
        allowed_both make (daemons_of n) (daemon_moves n step) (all_daemon_moves then steps) r.0 daemons,
        possible_both n.web (as_seen n step) (all_link_steps then steps) r.1 rest.1,
      )

  pub networks_right : (n : Network) (steps : List NetworkStep) → IsNetwork n → AllMayHappen make n steps → IsNetwork (fold network_after n steps)
  networks_right n [] h a = h
  networks_right n (step ∷ steps) h (here, a) = networks_right (network_after n step) steps (network_right n step h here).2 a

  pub first_network : IsNetwork no_network
  first_network = record {
    web = first_web make;
    daemons = (first_cluster make).nodes;
    way = λ k. record { reaches = refl; won_all = tt; once = tt; fresh = λ standby e is has. absurd has };
    images = λ k. tt;
  }

pub late_frames_are_right : LateFramesAreRight
late_frames_are_right make steps a = all_right make no_network steps (first_network make) a
