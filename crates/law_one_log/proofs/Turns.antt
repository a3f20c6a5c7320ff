-- Each turn keeps daemons, links and store right, and what was told in the log.
use Rattle.std.proofs.Common.{◌≡◌, ◌∙◌, sym, subst, ℕ, suc, ℤ, pos, negsuc, Bool, false, cond, List, [], ◌∷◌, ◌++◌, length, refl, ap, arith}
use Rattle.std.specs.Prelude.{nat_eq, fold, Option, Result, Ok, take}
use Rattle.std.specs.List.{AllByRecursion}
use Rattle.std.proofs.lemmas.List.{append-nil, take_at}
use Rattle.kr_batch.specs.declared.Batch.{Batch}
use Rattle.kr_calls.specs.declared.calls.Ask.{Ask}
use Rattle.kr_calls.specs.declared.events.Event.{Event}
use Rattle.kr_calls.specs.declared.events.Event.TheVariants as events
use Rattle.kr_defs.specs.declared.ill.Ill.{Ill}
use Rattle.kr_defs.specs.declared.options.Options.{Options}
use Rattle.kr_defs.specs.declared.record.Item.{Item}
use Rattle.kr_defs.specs.Image.{Image, empty}
use Rattle.kr_defs.specs.Log.{Log, apply_all, first}
use Rattle.kr_snapshot.specs.ImageText.{image_text}
use Rattle.kr_model.specs.World.{closed_of, is_far, seen_at, tip_of}
use Rattle.law_quorum.specs.Batches.{behind}
use Rattle.law_quorum.specs.Batches.{Batch as StoredBatch}
use Rattle.law_quorum.specs.Changes.{Drop}
use Rattle.law_quorum.specs.History.{Point}
use Rattle.law_quorum.specs.NodeLaws.{IsFedNode}
use Rattle.law_quorum.specs.Nodes.{Node, committed, moved, new_node, set_node, told_to_lead}
use Rattle.law_quorum.proofs.WholeHistories.{grows_from}
use Rattle.law_link.specs.Frames.{Act, Arrive, Commit, Feed, Frame, Lead, Load, Lost, MayAct, MaySnapshot, Network, NetworkStep, Snapshot, daemons_of, move_of, network_after, set_at}
use Rattle.law_link.specs.Links.{Clear, Execute, LinkStep, Make, Renew, Stray, Write, append_of}
use Rattle.law_link.proofs.LateFrames.{IsNetwork, at_node, first_network, network_right}
use Rattle.law_link.proofs.LinkSteps.{all_before}
use Rattle.law_link.specs.Refusals.{Rises, least_after, leasts_after}
use Rattle.law_link.proofs.UnderWay.{after_frame}
use Rattle.law_link.proofs.Welcome.{AscentOf, ascends, first_ascent, welcome}
use Rattle.law_nodes.specs.Nodes.{NodeTold, RunNode, after_event, fresh_node, told_of}
use Rattle.law_nodes.specs.OneList.{Follows, StandsIn, list_items}
use Rattle.law_nodes.proofs.Invariant.{IsNode}
use Rattle.law_nodes.proofs.Lists.{items_append, stands_on}
use Rattle.law_nodes.proofs.Logs
use Rattle.law_nodes.proofs.Replies.{AllTold, told_both}
use Rattle.law_one_log.specs.OneLog.{DaemonsSayOneLog, FramesAreTaken, IsNotRefused, SaysOneLog}
use Rattle.law_one_log.specs.Daemons.{AllMayTurn, HasPlaces, IsNoFrame, IsReadBatch, IsReadFrame, Link, MayTurn, Serve, System, Take, SystemTurn, batches_given, event_of, given_steps, images_given, log_batches, no_system, with_new, turned}
use Rattle.law_one_log.specs.StoredBatches.{batches_in, image_bytes, stored_image, text_of_image}
use Rattle.law_one_log.proofs.DaemonFrames.{Takes}
use Rattle.law_one_log.proofs.DaemonFrames as frames
use Rattle.law_one_log.proofs.DaemonStates.{IsDaemon, Lives, daemon_on, node_on, sense_of, tip_is, with_batches}
use Rattle.law_one_log.proofs.DaemonStates as states
use Rattle.law_one_log.proofs.Emissions.{all_emitted, as_stored, emits}
use Rattle.law_one_log.proofs.KnownEnds.{Knows, still_known}
use Rattle.law_one_log.proofs.Meanings.{SenseBehind, WebHasSense, WritesSense, first_sense, itself, step_sense}
use Rattle.law_one_log.proofs.NextBatches.{AreWritten, all_written, as_led}
use Rattle.law_one_log.proofs.NoRefusals.{IsAccepted, accepted_knows, accepted_taken}
use Rattle.law_one_log.proofs.NoRefusals as refusals
use Rattle.law_one_log.proofs.ReadLists.{AllStored, IsStored, behind_items, in_append, items_in}
use Rattle.law_one_log.proofs.Stored.{WebHas, WritesOne, first_has, step_has}

-- the list grows
told_on : (list more : List Batch) (ts : List NodeTold) → AllTold list ts → AllTold (list ++ more) ts
told_on list more [] h = tt
told_on list more (t ∷ ts) h =
    ((λ place is. subst (λ (l : List Item). StandsIn l place t.items) (sym (items_append list more)) (stands_on (list_items list) (list_items more) t.items place (h.0 place is))), told_on list more ts h.1)

first_follows : Follows [] first 0
first_follows = record { done = []; ahead = []; before = []; shared = []; rest = []; list_is = refl; done_is = refl; items_are = refl; offset_is = refl; end_is = refl; starts = refl }

first_node : IsNode [] (negsuc 0) fresh_node
unfolding first_follows
first_node = record {
  core = record {
    committed = first_follows;
    settles = first_follows;
    order = omega arith;
    tail = refl;
    some = tt;
    means = refl;
    standby = λ _. (refl, refl, refl);
    low = λ epoch is. absurd cc;
    latest = λ is. absurd cc;
  };
  waits = tt;
  idle = λ _. refl;
}

fresh_is : (list : List Batch) → IsDaemon list new_node fresh_node
fresh_is list = record {
  leads = refl;
  end = refl;
  own = tt;
  elected = pos 0;
  above = λ epoch led. absurd cc;
  node = node_on [] list (negsuc 0) (pos 0) fresh_node (λ epoch led. absurd cc) first_node;
}

-- ---- what is right of all

pub record IsSystem (y : System) : Type 0 where
  pub network : IsNetwork image_bytes y.network
  pub has : WebHas IsStored image_bytes y.network.web
  pub daemons : (k : ℕ) → IsDaemon (log_batches y) (y.network.daemons k) (y.daemons k)
  pub told : AllTold (log_batches y) y.told
  pub sense : WebHasSense y.network.web
  -- each daemon leads from an epoch on, which those that are under way to it are not below
  pub leasts : ℕ → ℕ
  pub ascent : (k : ℕ) → AscentOf image_bytes leasts y.network k
  pub knows : (k : ℕ) → Knows (y.network.daemons k) (leasts k) (y.daemons k).state.world

-- what daemons are, by what law_link says of each
abbrev pub IsDaemonAt : List StoredBatch → (ℕ → Node) → (ℕ → RunNode) → Type 0
IsDaemonAt log nodes daemons = (j : ℕ) → IsDaemon (batches_in log) (nodes j) (daemons j)

module _ (options : Options) (y : System) (h : IsSystem y) where
  abbrev n : Network
  n = y.network

  abbrev p : Point
  p = n.web.cluster.point

  abbrev list : List Batch
  list = log_batches y

  -- ---- the store and links

  log_grows : (step : LinkStep) → (more : List StoredBatch) × ((network_after n (Act step)).web.cluster.point.log ≡ p.log ++ more)
  log_grows (Execute k call) = grows_from p (append_of call ∷ [])
  log_grows (Clear k keep) = grows_from p (Drop keep.before keep.image ∷ [])
  log_grows (Make change) = grows_from p (change ∷ [])
  log_grows other = ([], sym (append-nil p.log))

  writes_none : (step : LinkStep) → MayAct image_bytes n step → WritesOne IsStored image_bytes step
  writes_none (Write k b) a = absurd a
  writes_none (Stray k b) a = absurd a
  writes_none other a = tt

  writes_nothing : (step : LinkStep) → MayAct image_bytes n step → WritesSense n.web h.network.web h.has h.sense step
  writes_nothing (Write k b) a = absurd a
  writes_nothing (Stray k b) a = absurd a
  writes_nothing other a = tt

  module _ (step : LinkStep) where
    abbrev next : Network
    next = network_after n (Act step)

    longer : IsDaemonAt next.web.cluster.point.log n.daemons y.daemons
    longer j =
        let r = log_grows step in
        subst (λ (l : List StoredBatch). IsDaemon (batches_in l) (n.daemons j) (y.daemons j)) (sym r.1)
        (subst (λ (l : List Batch). IsDaemon l (n.daemons j) (y.daemons j)) (sym (in_append p.log r.0)) (daemon_on list (batches_in r.0) (n.daemons j) (y.daemons j) (h.daemons j)))

    told_longer : AllTold (batches_in next.web.cluster.point.log) (y.told ++ [])
    told_longer =
        let r = log_grows step in
        subst (λ (l : List StoredBatch). AllTold (batches_in l) (y.told ++ [])) (sym r.1)
        (subst (λ (l : List Batch). AllTold l (y.told ++ [])) (sym (in_append p.log r.0))
        (subst (λ (ts : List NodeTold). AllTold (list ++ batches_in r.0) ts) (sym (append-nil y.told)) (told_on list (batches_in r.0) y.told h.told)))

  link_daemons : (step : LinkStep) → IsDaemonAt (network_after n (Act step)).web.cluster.point.log (network_after n (Act step)).daemons (with_new step y.daemons)
  link_daemons (Renew k) = at_node k (λ j t. IsDaemon list (cond t new_node (n.daemons j)) (cond t fresh_node (y.daemons j))) (fresh_is list) h.daemons
  link_daemons other = longer other

  link_knows : (step : LinkStep) (j : ℕ) → Knows ((network_after n (Act step)).daemons j) (leasts_after h.leasts (Act step) j) (with_new step y.daemons j).state.world
  link_knows (Renew k) =
      at_node k (λ j t. Knows (cond t new_node (n.daemons j)) (cond t 0 (h.leasts j)) (cond t fresh_node (y.daemons j)).state.world) (record { ends = tt; low = refl }) h.knows
  link_knows other = h.knows

  pub link_right : (step : LinkStep) → MayAct image_bytes n step → Rises n (Act step) → IsSystem (turned options y (Link step))
  link_right step a rise =
      let r = network_right image_bytes n (Act step) h.network a in record {
        network = r.2;
        has = step_has IsStored image_bytes n.web h.has step r.1.0 (writes_none step a);
        daemons = link_daemons step;
        told = told_longer step;
        sense = step_sense n.web h.network.web h.has h.sense step r.1.0 (writes_nothing step a);
        leasts = leasts_after h.leasts (Act step);
        ascent = ascends image_bytes n h.network h.leasts h.ascent (Act step) a rise;
        knows = link_knows step;
      }

  -- ---- a daemon

  module _ (k : ℕ) where
    abbrev d : Node
    d = n.daemons k

    abbrev m : RunNode
    m = y.daemons k

    abbrev i : IsDaemon list d m
    i = h.daemons k

    abbrev with_daemon : RunNode → List NodeTold → Network → System
    with_daemon then told network = record { network = network; daemons = set_at k then y.daemons; told = y.told ++ told }

    -- ---- frames

    took : (frame : Frame) → (moved (daemons_of n) (move_of k frame)).nodes ≡ set_node k (after_frame d frame) n.daemons
    took (Feed b) = refl
    took (Load image) = refl
    took (Lead epoch end) = refl
    took (Commit epoch end) = refl
    took (Lost epoch) = refl

    no_image : (frame : Frame) (now : ℤ) → images_given k m.state (event_of frame now) ≡ []
    no_image (Feed b) now = refl
    no_image (Load image) now = refl
    no_image (Lead epoch end) now = refl
    no_image (Commit epoch end) now = refl
    no_image (Lost epoch) now = refl

    module _ (rest : List Frame) (now : ℤ) where
      -- what comes is taken
      accepts : (frame : Frame) → n.frames k ≡ frame ∷ rest → IsReadFrame frame → HasPlaces y
          → IsAccepted options m (event_of frame now) (after_frame d frame) (least_after frame (h.leasts k))
      accepts (Feed b) is read places =
          let a = (network_right image_bytes n (Arrive k (Feed b) rest) h.network is).0.0 in
          let w = welcome image_bytes n h.network h.leasts h.ascent (Arrive k (Feed b) rest) is in
          refusals.feed_accepted options p.log k d m i (h.leasts k) (h.knows k) places (i.leads ∙ ap (λ (o : Option ℕ). as_led o) w.0) h.has.log h.network.web.cluster.one.meet h.sense.whole b a.1 w.1
      accepts (Load image) is read places =
          let a = (network_right image_bytes n (Arrive k (Load image) rest) h.network is).0.0 in
          let w = welcome image_bytes n h.network h.leasts h.ascent (Arrive k (Load image) rest) is in
          refusals.load_accepted options p.log k d m i (h.leasts k) (h.knows k) places (i.leads ∙ ap (λ (o : Option ℕ). as_led o) w.0) h.sense.whole image a.right h.has.log read w.1
      accepts (Lead epoch end) is read places =
          let w = welcome image_bytes n h.network h.leasts h.ascent (Arrive k (Lead epoch end) rest) is in
          let f = h.network.daemons k in
          subst (λ (x : ℕ). IsAccepted options m (events.Lead (pos epoch) (pos x) now) (told_to_lead d epoch) (suc epoch)) (i.end ∙ sym w.2)
          (refusals.lead_accepted options p.log k d m i (h.leasts k) (h.knows k) places (i.leads ∙ ap (λ (o : Option ℕ). as_led o) w.0) epoch now w.1
          (subst (λ (x : ℕ). is_far (pos x) ≡ false) (f.end ∙ sym i.end) (refusals.near_after options p.log k d m i (h.leasts k) (h.knows k) places (f.gone ++ d.batches) f.rest f.split)))
      accepts (Commit epoch end) is read places =
          let a = (network_right image_bytes n (Arrive k (Commit epoch end) rest) h.network is).0.0 in
          let w = welcome image_bytes n h.network h.leasts h.ascent (Arrive k (Commit epoch end) rest) is in
          refusals.commit_accepted options p.log k d m i (h.leasts k) (h.knows k) places epoch (i.leads ∙ ap (λ (o : Option ℕ). as_led o) w.0) end w.1 a.whole
      accepts (Lost epoch) is read places =
          let w = welcome image_bytes n h.network h.leasts h.ascent (Arrive k (Lost epoch) rest) is in
          refusals.loss_accepted options p.log k d m i (h.leasts k) (h.knows k) places epoch (i.leads ∙ ap (λ (o : Option ℕ). as_led o) w)

      takes : (frame : Frame) → n.frames k ≡ frame ∷ rest → IsReadFrame frame → IsNotRefused options m (event_of frame now)
          → Takes options p.log k d m i (event_of frame now) (after_frame d frame)
      takes (Feed b) is read taken =
          let a = (network_right image_bytes n (Arrive k (Feed b) rest) h.network is).0.0 in
          frames.feeds options p.log k d m i (i.leads ∙ ap (λ (o : Option ℕ). as_led o) a.0) h.has.log h.network.web.cluster.one.meet h.sense.whole b a.1 a.0 taken
      takes (Load image) is read taken =
          let a = (network_right image_bytes n (Arrive k (Load image) rest) h.network is).0.0 in
          frames.loads options p.log k d m i (i.leads ∙ ap (λ (o : Option ℕ). as_led o) a.standby) h.sense.whole image a.right h.has.log read a.standby taken
      takes (Lead epoch end) is read taken =
          let a = (network_right image_bytes n (Arrive k (Lead epoch end) rest) h.network is).0.0 in
          subst (λ (x : ℕ). IsNotRefused options m (events.Lead (pos epoch) (pos x) now) → Takes options p.log k d m i (events.Lead (pos epoch) (pos x) now) (told_to_lead d epoch)) (i.end ∙ a.reached)
          (frames.leads_at options p.log k d m i (i.leads ∙ ap (λ (o : Option ℕ). as_led o) a.standby) epoch now) taken
      takes (Commit epoch end) is read taken =
          let r = network_right image_bytes n (Arrive k (Commit epoch end) rest) h.network is in
          let a = r.0.0 in
          let after : IsFedNode image_bytes p k (committed d end) = subst (λ (q : Bool). IsFedNode image_bytes p k (cond q (committed d end) d)) (itself k) (r.2.daemons k) in
          frames.commits options p.log k d m i p refl epoch end a.leads a.whole h.has.log after taken
      takes (Lost epoch) is read taken =
          let a = (network_right image_bytes n (Arrive k (Lost epoch) rest) h.network is).0.0 in
          frames.loses options p.log k d m i epoch a

      pub frame_taken : (frame : Frame) → n.frames k ≡ frame ∷ rest → IsReadFrame frame → HasPlaces y → IsNotRefused options m (event_of frame now)
      frame_taken frame is read places = accepted_taken options m (event_of frame now) (after_frame d frame) (least_after frame (h.leasts k)) (accepts frame is read places)

      pub take_right : (frame : Frame) → n.frames k ≡ frame ∷ rest → IsReadFrame frame → HasPlaces y → IsSystem (turned options y (Take k frame rest now))
      take_right frame is read places =
          let event = event_of frame now in
          let r = network_right image_bytes n (Arrive k frame rest) h.network is in
          let t = takes frame is read (frame_taken frame is read places) in
          let least = least_after frame (h.leasts k) in
          let known : Knows (after_frame d frame) least (after_event options m event).state.world = accepted_knows options m event (after_frame d frame) least (accepts frame is read places) in
          let then = after_event options m event in
          let next = network_after n (Arrive k frame rest) in
          let none : given_steps options k m event ≡ [] =
          ap (λ (bs : List Batch). emits k bs ++ images_given k m.state event) t.none ∙ no_image frame now in
          let daemons : IsDaemonAt p.log next.daemons (set_at k then y.daemons) =
          subst (λ (nodes : ℕ → Node). IsDaemonAt p.log nodes (set_at k then y.daemons)) (sym (took frame))
          (at_node k (λ j q. IsDaemon list (cond q (after_frame d frame) (n.daemons j)) (cond q then (y.daemons j))) t.daemon h.daemons) in
          let there : IsSystem (with_daemon then (told_of options k m event) next) = record {
            network = r.2;
            has = h.has;
            daemons = daemons;
            told = told_both list y.told (told_of options k m event) h.told t.told;
            sense = h.sense;
            leasts = set_at k least h.leasts;
            ascent = ascends image_bytes n h.network h.leasts h.ascent (Arrive k frame rest) is tt;
            knows = subst (λ (nodes : ℕ → Node). (j : ℕ) → Knows (nodes j) (set_at k least h.leasts j) (set_at k then y.daemons j).state.world) (sym (took frame))
                (at_node k (λ j q. Knows (cond q (after_frame d frame) (n.daemons j)) (cond q least (h.leasts j)) (cond q then (y.daemons j)).state.world) known h.knows);
          } in
          subst (λ (steps : List NetworkStep). IsSystem (with_daemon then (told_of options k m event) (fold network_after next steps))) (sym none) there

    -- ---- events of its own

    module _ (event : Event) where
      abbrev given : List Batch
      given = batches_given options m event

      abbrev then : RunNode
      then = after_event options m event

      served_knows : IsNoFrame event → (j : ℕ) → Knows (cond (nat_eq k j) (with_batches d (as_stored k given)) (n.daemons j)) (h.leasts j) (set_at k then y.daemons j).state.world
      served_knows own =
          at_node k (λ j q. Knows (cond q (with_batches d (as_stored k given)) (n.daemons j)) (h.leasts j) (cond q then (y.daemons j)).state.world)
          (still_known options d (h.leasts k) m (sym (tip_is list d m i)) (h.knows k) event own) h.knows

      serve_right : IsNoFrame event → Lives options list k d m i event → AreWritten d (as_stored k given) → AllStored (as_stored k given) → images_given k m.state event ≡ []
          → IsSystem (turned options y (Serve k event))
      serve_right own l written kept none =
          let sense : SenseBehind p.log d.end (d.own ++ as_stored k given) = sense_of list (with_batches d (as_stored k given)) then l.daemon in
          let e = all_emitted k n given h.network h.has h.sense i.own sense written kept in
          let next = fold network_after n (emits k given) in
          let steps : given_steps options k m event ≡ emits k given = ap (λ (l : List NetworkStep). emits k given ++ l) none ∙ append-nil (emits k given) in
          let daemons : IsDaemonAt p.log next.daemons (set_at k then y.daemons) =
          λ j. subst (λ (x : Node). IsDaemon list x (set_at k then y.daemons j)) (sym (e.daemons j))
          (at_node k (λ g q. IsDaemon list (cond q (with_batches d (as_stored k given)) (n.daemons g)) (cond q then (y.daemons g))) l.daemon h.daemons j) in
          let there : IsSystem (with_daemon then (told_of options k m event) next) = record {
            network = e.network;
            has = e.has;
            daemons = subst (λ (q : Point). IsDaemonAt q.log next.daemons (set_at k then y.daemons)) (sym e.log) daemons;
            told = subst (λ (q : Point). AllTold (batches_in q.log) (y.told ++ told_of options k m event)) (sym e.log) (told_both list y.told (told_of options k m event) h.told l.told);
            sense = e.sense;
            leasts = h.leasts;
            ascent = e.ascent h.leasts h.ascent;
            knows = λ j. subst (λ (x : Node). Knows x (h.leasts j) (set_at k then y.daemons j).state.world) (sym (e.daemons j)) (served_knows own j);
          } in
          subst (λ (s : List NetworkStep). IsSystem (with_daemon then (told_of options k m event) (fold network_after n s))) (sym steps) there

    tip : behind d.end d.own ≡ tip_of m.state
    tip = sym (tip_is list d m i)

    asked : (client : ℕ) (now : ℤ) (ask : Ask) → AllByRecursion IsReadBatch (batches_given options m (events.Request client now ask)) → IsSystem (turned options y (Serve k (events.Request client now ask)))
    asked client now ask reads =
        let event = events.Request client now ask in
        let w = all_written d.leads (tip_of m.state) d (batches_given options m event) refl tip (states.request_given options list k d m i client now ask) reads in
        serve_right event tt (states.serves options list k d m i event (states.request_is options list k d m i client now ask) tt w.1 reads) w.0 w.1 refl

    ticked : (now : ℤ) → AllByRecursion IsReadBatch (batches_given options m (events.Tick now)) → IsSystem (turned options y (Serve k (events.Tick now)))
    ticked now reads =
        let event = events.Tick now in
        let w = all_written d.leads (tip_of m.state) d (batches_given options m event) refl tip (states.tick_given options list k d m i now) reads in
        serve_right event tt (states.serves options list k d m i event (states.tick_is options list k d m i now) tt w.1 reads) w.0 w.1 refl

    -- ---- an image of what it has

    abbrev end : ℕ
    end = m.state.world.committed

    abbrev log : Log
    log = m.state.world.log

    closed : closed_of m.state.world ≡ end
    closed = Logs.all_closed log i.node.core.means end

    module _ (f : IsFedNode image_bytes p k d) where
      abbrev had : List StoredBatch
      had = f.gone ++ d.batches

      had_length : length (list_items (batches_in had)) ≡ end
      had_length =
          let at = behind_items 0 had (all_before IsStored had f.rest (subst (λ (l : List StoredBatch). AllStored l) f.split h.has.log)) in
          let here = f.end in
          let same = i.end in
          omega (arith, at, here, same)

      had_means : apply_all empty (list_items (batches_in had)) ≡ Ok (seen_at log end)
      had_means =
          let core = i.node.core in
          ap (λ (l : List Item). apply_all empty l)
          (sym (ap (λ (l : List StoredBatch). take end (list_items (batches_in l))) f.split
          ∙ (ap (λ (l : List Item). take end l) (items_in had f.rest) ∙ take_at (list_items (batches_in had)) (list_items (batches_in f.rest)) end had_length)))
          ∙ (sym (Logs.same_image list log end core.committed core.means) ∙ Logs.seen list log end core.committed core.means)

      had_end : behind 0 had ≡ end
      had_end = f.end ∙ sym i.end

      image_offset : behind 0 had ≡ (stored_image m.state).offset
      image_offset = had_end ∙ sym closed

      image_is : (stored_image m.state).bytes ≡ image_bytes had
      image_is =
          ap (λ (e : ℕ). image_text (pos e) (seen_at log e)) closed
          ∙ (ap (λ (e : ℕ). image_text (pos e) (seen_at log end)) (sym had_end)
          ∙ ap (λ (r : Result Image Ill). text_of_image (behind 0 had) r) (sym had_means))

    snapshot : MaySnapshot image_bytes p k d (stored_image m.state)
    snapshot = record { first = d.batches; more = []; split = sym (append-nil d.batches); right = λ f. (image_offset f, image_is f) }

    imaged : IsSystem (turned options y (Serve k events.Image))
    imaged =
        let r = network_right image_bytes n (Snapshot k (stored_image m.state)) h.network snapshot in
        let l = states.serves options list k d m i events.Image (states.image_is options list k d m i) tt tt tt in
        let then = after_event options m events.Image in
        let own : IsDaemon list d then = subst (λ (bs : List StoredBatch). IsDaemon list (record d { own = bs }) then) (append-nil d.own) l.daemon in
        record {
          network = r.2;
          has = h.has;
          daemons = at_node k (λ j q. IsDaemon list (n.daemons j) (cond q then (y.daemons j))) own h.daemons;
          told = told_both list y.told (told_of options k m events.Image) h.told l.told;
          sense = h.sense;
          leasts = h.leasts;
          ascent = h.ascent;
          knows = at_node k (λ j q. Knows (n.daemons j) (h.leasts j) (cond q then (y.daemons j)).state.world)
              (subst (λ (bs : List StoredBatch). Knows (record d { own = bs }) (h.leasts k) then.state.world) (append-nil d.own)
              (still_known options d (h.leasts k) m (sym (tip_is list d m i)) (h.knows k) events.Image tt)) h.knows;
        }

    pub serves_right : (event : Event) → IsNoFrame event → AllByRecursion IsReadBatch (batches_given options m event) → IsSystem (turned options y (Serve k event))
    serves_right (events.Request client now ask) own reads = asked client now ask reads
    serves_right (events.Tick now) own reads = ticked now reads
    serves_right events.Image own reads = imaged
    serves_right (events.Lead epoch _ now) own reads = absurd own
    serves_right (events.Commit epoch _) own reads = absurd own
    serves_right (events.Lost epoch) own reads = absurd own
    serves_right (events.Batch bytes) own reads = absurd own
    serves_right (events.Load bytes) own reads = absurd own

-- ---- all turns

turn_right : (options : Options) (y : System) (turn : SystemTurn) → IsSystem y → MayTurn options y turn → IsSystem (turned options y turn)
turn_right options y (Link step) h (a, rise) = link_right options y h step a rise
turn_right options y (Take k frame rest now) h (is, read, places) = take_right options y h k rest now frame is read places
turn_right options y (Serve k event) h (own, reads) = serves_right options y h k event own reads

pub turns_right : (options : Options) (y : System) (turns : List SystemTurn) → IsSystem y → AllMayTurn options y turns → IsSystem (fold (turned options) y turns)
turns_right options y [] h a = h
turns_right options y (turn ∷ turns) h (here, a) = turns_right options (turned options y turn) turns (turn_right options y turn h here) a

pub first_system : IsSystem no_system
first_system = record { network = first_network image_bytes; has = first_has IsStored image_bytes; daemons = λ k. fresh_is []; told = tt; sense = first_sense; leasts = λ k. 0; ascent = first_ascent image_bytes; knows = λ k. record { ends = tt; low = refl } }

says_one_log : (y : System) → IsSystem y → SaysOneLog y
says_one_log y h = record {
  daemons = λ k.
      let c = (h.daemons k).node.core in
      let log = (y.daemons k).state.world.log in
      let end = (y.daemons k).state.world.committed in
      record { follows = c.committed; image = Logs.same_image (log_batches y) log end c.committed c.means; closed = Logs.all_closed log c.means end };
  told = h.told;
}

pub daemons_say_one_log : DaemonsSayOneLog
daemons_say_one_log options turns a = says_one_log (fold (turned options) no_system turns) (turns_right options no_system turns first_system a)

pub frames_are_taken : FramesAreTaken
frames_are_taken options turns k frame rest now a (is, read, places) =
    let y = fold (turned options) no_system turns in
    frame_taken options y (turns_right options no_system turns first_system a) k rest now frame is read places
