-- Each turn keeps controllers behind links by their clocks beside a system that says one log.
use Rattle.std.proofs.Common.{◌≡◌, ◌∙◌, sym, ℕ, ℤ, pos, false, List, [], ◌∷◌, ◌++◌, refl, ap, subst}
use Rattle.std.proofs.lemmas.List.{append-nil}
use Rattle.std.proofs.lemmas.List.Sums.{fold-append}
use Rattle.std.specs.Prelude.{flat_map, fold, map}
use Rattle.std.specs.List.{AllByRecursion}
use Rattle.kr_batch.specs.declared.Batch.{Batch}
use Rattle.kr_calls.specs.declared.events.Event.{Event}
use Rattle.kr_calls.specs.declared.events.Event.TheVariants as events
use Rattle.kr_defs.specs.declared.options.Options.{Options}
use Rattle.kr_model.specs.World.{State, is_far}
use Rattle.kr_link.specs.declared.link.LinkSettings.{LinkSettings}
use Rattle.kr_link.specs.LinkMoves as calls
use Rattle.law_quorum.specs.Batches.{behind}
use Rattle.law_quorum.specs.History.{Point}
use Rattle.law_quorum.specs.Nodes.{Cluster}
use Rattle.law_link.specs.Frames.{Arrive, Emit, Frame, Network, NetworkStep, network_after, set_at}
use Rattle.law_link.proofs.LateFrames.{IsNetwork, first_network}
use Rattle.law_core.specs.Runs.{CoreRun, Happens, no_run, run_after}
use Rattle.law_nodes.specs.Agreement.{IsTold}
use Rattle.law_nodes.specs.Nodes.{NodeTold, RunNode, after_event, fresh_node, told_of}
use Rattle.law_one_log.specs.Daemons.{IsNoFrame, IsReadBatch, IsReadFrame, MayTurn, Serve, System, SystemTurn, Take, batches_given, daemons_after, event_of, given_steps, images_given, log_batches, network_steps, no_system, told_in_turn, turned}
use Rattle.law_one_log.specs.OneLog.{ReadsOneLog, SaysOneLog}
use Rattle.law_one_log.specs.StoredBatches.{batches_in, image_bytes, stored, stored_image}
use Rattle.law_one_log.proofs.Turns.{IsSystem, daemons_say_one_log, first_system, turns_right}
use Rattle.law_timed_links.specs.TimedLaws.{AreNames}
use Rattle.law_timed_links.specs.TimedRuns.{Arrives, Calls, IsOfNoDaemon, MayFollow, Restarts, TimedEvent, TimedRun, Writes, frames_sent, timed_after, timed_start}
use Rattle.law_timed_links.proofs.DaemonEvents.{Keeps, arrive_keeps, give_keeps, write_keeps}
use Rattle.law_timed_links.proofs.RunsOfCores.{beside_of, first_keeps, keeps_of}
use Rattle.law_timed_links.proofs.TimedRuns.{IsBeside, Then, link_beside}
use Rattle.law_timed_daemons.specs.TimedDaemons.{AllMayTurnTimed, Handles, Links, MayTurnTimed, Receives, SayOneLog, TimedDaemonsSayOneLog, TimedSystem, TimedTurn, daemons_with, first_timed, given_by, gives_image, timed_turned}
use Rattle.law_timed_daemons.proofs.LinkTurns.{IsTurned, joins, records, stores, turned_on}

-- ---- steps of daemons, one after the other

abbrev happens_one : CoreRun → NetworkStep → CoreRun
happens_one r step = run_after r (Happens step)

abbrev happen : CoreRun → List NetworkStep → CoreRun
happen r steps = fold happens_one r steps

happen_network : (r : CoreRun) (steps : List NetworkStep) → (happen r steps).network ≡ fold network_after r.network steps
happen_network r [] = refl
happen_network r (step ∷ steps) = happen_network (run_after r (Happens step)) steps

module _ (options : Options) (name : ℕ → ℕ → ℕ) where
  writes_keep : (k : ℕ) (bs : List Batch) (t : TimedRun) (won : ℕ → List ℕ) (r : CoreRun) → Keeps name t won r
      → Keeps name (fold timed_after t (map (λ (b : Batch). Writes k (stored b)) bs)) won (happen r (map (λ (b : Batch). Emit k (stored b)) bs))
  writes_keep k [] t won r b = b
  writes_keep k (x ∷ bs) t won r b = writes_keep k bs (timed_after t (Writes k (stored x))) won (run_after r (Happens (Emit k (stored x)))) (write_keeps name t won r b k (stored x))

  images_keep : (k : ℕ) (s : State) (event : Event) (t : TimedRun) (won : ℕ → List ℕ) (r : CoreRun) → Keeps name t won r
      → Keeps name (fold timed_after t (gives_image k s event)) won (happen r (images_given k s event))
  images_keep k s events.Image t won r b = give_keeps name t won r b k (stored_image s)
  images_keep k s other t won r b = b

  given_keep : (k : ℕ) (m : RunNode) (event : Event) (t : TimedRun) (won : ℕ → List ℕ) (r : CoreRun) → Keeps name t won r
      → Keeps name (fold timed_after t (given_by options k m event)) won (happen r (given_steps options k m event))
  given_keep k m event t won r b =
      let bs = batches_given options m event in
      let wrote = map (λ (x : Batch). Writes k (stored x)) bs in
      let emitted = map (λ (x : Batch). Emit k (stored x)) bs in
      subst (λ (u : TimedRun). Keeps name u won (happen r (emitted ++ images_given k m.state event))) (sym (fold-append timed_after t wrote (gives_image k m.state event)))
      (subst (λ (q : CoreRun). Keeps name (fold timed_after (fold timed_after t wrote) (gives_image k m.state event)) won q) (sym (fold-append happens_one r emitted (images_given k m.state event)))
      (images_keep k m.state event (fold timed_after t wrote) won (happen r emitted) (writes_keep k bs t won r b)))

  -- ---- a turn

  abbrev Is : TimedSystem → Type 0
  Is z = IsBeside image_bytes (IsTurned options z.daemons z.told) name z.run

  module _ (z : TimedSystem) (b : IsBeside image_bytes (IsTurned options z.daemons z.told) name z.run) where
    abbrev x : IsTurned options z.daemons z.told b.cores.run
    x = b.cores.recorded

    abbrev y : System
    y = fold (turned options) no_system b.cores.recorded.turns

    abbrev r : CoreRun
    r = b.cores.run

    point_is : y.network.web.cluster.point ≡ z.run.cluster.point
    point_is = ap (λ (n : Network). n.web.cluster.point) x.network ∙ ap (λ (c : Cluster). c.point) b.cores.cluster

    turn_beside : (w : TimedSystem) (turn : SystemTurn) (steps : List NetworkStep) → MayTurn options y turn → network_steps options y turn ≡ steps → daemons_after options y turn ≡ w.daemons
        → y.told ++ told_in_turn options y turn ≡ w.told → Keeps name w.run b.won (happen r steps) → Is w
    turn_beside w turn steps may same daemons told keeps =
        let network : (turned options y turn).network ≡ (happen r steps).network =
        ap (λ (s : List NetworkStep). fold network_after y.network s) same ∙ (ap (λ (n : Network). fold network_after n steps) x.network ∙ sym (happen_network r steps)) in
        let system : IsSystem (turned options y turn) = turns_right options y (turn ∷ []) (turns_right options no_system x.turns first_system x.may) (may, tt) in
        beside_of image_bytes (IsTurned options w.daemons w.told) name w.run b.won (happen r steps)
        (turned_on options z.daemons w.daemons z.told w.told r (happen r steps) x (turn ∷ []) (may, tt) network daemons told)
        (subst (λ (n : Network). IsNetwork image_bytes n) network system.network) keeps

    module _ (k : ℕ) where
      told_same : (event : Event) → y.told ++ told_of options k (y.daemons k) event ≡ z.told ++ told_of options k (z.daemons k) event
      told_same event =
          ap (λ (ts : List NodeTold). ts ++ told_of options k (y.daemons k) event) x.same_told
          ∙ ap (λ (ds : ℕ → RunNode). z.told ++ told_of options k (ds k) event) x.same_daemons

      receives : (frame : Frame) (rest : List Frame) (now : ℤ) → (z.run.nodes k).frames ≡ frame ∷ rest → IsReadFrame frame → is_far (pos (behind 0 z.run.cluster.point.log)) ≡ false
          → Is (timed_turned options z (Receives k frame rest now))
      receives frame rest now is read places =
          let event = event_of frame now in
          let sent = flat_map frames_sent (z.run.nodes k).link.out.actions in
          turn_beside (timed_turned options z (Receives k frame rest now)) (Take k frame (rest ++ sent) now) (Arrive k frame (rest ++ sent) ∷ given_steps options k (z.daemons k) event) (
            ap (λ (n : Network). n.frames k) x.network ∙ ((b.cores.sides k).frames ∙ ap (λ (frames : List Frame). frames ++ sent) is),
            read,
            subst (λ (q : Point). is_far (pos (behind 0 q.log)) ≡ false) (sym point_is) places,
          )
          (ap (λ (ds : ℕ → RunNode). Arrive k frame (rest ++ sent) ∷ given_steps options k (ds k) event) x.same_daemons)
          (ap (λ (ds : ℕ → RunNode). set_at k (after_event options (ds k) event) ds) x.same_daemons) (told_same event)
          (given_keep k (z.daemons k) event (timed_after z.run (Arrives k frame rest)) b.won (run_after r (Happens (Arrive k frame (rest ++ sent))))
          (arrive_keeps name z.run b.won r (keeps_of image_bytes (IsTurned options z.daemons z.told) name z.run b) k frame rest))

      handles : (event : Event) → IsNoFrame event → AllByRecursion IsReadBatch (batches_given options (z.daemons k) event) → Is (timed_turned options z (Handles k event))
      handles event own reads =
          turn_beside (timed_turned options z (Handles k event)) (Serve k event) (given_steps options k (z.daemons k) event)
          (own, subst (λ (ds : ℕ → RunNode). AllByRecursion IsReadBatch (batches_given options (ds k) event)) (sym x.same_daemons) reads)
          (ap (λ (ds : ℕ → RunNode). given_steps options k (ds k) event) x.same_daemons)
          (ap (λ (ds : ℕ → RunNode). set_at k (after_event options (ds k) event) ds) x.same_daemons) (told_same event)
          (given_keep k (z.daemons k) event z.run b.won r (keeps_of image_bytes (IsTurned options z.daemons z.told) name z.run b))

    module _ (names : AreNames name) where
      linked : (event : TimedEvent) → IsOfNoDaemon event → MayFollow image_bytes name z.run event
          → IsBeside image_bytes (Then (IsTurned options z.daemons z.told) (λ (k : ℕ). IsTurned options (set_at k fresh_node z.daemons) z.told) event) name (timed_after z.run event)
      linked event is may =
          link_beside image_bytes (IsTurned options z.daemons z.told) (λ (k : ℕ). IsTurned options (set_at k fresh_node z.daemons) z.told) name names
          (records options z.daemons z.told) (joins options z.daemons z.told) (stores options z.daemons z.told) z.run b event is may

      linked_with : (event : TimedEvent) → IsOfNoDaemon event → MayFollow image_bytes name z.run event
          → IsBeside image_bytes (IsTurned options (daemons_with event z.daemons) z.told) name (timed_after z.run event)
      linked_with (Calls k (calls.Join now)) is may = linked (Calls k (calls.Join now)) is may
      linked_with (Restarts k settings) is may = linked (Restarts k settings) is may
      linked_with event is may = linked event is may

      turns_one : (turn : TimedTurn) → MayTurnTimed options name z turn → Is (timed_turned options z turn)
      turns_one (Links event) (is, may) =
          subst (λ (ts : List NodeTold). IsBeside image_bytes (IsTurned options (daemons_with event z.daemons) ts) name (timed_after z.run event)) (sym (append-nil z.told)) (linked_with event is may)
      turns_one (Receives k frame rest now) (is, read, places) = receives k frame rest now is read places
      turns_one (Handles k event) (own, reads) = handles k event own reads

    says : SayOneLog z
    says =
        let one : SaysOneLog y = daemons_say_one_log options x.turns x.may in
        record {
          daemons = λ k. subst (λ (q : Point). ReadsOneLog (batches_in q.log) (z.daemons k)) point_is (subst (λ (ds : ℕ → RunNode). ReadsOneLog (log_batches y) (ds k)) x.same_daemons (one.daemons k));
          told = subst (λ (q : Point). AllByRecursion (IsTold (batches_in q.log)) z.told) point_is (subst (λ (ts : List NodeTold). AllByRecursion (IsTold (log_batches y)) ts) x.same_told one.told);
        }

  all_turns : (names : AreNames name) (z : TimedSystem) (turns : List TimedTurn) → Is z → AllMayTurnTimed options name z turns → Is (fold (timed_turned options) z turns)
  all_turns names z [] b a = b
  all_turns names z (turn ∷ turns) b (here, a) = all_turns names (timed_turned options z turn) turns (turns_one z b names turn here) a

  first_is : (settings : ℕ → LinkSettings) → Is (first_timed settings)
  first_is settings =
      beside_of image_bytes (IsTurned options (λ k. fresh_node) []) name (timed_start settings) (λ k. []) no_run
      (record { turns = []; may = tt; network = refl; same_daemons = refl; same_told = refl }) (first_network image_bytes) (first_keeps name settings)

pub timed_daemons_say_one_log : TimedDaemonsSayOneLog
timed_daemons_say_one_log options name settings turns names may =
    says options name (fold (timed_turned options) (first_timed settings) turns) (all_turns options name names (first_timed settings) turns (first_is options name settings) may)
