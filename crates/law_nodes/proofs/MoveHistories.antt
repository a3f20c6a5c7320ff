-- Each move makes of the nodes what its events make of them.
use Rattle.std.proofs.Common.{◌≡◌, ◌∙◌, sym, subst, ℕ, zero, suc, ℤ, pos, ◌+◌, Bool, true, false, cond, List, [], ◌∷◌, ◌++◌, length, map, set, refl, ap}
use Rattle.std.specs.Prelude.{Option, Some, None, Result, Ok, Err, fold, int_lt, is_some, nat_lt, not, option_to_list, replicate, ◌==◌}
use Rattle.std.specs.List.{slice_get}
use Rattle.std.specs.Option.{option_map_or}
use Rattle.std.specs.Ordering.{int_eq}
use Rattle.std.specs.Result.{result_unwrap_or}
use Rattle.std.proofs.lemmas.List.{append-nil}
use Rattle.kr_batch.specs.declared.Batch.{Batch}
use Rattle.kr_batch.specs.declared.fault.BatchFault.{BatchFault}
use Rattle.kr_batch.specs.BatchBytes.{batch_bytes}
use Rattle.kr_batch.specs.Reading.{batch_of}
use Rattle.kr_calls.specs.declared.calls.Ask.TheVariants as asks
use Rattle.kr_calls.specs.declared.events.Event.{Event}
use Rattle.kr_calls.specs.declared.events.Event.TheVariants as events
use Rattle.kr_calls.specs.declared.events.Reason.{Reason}
use Rattle.kr_defs.specs.declared.ill.Ill.{Ill}
use Rattle.kr_defs.specs.declared.options.Options.{Options}
use Rattle.kr_defs.specs.Guard.{and_then}
use Rattle.kr_defs.specs.Image.{Image}
use Rattle.kr_defs.specs.LogStates.{first_ill_at}
use Rattle.kr_defs.proofs.Tests.{Gives, gives_done, gives_refuse, some_is}
use Rattle.kr_snapshot.specs.declared.fault.ImageFault.{ImageFault}
use Rattle.kr_snapshot.specs.ImageText.{image_text}
use Rattle.kr_snapshot.specs.Reading.{image_of}
use Rattle.kr_model.specs.Batch.{after_batch, batch, batch_or, end_of, take_batch, unless_ill}
use Rattle.kr_model.specs.Events.{happens, with_next_number}
use Rattle.kr_model.specs.Load.{after_load, image_or, load, take_image}
use Rattle.kr_model.specs.Reasons as reasons
use Rattle.kr_model.specs.Reasons.{led_epoch}
use Rattle.kr_model.specs.World.{State, image_of_closed, is_far, state_of_tip, tip_of}
use Rattle.law_nodes.specs.declared.moves.Move.{Move}
use Rattle.law_nodes.specs.declared.moves.Move.TheVariants as moves
use Rattle.law_nodes.specs.declared.moves.MoveFault.{MoveFault}
use Rattle.law_nodes.specs.declared.moves.MoveFault.TheVariants as faults
use Rattle.law_nodes.specs.Histories.{AllRead, NodeEvent, NodesStand, ReadsMove, events_after, events_at, events_by, move_events}
use Rattle.law_nodes.specs.Moves as table
use Rattle.law_nodes.specs.Moves.{after_arrival, after_election, after_move, closed_end_of, committed_end, feed_next, if_node, length_of, load_on, move_outcome, on_node, on_standby, put_node, run, settle_first, while_leading, with_event}
use Rattle.law_nodes.specs.Nodes.{Run, RunNode, after_event, at_own_end, first_run, fresh_node, told_of}
use Rattle.law_nodes.specs.OneList.{batch_from}
use Rattle.law_nodes.proofs.Histories.{IsPast, Stand, comes_one, in_two, none_takes, none_waiting, on_by, same_past, takes_from, takes_one, takes_then}
use Rattle.law_nodes.proofs.Steps.{set_leading}

-- ---- cases of an answer

module _ (H : Result Run MoveFault → Type 0) (err : (fault : MoveFault) → H (Err fault)) where
  when : (b : Bool) (fault : MoveFault) (y : Result Run MoveFault) → (b ≡ false → H y) → H (cond b (Err fault) y)
  when true fault y g = err fault
  when false fault y g = g refl

  there_by : (r : Run) (k : ℕ) (next : RunNode → Result Run MoveFault) (o : Option RunNode) → ((n : RunNode) → o ≡ Some n → H (next n)) → H (if_node r k o next)
  there_by r k next None h = err (faults.NoNode k (length r.nodes))
  there_by r k next (Some n) h = h n refl

  there : (r : Run) (k : ℕ) (next : RunNode → Result Run MoveFault) → ((n : RunNode) → slice_get r.nodes k ≡ Some n → H (next n)) → H (on_node r k next)
  there r k next h = there_by r k next (slice_get r.nodes k) h

  standby : (k : ℕ) (o : Option ℤ) (x : Result Run MoveFault) → (o ≡ None → H x) → H (on_standby k o x)
  standby k None x h = h refl
  standby k (Some epoch) x h = err (faults.NotStandby k)

  leads : (k : ℕ) (o : Option ℤ) (next : ℤ → Result Run MoveFault) → ((epoch : ℤ) → o ≡ Some epoch → H (next epoch)) → H (while_leading k o next)
  leads k None next h = err (faults.NotLeading k)
  leads k (Some epoch) next h = h epoch refl

-- ---- what comes leaves a node on standby

abbrev SameLead : State → State → Type 0
SameLead s after = after.world.leading ≡ s.world.leading

ill_lead : (s : State) (b : Batch) (o : Option (ℤ × Ill)) → Gives (SameLead s) (unless_ill o (after_batch s b))
ill_lead s b None = gives_done (SameLead s) (after_batch s b) refl
ill_lead s b (Some (place, cause)) = λ after is. absurd cc

batch_lead : (s : State) (b : Batch) → Gives (SameLead s) (take_batch s b)
batch_lead s b =
    let P = SameLead s in
    gives_refuse P (reasons.gap (pos s.world.committed) b.base) (not (int_eq b.base (pos s.world.committed))) _ (λ _. gives_refuse P (reasons.exhausted (end_of b)) (is_far (end_of b)) _ (λ _.
    ill_lead s b (first_ill_at (state_of_tip s) (tip_of s) b.items)))

image_lead : (s : State) (place : ℕ) (image : Image) → Gives (SameLead s) (take_image s (pos place, image))
image_lead s place image =
    let P = SameLead s in
    gives_refuse P (reasons.older_image (pos place) (pos s.world.committed)) (int_lt (pos place) (pos s.world.committed)) _ (λ _. gives_refuse P (reasons.exhausted (pos place)) (is_far (pos place)) _ (λ _.
    gives_done P (after_load s place image) refl))

arrival_lead : (n : RunNode) (q : Result State Reason) → Gives (SameLead n.state) q → (after_arrival n q).state.world.leading ≡ n.state.world.leading
arrival_lead n (Ok after) gives = gives after refl
arrival_lead n (Err reason) gives = refl

-- a batch that is read back comes as it is
batch_comes : (options : Options) (n : RunNode) (b : Batch) → n.state.world.leading ≡ None → batch_of (batch_bytes b) ≡ Ok b
    → (after_arrival n (take_batch n.state b)).state ≡ happens options n.state (events.Batch (batch_bytes b))
batch_comes options n b none reads =
    let s = n.state in
    let same : batch s (batch_bytes b) ≡ take_batch s b =
    ap (λ (o : Option ℤ). cond (is_some o) (Err (reasons.already_leading o)) (and_then (batch_or (batch_of (batch_bytes b))) (take_batch s))) none
    ∙ ap (λ (q : Result Batch BatchFault). and_then (batch_or q) (take_batch s)) reads in
    ap (λ (q : Result State Reason). with_next_number (result_unwrap_or q s)) (sym same)

image_comes : (options : Options) (n : RunNode) (place : ℕ) (image : Image) → n.state.world.leading ≡ None → image_of (image_text (pos place) image) ≡ Ok (pos place, image)
    → (after_arrival n (take_image n.state (pos place, image))).state ≡ happens options n.state (events.Load (image_text (pos place) image))
image_comes options n place image none reads =
    let s = n.state in
    let bytes = image_text (pos place) image in
    let same : load s bytes ≡ take_image s (pos place, image) =
    ap (λ (o : Option ℤ). cond (is_some o) (Err (reasons.already_leading o)) (and_then (image_or (image_of bytes)) (take_image s))) none
    ∙ ap (λ (q : Result (ℤ × Image) ImageFault). and_then (image_or q) (take_image s)) reads in
    ap (λ (q : Result State Reason). with_next_number (result_unwrap_or q s)) (sym same)

-- ---- moves

module _ (options : Options) (r : Run) (past : ℕ → List Event) (h : Stand options r past) where
  abbrev Holds : Move → Result Run MoveFault → Type 0
  Holds m (Ok next) = Stand options next (on_by options past (move_events r m))
  Holds m (Err fault) = Unit {0}

  no : (m : Move) (fault : MoveFault) → Holds m (Err fault)
  no m fault = tt

  -- by the events that they are
  from_events : (m : Move) (next : Run) (made : List NodeEvent) → move_events r m ≡ made → Stand options next (on_by options past made) → Stand options next (on_by options past (move_events r m))
  from_events m next made is s = subst (λ (es : List NodeEvent). Stand options next (on_by options past es)) (sym is) s

  idle : (k : ℕ) (n : RunNode) → slice_get r.nodes k ≡ Some n → n.state.world.leading ≡ None → n.waiting ≡ []
  idle k n is none = none_waiting options n (past k) (h.nodes k n is) none

  feeds : (k : ℕ) (n : RunNode) → slice_get r.nodes k ≡ Some n → ReadsMove r (moves.Feed k) → n.state.world.leading ≡ None → (o : Option Batch) → batch_from (committed_end n) r.list ≡ o → Holds (moves.Feed k) (feed_next r k n o)
  feeds k n is reads none None found = tt
  feeds k n is reads none (Some b) found =
      let event = events.Batch (batch_bytes b) in
      let m = after_arrival n (take_batch n.state b) in
      let same = batch_comes options n b none (reads n b is found) in
      from_events (moves.Feed k) (put_node r k m) ((k, event) ∷ [])
      (ap (λ (o : Option RunNode). option_map_or (λ (x : RunNode). map (λ (c : Batch). (k, events.Batch (batch_bytes c))) (option_to_list (batch_from (committed_end x) r.list))) o []) is
      ∙ ap (λ (o : Option Batch). map (λ (c : Batch). (k, events.Batch (batch_bytes c))) (option_to_list o)) found)
      (comes_one options r past h k n m is event (idle k n is none) refl refl (idle k n is none) same (arrival_lead n (take_batch n.state b) (batch_lead n.state b) ∙ none) (put_node r k m) refl refl)

  at_there : (k : ℕ) (n : RunNode) (next : RunNode → List NodeEvent) → slice_get r.nodes k ≡ Some n → events_at r k next ≡ next n
  at_there k n next is = ap (λ (o : Option RunNode). option_map_or next o []) is

  pub moved : (m : Move) → ReadsMove r m → Holds m (move_outcome options r m)
  moved (moves.Feed k) reads =
      let m = moves.Feed k in
      there (Holds m) (no m) r k (λ n. table.feed r k n) (λ n is. standby (Holds m) (no m) k n.state.world.leading _ (λ none.
      when (Holds m) (no m) (committed_end n == length_of r) (faults.NothingNew (pos (committed_end n))) _ (λ _. feeds k n is reads none (batch_from (committed_end n) r.list) refl)))
  moved (moves.Elect k epoch now) reads =
      let m = moves.Elect k epoch now in
      there (Holds m) (no m) r k (λ n. table.elect options r k n epoch now) (λ n is. standby (Holds m) (no m) k n.state.world.leading _ (λ none.
      when (Holds m) (no m) (not (int_lt r.elected epoch)) (faults.OldEpoch epoch r.elected) _ (λ _.
      when (Holds m) (no m) (not (committed_end n == length_of r)) (faults.Behind (pos (committed_end n)) (pos (length_of r))) _ (λ _.
      let event = events.Lead epoch (pos (committed_end n)) now in
      from_events m (after_election options r k (at_own_end n) epoch event) ((k, event) ∷ []) (at_there k n (λ x. (k, events.Lead epoch (pos (committed_end x)) now) ∷ []) is)
      (elected k n is event (after_election options r k (at_own_end n) epoch event) refl refl)))))
    where
      elected : (k : ℕ) (n : RunNode) → slice_get r.nodes k ≡ Some n → (event : Event) (next : Run) → next.nodes ≡ set r.nodes k (after_event options (at_own_end n) event) → next.told ≡ r.told ++ told_of options k (at_own_end n) event
          → Stand options next (on_by options past ((k, event) ∷ []))
      elected k n is event = takes_from options r past h k n (at_own_end n) is event refl refl
  moved (moves.Ask k client now call) reads =
      let m = moves.Ask k client now call in
      let event = events.Request client now (asks.Call call) in
      there (Holds m) (no m) r k (λ n. Ok (with_event options r k n event)) (λ n is. takes_one options r past h k n is event (with_event options r k n event) refl refl)
  moved (moves.Tick k now) reads =
      let m = moves.Tick k now in
      there (Holds m) (no m) r k (λ n. Ok (with_event options r k n (events.Tick now))) (λ n is. takes_one options r past h k n is (events.Tick now) (with_event options r k n (events.Tick now)) refl refl)
  moved (moves.Settle k) reads =
      let m = moves.Settle k in
      there (Holds m) (no m) r k (λ n. table.settle r k n) (λ n is. leads (Holds m) (no m) k n.state.world.leading _ (λ epoch led.
      when (Holds m) (no m) (not (int_eq epoch r.elected)) (faults.NotLatest epoch r.elected) _ (λ _. settles k n is n.unsettled)))
    where
      settles : (k : ℕ) (n : RunNode) → slice_get r.nodes k ≡ Some n → (bs : List Batch) → Holds (moves.Settle k) (settle_first r k n bs)
      settles k n is [] = tt
      settles k n is (b ∷ bs) =
          none_takes options r past h k n (record n { settled = n.settled + length b.items; unsettled = bs }) is refl refl
          (record (put_node r k (record n { settled = n.settled + length b.items; unsettled = bs })) { list = r.list ++ b ∷ [] }) refl refl
  moved (moves.Tell k) reads =
      let m = moves.Tell k in
      there (Holds m) (no m) r k (λ n. table.tell options r k n) (λ n is. leads (Holds m) (no m) k n.state.world.leading _ (λ epoch led.
      when (Holds m) (no m) (not (nat_lt (committed_end n) n.settled)) (faults.NothingNew (pos (committed_end n))) _ (λ _.
      let event = events.Commit epoch (pos n.settled) in
      from_events m (with_event options r k n event) ((k, event) ∷ [])
      (at_there k n (λ x. (k, events.Commit (led_epoch x.state.world.leading) (pos x.settled)) ∷ []) is ∙ ap (λ (o : Option ℤ). (k, events.Commit (led_epoch o) (pos n.settled)) ∷ []) led)
      (takes_one options r past h k n is event (with_event options r k n event) refl refl))))
  moved (moves.Depose k) reads =
      let m = moves.Depose k in
      there (Holds m) (no m) r k (λ n. table.depose options r k n) (λ n is. leads (Holds m) (no m) k n.state.world.leading _ (λ epoch led.
      let event = events.Lost epoch in
      from_events m (table.deposed options r k n event) ((k, event) ∷ [])
      (at_there k n (λ x. (k, events.Lost (led_epoch x.state.world.leading)) ∷ []) is ∙ ap (λ (o : Option ℤ). (k, events.Lost (led_epoch o)) ∷ []) led)
      (takes_then options r past h k n (at_own_end (after_event options n event)) is event refl refl (table.deposed options r k n event) refl refl)))
  moved (moves.Copy from to) reads =
      let m = moves.Copy from to in
      there (Holds m) (no m) r from (λ f. on_node r to (λ t. table.copy options r from to f t)) (λ f is_f.
      there (Holds m) (no m) r to (λ t. table.copy options r from to f t) (λ t is_t. standby (Holds m) (no m) to t.state.world.leading _ (λ none.
      when (Holds m) (no m) (nat_lt (closed_end_of f) (committed_end t)) (faults.OlderImage (pos (closed_end_of f)) (pos (committed_end t))) _ (λ _.
      copied from to f t is_f is_t none (reads f is_f)))))
    where
      copied : (from to : ℕ) (f t : RunNode) → slice_get r.nodes from ≡ Some f → slice_get r.nodes to ≡ Some t → t.state.world.leading ≡ None
          → image_of (image_text (pos (closed_end_of f)) (image_of_closed f.state)) ≡ Ok (pos (closed_end_of f), image_of_closed f.state)
          → Holds (moves.Copy from to) (load_on (with_event options r from f events.Image) to (pos (closed_end_of f), image_of_closed f.state))
      copied from to f t is_f is_t none reads =
          let between = with_event options r from f events.Image in
          let first = takes_one options r past h from f is_f events.Image between refl refl in
          let image = image_of_closed f.state in
          let end = closed_end_of f in
          let event = events.Load (image_text (pos end) image) in
          let H = Holds (moves.Copy from to) in
          there H (no (moves.Copy from to)) between to (λ n. Ok (put_node between to (after_arrival n (take_image n.state (pos end, image))))) (λ n is_n.
          let still : n.state.world.leading ≡ None = set_leading r.nodes from to f (after_event options f events.Image) n t is_f is_t is_n refl ∙ none in
          let m = after_arrival n (take_image n.state (pos end, image)) in
          let quiet = none_waiting options n (on_by options past ((from, events.Image) ∷ []) to) (first.nodes to n is_n) still in
          from_events (moves.Copy from to) (put_node between to m) ((from, events.Image) ∷ (to, event) ∷ [])
          (at_there from f (λ x. (from, events.Image) ∷ (to, events.Load (image_text (pos (closed_end_of x)) (image_of_closed x.state))) ∷ []) is_f)
          (in_two options (put_node between to m) past ((from, events.Image) ∷ []) ((to, event) ∷ [])
          (comes_one options between (on_by options past ((from, events.Image) ∷ [])) first to n m is_n event quiet refl refl quiet (image_comes options n end image still reads)
          (arrival_lead n (take_image n.state (pos end, image)) (image_lead n.state end image) ∙ still) (put_node between to m) refl refl)))

-- ---- all moves

module _ (options : Options) where
  stand_by : (r : Run) (past : ℕ → List Event) (m : Move) (q : Result Run MoveFault) → (h : Stand options r past) → Holds options r past h m q
      → Stand options (result_unwrap_or q r) (on_by options past (events_by q (move_events r m)))
  stand_by r past m (Ok next) h then = then
  stand_by r past m (Err fault) h then = same_past options r past (on_by options past []) (λ j. sym (append-nil (past j))) h

  stands_on : (ms : List Move) (r : Run) (past : ℕ → List Event) → Stand options r past → AllRead options r ms → Stand options (fold (after_move options) r ms) (on_by options past (events_after options r ms))
  stands_on [] r past h reads = same_past options r past (on_by options past []) (λ j. sym (append-nil (past j))) h
  stands_on (m ∷ ms) r past h reads =
      let made = events_by (move_outcome options r m) (move_events r m) in
      in_two options (fold (after_move options) r (m ∷ ms)) past made (events_after options (after_move options r m) ms)
      (stands_on ms (after_move options r m) (on_by options past made) (stand_by r past m (move_outcome options r m) h (moved options r past h m reads.0)) reads.1)

  first_nodes : (count : ℕ) (j : ℕ) (n : RunNode) → slice_get (replicate count fresh_node) j ≡ Some n → IsPast options n []
  first_nodes zero j n is = absurd cc
  first_nodes (suc count) zero n is = subst (λ x. IsPast options x []) (some_is fresh_node n is) (record { state_is = refl; writes = refl })
  first_nodes (suc count) (suc j) n is = first_nodes count j n is

  first_stand : (count : ℕ) → Stand options (first_run count) (λ j. [])
  first_stand count = record { nodes = first_nodes count; told = λ j. refl }

pub nodes_stand : NodesStand
nodes_stand options count ms reads k n is =
    let s = stands_on options ms (first_run count) (λ j. []) (first_stand options count) reads in
    let p = s.nodes k n is in
    record { state_is = p.state_is; writes = p.writes; told = s.told k }
