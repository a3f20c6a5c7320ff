-- Each node stands for the events of its moves, and what it told are the replies among their outputs.
use Rattle.std.proofs.Common.{◌≡◌, ◌∙◌, sym, subst, ℕ, zero, suc, ℤ, pos, Bool, true, false, cond, List, [], ◌∷◌, ◌++◌, map, set, refl, ap, arith}
use Rattle.std.specs.Prelude.{Option, Some, None, Result, Ok, Err, filter, flat_map, int_lt, not, ◌==◌, ◌&&◌}
use Rattle.std.specs.List.{AllByRecursion, slice_get}
use Rattle.std.proofs.lemmas.Bool.Decides.{nat_tests}
use Rattle.std.proofs.lemmas.List.{append-nil, append_assoc, map-append}
use Rattle.std.proofs.lemmas.List.Concat.{flat_map-append}
use Rattle.std.proofs.lemmas.List.Elements.{filter-append}
use Rattle.kr_calls.specs.declared.events.Event.{Event}
use Rattle.kr_calls.specs.declared.events.Output.{Output}
use Rattle.kr_calls.specs.declared.events.Output.TheVariants as given
use Rattle.kr_calls.specs.declared.events.Reason.{Reason}
use Rattle.kr_defs.specs.declared.options.Options.{Options}
use Rattle.kr_defs.proofs.Tests.{some_is}
use Rattle.kr_model.specs.declared.writes.Write.{Write}
use Rattle.kr_model.specs.Events.{at_time_of, happens, outcome, state}
use Rattle.kr_model.specs.Outputs.{answers_now, is_open_in, new_writes, outputs, outputs_after, outputs_of, waiting_after, waiting_writes, writes_from, writes_of}
use Rattle.kr_model.specs.World.{State, World, leads_in, start, closed_of}
use Rattle.kr_model.proofs.OrderlyStates.{holds, waiting_then}
use Rattle.kr_model.proofs.WaitingWrites.{state_more}
use Rattle.law_nodes.specs.Histories.{NodeEvent, of_node, replies_over, told_of_node}
use Rattle.law_nodes.specs.NodeEvents.{as_output, is_reply, writes_in}
use Rattle.law_nodes.specs.Nodes.{NodeTold, Run, RunNode, Waiting, after_event, batches_of, tells_by, told_due, told_now, told_of, told_without_place, told_write, waits_in, writes_with}
use Rattle.law_nodes.specs.OneList.{list_items}
use Rattle.law_nodes.proofs.NodeEvents.{takes}

-- ---- lists by the numbers of nodes

same_number : (k : ℕ) → (k == k) ≡ true
same_number k = grind (arith, nat_tests)

other_number : (j k : ℕ) → (suc j == suc k) ≡ false → (j == k) ≡ false
other_number j k is = grind (arith, nat_tests)

no_zero : (k : ℕ) → (zero == suc k) ≡ false
no_zero k = grind (arith, nat_tests)

zero_no : (k : ℕ) → (suc k == zero) ≡ false
zero_no k = grind (arith, nat_tests)

more_number : (j k : ℕ) → (j == k) ≡ false → (suc j == suc k) ≡ false
more_number j k is = grind (arith, nat_tests)

pub all_put : (P Q : ℕ → RunNode → Type 0) (ns : List RunNode) (k : ℕ) (m : RunNode) → ((j : ℕ) (x : RunNode) → (k == j) ≡ false → P j x → Q j x) → Q k m
    → ((j : ℕ) (x : RunNode) → slice_get ns j ≡ Some x → P j x) → (j : ℕ) (x : RunNode) → slice_get (set ns k m) j ≡ Some x → Q j x
all_put P Q [] k m others own h j x is = absurd cc
all_put P Q (n ∷ ns) zero m others own h zero x is = subst (Q zero) (some_is m x is) own
all_put P Q (n ∷ ns) zero m others own h (suc j) x is = others (suc j) x (no_zero j) (h (suc j) x is)
all_put P Q (n ∷ ns) (suc k) m others own h zero x is = others zero x (zero_no k) (h zero x is)
all_put P Q (n ∷ ns) (suc k) m others own h (suc j) x is =
    all_put (λ i y. P (suc i) y) (λ i y. Q (suc i) y) ns k m (λ i y e. others (suc i) y (more_number k i e)) own (λ i y. h (suc i) y) j x is

-- ---- events

own_event : (k : ℕ) (event : Event) → of_node k ((k, event) ∷ []) ≡ event ∷ []
own_event k event = ap (λ b. map (λ (e : NodeEvent). e.1) (cond b ((k, event) ∷ []) [])) (same_number k)

others_event : (k j : ℕ) (event : Event) → (k == j) ≡ false → of_node j ((k, event) ∷ []) ≡ []
others_event k j event is = ap (λ b. map (λ (e : NodeEvent). e.1) (cond b ((k, event) ∷ []) [])) is

of_both : (j : ℕ) (xs ys : List NodeEvent) → of_node j (xs ++ ys) ≡ of_node j xs ++ of_node j ys
of_both j xs ys =
    ap (λ (l : List NodeEvent). map (λ (e : NodeEvent). e.1) l) (filter-append (λ (e : NodeEvent). e.0 == j) xs ys)
    ∙ map-append (λ (e : NodeEvent). e.1) (filter (λ (e : NodeEvent). e.0 == j) xs) (filter (λ (e : NodeEvent). e.0 == j) ys)

-- ---- writes that wait are open

again_by : (p : Write → Bool) (x : Write) (xs : List Write) → filter p (filter p xs) ≡ filter p xs → (b : Bool) → p x ≡ b → filter p (cond b (x ∷ filter p xs) (filter p xs)) ≡ cond b (x ∷ filter p xs) (filter p xs)
again_by p x xs rest true is = ap (λ b. cond b (x ∷ filter p (filter p xs)) (filter p (filter p xs))) is ∙ ap (λ (l : List Write). x ∷ l) rest
again_by p x xs rest false is = rest

filter_again : (p : Write → Bool) (xs : List Write) → filter p (filter p xs) ≡ filter p xs
filter_again p [] = refl
filter_again p (x ∷ xs) = again_by p x xs (filter_again p xs) (p x) refl

none_open : (w : World) → w.leading ≡ None → (ws : List Write) → filter (is_open_in w) ws ≡ []
none_open w none [] = refl
none_open w none (x ∷ ws) =
    ap (λ (o : Option ℤ). cond (leads_in o x.epoch && int_lt (pos (closed_of w)) x.need) (x ∷ filter (is_open_in w) ws) (filter (is_open_in w) ws)) none ∙ none_open w none ws

none_left : (ws : List Waiting) → writes_in ws ≡ [] → ws ≡ []
none_left [] is = refl
none_left (w ∷ ws) is = absurd cc

-- ---- what is told

told_both : (j : ℕ) (xs ys : List NodeTold) → map as_output (told_of_node j (xs ++ ys)) ≡ map as_output (told_of_node j xs) ++ map as_output (told_of_node j ys)
told_both j xs ys =
    ap (λ (l : List NodeTold). map as_output l) (filter-append (λ (t : NodeTold). t.node == j) xs ys)
    ∙ map-append as_output (told_of_node j xs) (told_of_node j ys)

-- all are of one node
abbrev AreOf : ℕ → List NodeTold → Type 0
AreOf k ts = AllByRecursion (λ (t : NodeTold). t.node ≡ k) ts

are_both : (k : ℕ) (xs ys : List NodeTold) → AreOf k xs → AreOf k ys → AreOf k (xs ++ ys)
are_both k [] ys h g = g
are_both k (x ∷ xs) ys h g = (h.0, are_both k xs ys h.1 g)

now_of : (k : ℕ) (os : List Output) → AreOf k (flat_map (told_now k) os)
now_of k [] = tt
now_of k (o ∷ os) = are_both k (told_now k o) (flat_map (told_now k) os) (one o) (now_of k os)
  where
    one : (p : Output) → AreOf k (told_now k p)
    one (given.Append bytes) = tt
    one (given.Reply client correlation reply) = (refl, tt)
    one (given.Refused event reason) = tt
    one (given.Image bytes) = tt

due_of : (k end : ℕ) (ws : List Waiting) → AreOf k (map (told_write k end) ws)
due_of k end [] = tt
due_of k end (w ∷ ws) = (
  elim (int_lt (pos end) w.write.need) as (λ b. (cond b (told_without_place k w.write.client w.write.correlation w.write.refusal) (record { node = k; client = w.write.client; correlation = w.write.correlation; place = w.write.decided.place; items = w.items; reply = w.write.reply })).node ≡ k) [
    | true ↦ refl
    | false ↦ refl
  ],
  due_of k end ws,
)

module _ (options : Options) (k : ℕ) (n : RunNode) (event : Event) where
  by_outcome : (q : Result State Reason) → AreOf k (tells_by options k n (at_time_of n.state event) event q)
  by_outcome (Ok after) =
      are_both k (flat_map (told_now k) (answers_now options (at_time_of n.state event) event)) (told_due k after.world (writes_with options (at_time_of n.state event) n.waiting event))
      (now_of k (answers_now options (at_time_of n.state event) event)) (due_of k (closed_of after.world) (filter (λ x. not (waits_in after.world x)) (writes_with options (at_time_of n.state event) n.waiting event)))
  by_outcome (Err reason) = tt

  told_of_own : AreOf k (told_of options k n event)
  told_of_own = by_outcome (outcome options (at_time_of n.state event) event)

all_own : (k : ℕ) (ts : List NodeTold) → AreOf k ts → told_of_node k ts ≡ ts
all_own k [] h = refl
all_own k (t ∷ ts) h = ap (λ b. cond b (t ∷ told_of_node k ts) (told_of_node k ts)) (ap (λ m. m == k) h.0 ∙ same_number k) ∙ ap (λ (l : List NodeTold). t ∷ l) (all_own k ts h.1)

none_own : (k j : ℕ) (ts : List NodeTold) → (k == j) ≡ false → AreOf k ts → told_of_node j ts ≡ []
none_own k j [] other h = refl
none_own k j (t ∷ ts) other h = ap (λ b. cond b (t ∷ told_of_node j ts) (told_of_node j ts)) (ap (λ m. m == j) h.0 ∙ other) ∙ none_own k j ts other h.1

-- ---- the outputs of one event more

module _ (options : Options) where
  outputs_on : (past before : List Event) (event : Event) → outputs_after options before (past ++ event ∷ []) ≡ outputs_after options before past ++ outputs_of options (state options (before ++ past)) (waiting_writes options (before ++ past)) event ∷ []
  outputs_on [] before event = ap (λ (es : List Event). outputs_of options (state options es) (waiting_writes options es) event ∷ []) (sym (append-nil before))
  outputs_on (e ∷ past) before event =
      ap (λ (l : List (List Output)). outputs_of options (state options before) (waiting_writes options before) e ∷ l)
      (outputs_on past (before ++ e ∷ []) event
      ∙ ap (λ (es : List Event). outputs_after options (before ++ e ∷ []) past ++ outputs_of options (state options es) (waiting_writes options es) event ∷ []) (append_assoc before (e ∷ []) past))

  replies_more : (past : List Event) (event : Event) → replies_over options (past ++ event ∷ []) ≡ replies_over options past ++ filter is_reply (outputs_of options (state options past) (waiting_writes options past) event)
  replies_more past event =
      let given = outputs_of options (state options past) (waiting_writes options past) event in
      ap (λ (l : List (List Output)). filter is_reply (flat_map (λ (o : List Output). o) l)) (outputs_on past [] event)
      ∙ (ap (λ (l : List Output). filter is_reply l) (flat_map-append (λ (o : List Output). o) (outputs options past) (given ∷ []) ∙ ap (λ (l : List Output). flat_map (λ (o : List Output). o) (outputs options past) ++ l) (append-nil given))
      ∙ filter-append is_reply (flat_map (λ (o : List Output). o) (outputs options past)) given)

  -- ---- one node

  pub record IsPast (n : RunNode) (past : List Event) : Type 0 where
    pub state_is : n.state ≡ state options past
    pub writes : writes_in n.waiting ≡ waiting_writes options past

  undue : (n : RunNode) (past : List Event) → IsPast n past → filter (is_open_in n.state.world) (writes_in n.waiting) ≡ writes_in n.waiting
  undue n past p =
      ap (λ (s : State). filter (is_open_in s.world) (writes_in n.waiting)) p.state_is
      ∙ (ap (λ (ws : List Write). filter (is_open_in (state options past).world) ws) p.writes
      ∙ (filter_again (is_open_in (state options past).world) (writes_from options start past) ∙ sym p.writes))

  -- on standby nothing waits
  pub none_waiting : (n : RunNode) (past : List Event) → IsPast n past → n.state.world.leading ≡ None → n.waiting ≡ []
  none_waiting n past p none = none_left n.waiting (sym (undue n past p) ∙ none_open n.state.world none (writes_in n.waiting))

  event_past : (k : ℕ) (n : RunNode) (past : List Event) (event : Event) → IsPast n past → IsPast (after_event options n event) (past ++ event ∷ [])
  event_past k n past event p =
      let t = takes options k n event in
      record {
        state_is = t.state ∙ (ap (λ (s : State). happens options s event) p.state_is ∙ sym (state_more options past event));
        writes =
            t.writes (undue n past p)
            ∙ (ap (λ (s : State). waiting_after options s (writes_in n.waiting) event) p.state_is
            ∙ (ap (λ (ws : List Write). waiting_after options (state options past) ws event) p.writes
            ∙ sym (waiting_then options past event (holds options past))));
      }

  -- what comes on standby, where nothing waits
  arrival_past : (n m : RunNode) (past : List Event) (event : Event) → IsPast n past → m.waiting ≡ [] → m.state ≡ happens options n.state event → m.state.world.leading ≡ None → IsPast m (past ++ event ∷ [])
  arrival_past n m past event p none is idle =
      let next : m.state ≡ happens options (state options past) event = is ∙ ap (λ (s : State). happens options s event) p.state_is in
      record {
        state_is = next ∙ sym (state_more options past event);
        writes =
            ap (λ (ws : List Waiting). writes_in ws) none
            ∙ sym (waiting_then options past event (holds options past)
            ∙ none_open (happens options (state options past) event).world (sym (ap (λ (s : State). s.world.leading) next) ∙ idle) (waiting_writes options past ++ new_writes options (state options past) event));
      }

-- ---- all nodes

module _ (options : Options) where
  pub record Stand (r : Run) (past : ℕ → List Event) : Type 0 where
    pub nodes : (j : ℕ) (n : RunNode) → slice_get r.nodes j ≡ Some n → IsPast options n (past j)
    pub told : (j : ℕ) → map as_output (told_of_node j r.told) ≡ replies_over options (past j)

  abbrev pub on_by : (ℕ → List Event) → List NodeEvent → ℕ → List Event
  on_by past made j = past j ++ of_node j made

  -- events in two parts
  pub same_past : (r : Run) (p q : ℕ → List Event) → ((j : ℕ) → p j ≡ q j) → Stand r p → Stand r q
  same_past r p q same s = record {
    nodes = λ j n is. subst (IsPast options n) (same j) (s.nodes j n is);
    told = λ j. s.told j ∙ ap (λ (l : List Event). replies_over options l) (same j);
  }

  pub in_two : (r : Run) (past : ℕ → List Event) (xs ys : List NodeEvent) → Stand r (on_by (on_by past xs) ys) → Stand r (on_by past (xs ++ ys))
  in_two r past xs ys = same_past r (on_by (on_by past xs) ys) (on_by past (xs ++ ys)) (λ j. append_assoc (past j) (of_node j xs) (of_node j ys) ∙ ap (λ (l : List Event). past j ++ l) (sym (of_both j xs ys)))

  -- none of its events
  none_more : (past : List Event) (made : List Event) → made ≡ [] → past ++ made ≡ past
  none_more past made none = ap (λ (l : List Event). past ++ l) none ∙ append-nil past

  module _ (r : Run) (past : ℕ → List Event) (h : Stand r past) where
    module _ (k : ℕ) (n : RunNode) (is : slice_get r.nodes k ≡ Some n) (event : Event) (m : RunNode) (told : List NodeTold) (own : AreOf k told) (p : IsPast options m (past k ++ event ∷ []))
        (replies : filter is_reply (outputs_of options n.state (writes_in n.waiting) event) ≡ map as_output told) where
      abbrev made : List NodeEvent
      made = (k, event) ∷ []

      own_told : map as_output (told_of_node k (r.told ++ told)) ≡ replies_over options (past k ++ of_node k made)
      own_told =
          let before = h.nodes k n is in
          told_both k r.told told
          ∙ (ap (λ (l : List Output). l ++ map as_output (told_of_node k told)) (h.told k)
          ∙ (ap (λ (l : List NodeTold). replies_over options (past k) ++ map as_output l) (all_own k told own)
          ∙ (ap (λ (l : List Output). replies_over options (past k) ++ l)
          (sym replies
          ∙ (ap (λ (s : State). filter is_reply (outputs_of options s (writes_in n.waiting) event)) before.state_is
          ∙ ap (λ (ws : List Write). filter is_reply (outputs_of options (state options (past k)) ws event)) before.writes))
          ∙ (sym (replies_more options (past k) event)
          ∙ ap (λ (l : List Event). replies_over options (past k ++ l)) (sym (own_event k event))))))

      told_at : (j : ℕ) (b : Bool) → (k == j) ≡ b → map as_output (told_of_node j (r.told ++ told)) ≡ replies_over options (past j ++ of_node j made)
      told_at j true same =
          let e : k ≡ j = grind (arith, nat_tests) in
          subst (λ i. map as_output (told_of_node i (r.told ++ told)) ≡ replies_over options (past i ++ of_node i made)) e own_told
      told_at j false other =
          told_both j r.told told
          ∙ (ap (λ (l : List NodeTold). map as_output (told_of_node j r.told) ++ map as_output l) (none_own k j told other own)
          ∙ (append-nil (map as_output (told_of_node j r.told))
          ∙ (h.told j
          ∙ ap (λ (l : List Event). replies_over options l) (sym (none_more (past j) (of_node j made) (others_event k j event other))))))

      pub one_more : (next : Run) → next.nodes ≡ set r.nodes k m → next.told ≡ r.told ++ told → Stand next (on_by past made)
      one_more next nodes told_is = record {
        nodes = λ j x at.
            all_put (λ i y. IsPast options y (past i)) (λ i y. IsPast options y (past i ++ of_node i made)) r.nodes k m
            (λ i y other q. subst (IsPast options y) (sym (none_more (past i) (of_node i made) (others_event k i event other))) q)
            (subst (λ (l : List Event). IsPast options m (past k ++ l)) (sym (own_event k event)) p)
            h.nodes j x (sym (ap (λ (l : List RunNode). slice_get l j) nodes) ∙ at);
        told = λ j. ap (λ (l : List NodeTold). map as_output (told_of_node j l)) told_is ∙ told_at j (k == j) refl;
      }

    -- a node takes an event
    pub takes_one : (k : ℕ) (n : RunNode) → slice_get r.nodes k ≡ Some n → (event : Event) (next : Run) → next.nodes ≡ set r.nodes k (after_event options n event) → next.told ≡ r.told ++ told_of options k n event
        → Stand next (on_by past ((k, event) ∷ []))
    takes_one k n is event =
        one_more k n is event (after_event options n event) (told_of options k n event) (told_of_own options k n event)
        (event_past options k n (past k) event (h.nodes k n is)) (takes options k n event).told

    pub takes_from : (k : ℕ) (n own : RunNode) → slice_get r.nodes k ≡ Some n → (event : Event) → own.state ≡ n.state → own.waiting ≡ n.waiting
        → (next : Run) → next.nodes ≡ set r.nodes k (after_event options own event) → next.told ≡ r.told ++ told_of options k own event → Stand next (on_by past ((k, event) ∷ []))
    takes_from k n own is event same waits =
        let p = h.nodes k n is in
        one_more k n is event (after_event options own event) (told_of options k own event) (told_of_own options k own event)
        (event_past options k own (past k) event (record { state_is = same ∙ p.state_is; writes = ap (λ (ws : List Waiting). writes_in ws) waits ∙ p.writes }))
        (ap (λ (s : State). filter is_reply (outputs_of options s (writes_in n.waiting) event)) (sym same)
        ∙ (ap (λ (ws : List Waiting). filter is_reply (outputs_of options own.state (writes_in ws) event)) (sym waits) ∙ (takes options k own event).told))

    -- the same as another node, of which state and writes are the same
    pub takes_then : (k : ℕ) (n m : RunNode) → slice_get r.nodes k ≡ Some n → (event : Event) → m.state ≡ (after_event options n event).state → m.waiting ≡ (after_event options n event).waiting
        → (next : Run) → next.nodes ≡ set r.nodes k m → next.told ≡ r.told ++ told_of options k n event → Stand next (on_by past ((k, event) ∷ []))
    takes_then k n m is event same waits =
        let p = event_past options k n (past k) event (h.nodes k n is) in
        one_more k n is event m (told_of options k n event) (told_of_own options k n event)
        (record { state_is = same ∙ p.state_is; writes = ap (λ (ws : List Waiting). writes_in ws) waits ∙ p.writes }) (takes options k n event).told

    -- a batch or an image comes, where nothing waits
    none_told : (k : ℕ) (n : RunNode) (event : Event) → n.waiting ≡ [] → answers_now options (at_time_of n.state event) event ≡ [] → writes_of options (at_time_of n.state event) event ≡ [] → told_of options k n event ≡ []
    none_told k n event none no_answers no_writes = by_q (outcome options (at_time_of n.state event) event)
      where
        by_q : (q : Result State Reason) → tells_by options k n (at_time_of n.state event) event q ≡ []
        by_q (Ok after) =
            ap (λ (os : List Output). flat_map (told_now k) os ++ told_due k after.world (writes_with options (at_time_of n.state event) n.waiting event)) no_answers
            ∙ (ap (λ (ws : List Waiting). told_due k after.world (ws ++ map (λ (w : Write). record { write = w; items = list_items (batches_of options (at_time_of n.state event) event) }) (writes_of options (at_time_of n.state event) event))) none
            ∙ ap (λ (ws : List Write). told_due k after.world (map (λ (w : Write). record { write = w; items = list_items (batches_of options (at_time_of n.state event) event) }) ws)) no_writes)
        by_q (Err reason) = refl

    pub comes_one : (k : ℕ) (n m : RunNode) → slice_get r.nodes k ≡ Some n → (event : Event) → n.waiting ≡ [] → answers_now options (at_time_of n.state event) event ≡ [] → writes_of options (at_time_of n.state event) event ≡ []
        → m.waiting ≡ [] → m.state ≡ happens options n.state event → m.state.world.leading ≡ None → (next : Run) → next.nodes ≡ set r.nodes k m → next.told ≡ r.told → Stand next (on_by past ((k, event) ∷ []))
    comes_one k n m is event none no_answers no_writes waits state_is idle next nodes told_is =
        one_more k n is event m [] tt
        (arrival_past options n m (past k) event (h.nodes k n is) waits state_is idle)
        ((takes options k n event).told ∙ ap (λ (l : List NodeTold). map as_output l) (none_told k n event none no_answers no_writes))
        next nodes (told_is ∙ sym (append-nil r.told))

    -- no event
    pub none_takes : (k : ℕ) (n m : RunNode) → slice_get r.nodes k ≡ Some n → m.state ≡ n.state → m.waiting ≡ n.waiting → (next : Run) → next.nodes ≡ set r.nodes k m → next.told ≡ r.told → Stand next (on_by past [])
    none_takes k n m is same waits next nodes told_is =
        let p = h.nodes k n is in
        record {
          nodes = λ j x at.
              all_put (λ i y. IsPast options y (past i)) (λ i y. IsPast options y (past i ++ [])) r.nodes k m
              (λ i y other q. subst (IsPast options y) (sym (append-nil (past i))) q)
              (subst (IsPast options m) (sym (append-nil (past k))) (record { state_is = same ∙ p.state_is; writes = ap (λ (ws : List Waiting). writes_in ws) waits ∙ p.writes }))
              h.nodes j x (sym (ap (λ (l : List RunNode). slice_get l j) nodes) ∙ at);
          told = λ j. ap (λ (l : List NodeTold). map as_output (told_of_node j l)) told_is ∙ (h.told j ∙ ap (λ (l : List Event). replies_over options l) (sym (append-nil (past j))));
        }
