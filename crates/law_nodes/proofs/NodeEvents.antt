-- What an event makes of a node is what it makes of a controller.
use Rattle.std.proofs.Common.{◌≡◌, ◌∙◌, sym, ℕ, ℤ, pos, negsuc, true, false, cond, List, [], ◌∷◌, ◌++◌, length, map, refl, ap}
use Rattle.std.specs.Prelude.{Result, Ok, Err, filter, not, int_lt, ◌==◌}
use Rattle.std.specs.List.{flat_map}
use Rattle.std.specs.Result.{result_unwrap_or}
use Rattle.std.proofs.lemmas.List.{append-nil, map-append}
use Rattle.std.proofs.lemmas.List.Elements.{filter-append}
use Rattle.kr_batch.specs.declared.Batch.{Batch}
use Rattle.kr_batch.specs.BatchBytes.{batch_bytes}
use Rattle.kr_calls.specs.declared.calls.Ask.TheVariants as ask
use Rattle.kr_calls.specs.declared.events.Event.{Event}
use Rattle.kr_calls.specs.declared.events.Event.TheVariants as events
use Rattle.kr_calls.specs.declared.events.Output.{Output}
use Rattle.kr_calls.specs.declared.events.Output.TheVariants as given
use Rattle.kr_calls.specs.declared.events.Reason.{Reason}
use Rattle.kr_defs.specs.declared.options.Options.{Options}
use Rattle.kr_defs.specs.declared.record.Record.{Record}
use Rattle.kr_model.specs.declared.writes.Write.{Write}
use Rattle.kr_model.specs.Events.{at_time_of, outcome, with_next_number}
use Rattle.kr_model.specs.Outputs.{answers_in, answers_now, append, append_fencings, appends, due_reply, if_accepted, images, is_open, is_open_in, next_batch, outputs_by, writes_of}
use Rattle.kr_model.specs.Request.{decision, is_decided}
use Rattle.kr_model.specs.Tick.{fence, fencing_of, lapsed_contacts}
use Rattle.kr_model.specs.Lead.{giving_up, taking_over}
use Rattle.kr_model.specs.World.{State, World, closed_of, image_of_tip}
use Rattle.law_nodes.specs.NodeEvents.{NodesTakeEvents, ActsAsController, is_reply, as_output, writes_in}
use Rattle.law_nodes.specs.Nodes.{RunNode, Waiting, after_by, batch_for, batches_of, fencing_batches, tells_by, told_now, told_write, waits_in, writes_with}
use Rattle.law_nodes.specs.OneList.{list_items}

-- ---- batches

abbrev appended : Batch → Output
appended b = given.Append (batch_bytes b)

one_appended : (s : State) (records : List Record) → append s records ≡ map appended (batch_for s records)
one_appended s records =
    elim (length records == 0) as (λ b. cond b [] (appended (next_batch s records) ∷ []) ≡ map appended (cond b [] (next_batch s records ∷ []))) [
      | true ↦ refl
      | false ↦ refl
    ]

fencings_appended : (options : Options) (brokers : List ℤ) (s : State) → append_fencings options s brokers ≡ map appended (fencing_batches options s brokers)
fencings_appended options [] s = refl
fencings_appended options (broker ∷ brokers) s =
    let records = fencing_of options (image_of_tip s) broker in
    ap (λ (os : List Output). os ++ append_fencings options (fence options s broker) brokers) (one_appended s records)
    ∙ (ap (λ (os : List Output). map appended (batch_for s records) ++ os) (fencings_appended options brokers (fence options s broker))
    ∙ sym (map-append appended (batch_for s records) (fencing_batches options (fence options s broker) brokers)))

all_appended : (options : Options) (s : State) (event : Event) → appends options s event ≡ map appended (batches_of options s event)
all_appended options s (events.Lead epoch next now) = one_appended (taking_over s epoch next) (giving_up (taking_over s epoch next).world)
all_appended options s (events.Commit epoch end) = refl
all_appended options s (events.Lost epoch) = refl
all_appended options s (events.Batch bytes) = refl
all_appended options s (events.Load bytes) = refl
all_appended options s (events.Tick now) = fencings_appended options (lapsed_contacts options s) s
all_appended options s (events.Request client now (ask.Call call)) =
    let records = (decision options s call.request).records in
    elim (is_decided s.world (ask.Call call)) as (λ b. cond b (append s records) [] ≡ map appended (cond b (batch_for s records) [])) [
      | true ↦ one_appended s records
      | false ↦ refl
    ]
all_appended options s (events.Request client now (ask.Bare correlation fault)) = refl
all_appended options s events.Image = refl

no_reply : (bs : List Batch) → filter is_reply (map appended bs) ≡ []
no_reply [] = refl
no_reply (b ∷ bs) = no_reply bs

no_image_reply : (s : State) (event : Event) → filter is_reply (images s event) ≡ []
no_image_reply s (events.Lead epoch next now) = refl
no_image_reply s (events.Commit epoch end) = refl
no_image_reply s (events.Lost epoch) = refl
no_image_reply s (events.Batch bytes) = refl
no_image_reply s (events.Load bytes) = refl
no_image_reply s (events.Tick now) = refl
no_image_reply s (events.Request client now ask) = refl
no_image_reply s events.Image = refl

-- ---- replies

now_replied : (k : ℕ) (os : List Output) → filter is_reply os ≡ map as_output (flat_map (told_now k) os)
now_replied k [] = refl
now_replied k (given.Append bytes ∷ os) = now_replied k os
now_replied k (given.Reply client correlation reply ∷ os) = ap (λ (rest : List Output). given.Reply client correlation reply ∷ rest) (now_replied k os)
now_replied k (given.Refused event reason ∷ os) = now_replied k os
now_replied k (given.Image bytes ∷ os) = now_replied k os

write_replied : (k end : ℕ) (w : Waiting) → due_reply (pos end) w.write ≡ as_output (told_write k end w)
write_replied k end w =
    elim (int_lt (pos end) w.write.need) as (λ b. given.Reply w.write.client w.write.correlation (cond b w.write.refusal w.write.reply)
    ≡ as_output (cond b (record { node = k; client = w.write.client; correlation = w.write.correlation; place = negsuc 0; items = []; reply = w.write.refusal }) (record { node = k; client = w.write.client; correlation = w.write.correlation; place = w.write.decided.place; items = w.items; reply = w.write.reply }))) [
      | true ↦ refl
      | false ↦ refl
    ]

all_replied : (k : ℕ) (w : World) (ws : List Waiting) → filter is_reply (answers_in w (writes_in ws)) ≡ map as_output (map (told_write k (closed_of w)) (filter (λ x. not (waits_in w x)) ws))
all_replied k w [] = refl
all_replied k w (x ∷ ws) =
    elim (not (waits_in w x)) as (λ b. filter is_reply (map (due_reply (pos (closed_of w))) (cond b (x.write ∷ filter (λ y. not (is_open w.leading (pos (closed_of w)) y)) (writes_in ws)) (filter (λ y. not (is_open w.leading (pos (closed_of w)) y)) (writes_in ws))))
    ≡ map as_output (map (told_write k (closed_of w)) (cond b (x ∷ filter (λ y. not (waits_in w y)) ws) (filter (λ y. not (waits_in w y)) ws)))) [
      | true ↦ ap (λ (o : Output). o ∷ filter is_reply (answers_in w (writes_in ws))) (write_replied k (closed_of w) x) ∙ ap (λ (os : List Output). as_output (told_write k (closed_of w) x) ∷ os) (all_replied k w ws)
      | false ↦ all_replied k w ws
    ]

-- ---- writes

module _ (items : Write → Waiting) (same : (w : Write) → (items w).write ≡ w) where
  with_items : (ws : List Write) → writes_in (map items ws) ≡ ws
  with_items [] = refl
  with_items (w ∷ ws) = ap (λ (v : Write). v ∷ writes_in (map items ws)) (same w) ∙ ap (λ (vs : List Write). w ∷ vs) (with_items ws)

some_writes : (w : World) (ws : List Waiting) → writes_in (filter (waits_in w) ws) ≡ filter (is_open_in w) (writes_in ws)
some_writes w [] = refl
some_writes w (x ∷ ws) =
    elim (waits_in w x) as (λ b. writes_in (cond b (x ∷ filter (waits_in w) ws) (filter (waits_in w) ws)) ≡ cond b (x.write ∷ filter (is_open_in w) (writes_in ws)) (filter (is_open_in w) (writes_in ws))) [
      | true ↦ ap (λ (vs : List Write). x.write ∷ vs) (some_writes w ws)
      | false ↦ some_writes w ws
    ]

module _ (options : Options) (k : ℕ) (n : RunNode) (event : Event) where
  abbrev s : State
  s = at_time_of n.state event

  writes_are : writes_in (writes_with options s n.waiting event) ≡ writes_in n.waiting ++ writes_of options s event
  writes_are =
      let new : Write → Waiting = λ write. record { write = write; items = list_items (batches_of options s event) } in
      map-append (λ (w : Waiting). w.write) n.waiting (map new (writes_of options s event))
      ∙ ap (λ (vs : List Write). writes_in n.waiting ++ vs) (with_items new (λ w. refl) (writes_of options s event))

  state_is : (q : Result State Reason) → (after_by options n s event q).state ≡ with_next_number (result_unwrap_or q s)
  state_is (Ok after) = refl
  state_is (Err reason) = refl

  writes_then : filter (is_open_in n.state.world) (writes_in n.waiting) ≡ writes_in n.waiting → (q : Result State Reason)
      → writes_in (after_by options n s event q).waiting ≡ filter (is_open_in (with_next_number (result_unwrap_or q s)).world) (writes_in n.waiting ++ if_accepted q (writes_of options s event))
  writes_then undue (Ok after) = some_writes after.world (writes_with options s n.waiting event) ∙ ap (λ (vs : List Write). filter (is_open_in after.world) vs) writes_are
  writes_then undue (Err reason) = sym (ap (λ (vs : List Write). filter (is_open_in n.state.world) vs) (append-nil (writes_in n.waiting)) ∙ undue)

  told_then : (q : Result State Reason) → filter is_reply (outputs_by options s (writes_in n.waiting) event q) ≡ map as_output (tells_by options k n s event q)
  told_then (Err reason) = refl
  told_then (Ok after) =
      let now = answers_now options s event in
      let due = answers_in after.world (writes_in n.waiting ++ writes_of options s event) in
      let ws = writes_with options s n.waiting event in
      let given = appends options s event in
      let shown = images s event in
      let told = map as_output (flat_map (told_now k) now) in
      let none : filter is_reply (given ++ shown) ≡ [] =
      filter-append is_reply given shown
      ∙ (ap (λ (os : List Output). filter is_reply os ++ filter is_reply shown) (all_appended options s event)
      ∙ (ap (λ (os : List Output). os ++ filter is_reply shown) (no_reply (batches_of options s event)) ∙ no_image_reply s event)) in
      let front : filter is_reply ((given ++ shown) ++ now) ≡ told =
      filter-append is_reply (given ++ shown) now ∙ (ap (λ (os : List Output). os ++ filter is_reply now) none ∙ now_replied k now) in
      filter-append is_reply ((given ++ shown) ++ now) due
      ∙ (ap (λ (os : List Output). os ++ filter is_reply due) front
      ∙ (ap (λ (vs : List Write). told ++ filter is_reply (answers_in after.world vs)) (sym writes_are)
      ∙ (ap (λ (os : List Output). told ++ os) (all_replied k after.world ws)
      ∙ sym (map-append as_output (flat_map (told_now k) now) (map (told_write k (closed_of after.world)) (filter (λ x. not (waits_in after.world x)) ws))))))

  pub takes : ActsAsController options k n event
  takes = record {
    state = state_is (outcome options s event);
    writes = λ undue. writes_then undue (outcome options s event);
    batches = all_appended options s event;
    told = told_then (outcome options s event);
  }

pub nodes_take_events : NodesTakeEvents
nodes_take_events options k n event = takes options k n event
