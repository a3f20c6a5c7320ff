-- What is kept and told where an event's outputs are all handed out is what law_nodes says.
use Rattle.std.proofs.Common.{◌≡◌, ◌∙◌, sym, ℕ, ℤ, pos, true, List, [], ◌∷◌, ◌++◌, length, map, refl, ap, arith}
use Rattle.std.specs.Prelude.{Option, Result, Ok, Err, filter, not, option_to_list}
use Rattle.std.specs.List.{AllByRecursion, flat_map}
use Rattle.std.specs.Result.{result_unwrap_or}
use Rattle.std.proofs.lemmas.List.{append-nil, append_assoc, append_cancel_right, map-append}
use Rattle.std.proofs.lemmas.List.Filters.{length-filter_both}
use Rattle.std.proofs.lemmas.List.Sums.{fold-append}
use Rattle.kr_calls.specs.declared.events.Event.{Event}
use Rattle.kr_calls.specs.declared.events.Output.{Output}
use Rattle.kr_calls.specs.declared.events.Output.TheVariants as given
use Rattle.kr_calls.specs.declared.events.Reason.{Reason}
use Rattle.kr_defs.specs.declared.options.Options.{Options}
use Rattle.kr_defs.specs.declared.record.Item.{Item}
use Rattle.kr_model.specs.declared.writes.Told.{Told as Output_}
use Rattle.kr_model.specs.declared.writes.Write.{Write}
use Rattle.kr_model.specs.Engine.{Core, outputs_left, told_left, writes_in_order}
use Rattle.kr_model.specs.Events.{at_time_of, next_number}
use Rattle.kr_model.specs.Outputs.{answers, answers_now, appends, if_accepted, images, due_reply, is_open_in, outputs_by, told_alone as output_alone, told_answers, told_reply, writes_of}
use Rattle.kr_model.specs.World.{State, World, closed_of}
use Rattle.kr_model.proofs.LogEntries.{nothing_left}
use Rattle.law_nodes.specs.NodeEvents.{writes_in}
use Rattle.law_nodes.specs.Nodes.{RunNode, Waiting, after_by, batches_of, tells_by, told_due, told_now, waits_in, writes_with}
use Rattle.law_nodes.specs.OneList.{list_items}
use Rattle.law_nodes.proofs.NodeEvents.{takes}
use Rattle.kr_nodes.specs.declared.told.ToldReply.{ToldReply}
use Rattle.kr_nodes.specs.inner.Handing.{Handed, after_output, after_outputs}
use Rattle.kr_nodes.specs.Standing.{list_batch, told_as}
use Rattle.kr_nodes.proofs.Outputs.{IsCounted, all_appended, all_due, alone, items_in, no_image, now_replied}

module _ (options : Options) (k : ℕ) (n : RunNode) (event : Event) where
  abbrev pub at : State
  at = at_time_of n.state event

  -- the items of the write of the event
  abbrev pub new_items : Result State Reason → List (List Item)
  new_items q = if_accepted q (map (λ (w : Write). list_items (batches_of options at event)) (writes_of options at event))

  abbrev pub before : Result State Reason → List ToldReply → Handed
  before q told = record { unsettled = map list_batch n.unsettled; waiting = items_in n.waiting ++ new_items q; told = told }

  abbrev pub after : Result State Reason → List ToldReply → Handed
  after q told = record {
    unsettled = map list_batch (after_by options n at event q).unsettled;
    waiting = items_in (after_by options n at event q).waiting;
    told = told ++ map told_as (tells_by options k n at event q);
  }

  -- ---- what is handed out

  abbrev outputs_first : Result State Reason → List Output
  outputs_first (Ok s) = (appends options at event ++ images at event) ++ answers_now options at event
  outputs_first (Err reason) = given.Refused (next_number at.world.count) reason ∷ []

  abbrev world_then : Result State Reason → World
  world_then q = (result_unwrap_or q at).world

  abbrev held_then : Result State Reason → List Write
  held_then q = writes_in n.waiting ++ if_accepted q (writes_of options at event)

  abbrev pub told_then : Result State Reason → List Output_
  told_then q = map output_alone (outputs_first q) ++ told_answers (world_then q).leading (pos (closed_of (world_then q))) (held_then q)

  -- ---- writes that wait

  writes_of_new : (ws : List Write) → writes_in (map (λ (w : Write). record { write = w; items = list_items (batches_of options at event) }) ws) ≡ ws
  writes_of_new [] = refl
  writes_of_new (w ∷ ws) = ap (λ (l : List Write). w ∷ l) (writes_of_new ws)

  items_of_new : (ws : List Write) → items_in (map (λ (w : Write). record { write = w; items = list_items (batches_of options at event) }) ws) ≡ map (λ (w : Write). list_items (batches_of options at event)) ws
  items_of_new [] = refl
  items_of_new (w ∷ ws) = ap (λ (l : List (List Item)). list_items (batches_of options at event) ∷ l) (items_of_new ws)

  pub writes_are : writes_in (writes_with options at n.waiting event) ≡ writes_in n.waiting ++ writes_of options at event
  writes_are =
      map-append (λ (w : Waiting). w.write) n.waiting (map (λ (w : Write). record { write = w; items = list_items (batches_of options at event) }) (writes_of options at event))
      ∙ ap (λ (l : List Write). writes_in n.waiting ++ l) (writes_of_new (writes_of options at event))

  items_are : items_in (writes_with options at n.waiting event) ≡ items_in n.waiting ++ map (λ (w : Write). list_items (batches_of options at event)) (writes_of options at event)
  items_are =
      map-append (λ (w : Waiting). w.items) n.waiting (map (λ (w : Write). record { write = w; items = list_items (batches_of options at event) }) (writes_of options at event))
      ∙ ap (λ (l : List (List Item)). items_in n.waiting ++ l) (items_of_new (writes_of options at event))

  -- none is due of those that are open
  pub none_open : (w : World) (ws : List Write) → filter (is_open_in w) ws ≡ ws → filter (λ x. not (is_open_in w x)) ws ≡ []
  none_open w ws same =
      let all = ap (λ (l : List Write). length l) same in
      let both = length-filter_both (is_open_in w) (λ x. not (is_open_in w x)) (λ x. refl) ws in
      nothing_left (filter (λ x. not (is_open_in w x)) ws) (omega (arith, all, both))

  -- ---- all of it

  handed_ok : (s : State) (told : List ToldReply) → AllByRecursion IsCounted (batches_of options at event) → writes_in_order (held_then (Ok s)) ≡ true
      → after_outputs k (before (Ok s) told) (told_then (Ok s)) ≡ after (Ok s) told
  handed_ok s told counted ordered =
      let A = appends options at event in
      let I = images at event in
      let N = answers_now options at event in
      let bs = batches_of options at event in
      let ws = writes_with options at n.waiting event in
      let h0 = before (Ok s) told in
      let h1 : Handed = record h0 { unsettled = map list_batch n.unsettled ++ map list_batch bs } in
      let t1 = told ++ map told_as (flat_map (told_now k) N) in
      let h2 : Handed = record h1 { told = t1 } in
      let due = told_answers s.world.leading (pos (closed_of s.world)) (held_then (Ok s)) in
      let appended_is : alone k h0 A ≡ h1 =
      ap (λ (os : List Output). alone k h0 os) (takes options k n event).batches ∙ all_appended k h0 bs counted in
      let split : after_outputs k h0 (map output_alone ((A ++ I) ++ N)) ≡ h2 =
      ap (λ (os : List Output_). after_outputs k h0 os) (map-append output_alone (A ++ I) N ∙ ap (λ (os : List Output_). os ++ map output_alone N) (map-append output_alone A I))
      ∙ (fold-append (after_output k) h0 (map output_alone A ++ map output_alone I) (map output_alone N)
      ∙ (ap (λ (h : Handed). after_outputs k h (map output_alone N)) (fold-append (after_output k) h0 (map output_alone A) (map output_alone I))
      ∙ (ap (λ (h : Handed). after_outputs k (after_outputs k h (map output_alone I)) (map output_alone N)) appended_is
      ∙ (ap (λ (h : Handed). after_outputs k h (map output_alone N)) (no_image k h1 at event)
      ∙ now_replied k options at event h1)))) in
      fold-append (after_output k) h0 (map output_alone ((A ++ I) ++ N)) due
      ∙ (ap (λ (h : Handed). after_outputs k h due) split
      ∙ (ap (λ (l : List Write). after_outputs k h2 (told_answers s.world.leading (pos (closed_of s.world)) l)) (sym writes_are)
      ∙ (all_due k s.world ws h2 (ap writes_in_order writes_are ∙ ordered) (sym items_are)
      ∙ (ap (λ l. record { unsettled = l; waiting = items_in (filter (waits_in s.world) ws); told = t1 ++ map told_as (told_due k s.world ws) }) (sym (map-append list_batch n.unsettled bs))
      ∙ ap (λ l. record { unsettled = map list_batch (n.unsettled ++ bs); waiting = items_in (filter (waits_in s.world) ws); told = l })
      (append_assoc told (map told_as (flat_map (told_now k) N)) (map told_as (told_due k s.world ws))
      ∙ ap (λ l. told ++ l) (sym (map-append told_as (flat_map (told_now k) N) (told_due k s.world ws))))))))

  handed_err : (reason : Reason) (told : List ToldReply) → filter (is_open_in n.state.world) (writes_in n.waiting) ≡ writes_in n.waiting
      → after_outputs k (before (Err reason) told) (told_then (Err reason)) ≡ after (Err reason) told
  handed_err reason told undue =
      let none : told_answers n.state.world.leading (pos (closed_of n.state.world)) (writes_in n.waiting ++ []) ≡ [] =
      ap (λ (l : List Write). told_answers n.state.world.leading (pos (closed_of n.state.world)) l) (append-nil (writes_in n.waiting))
      ∙ ap (λ (l : List Write). map (told_reply (pos (closed_of n.state.world))) l) (none_open n.state.world (writes_in n.waiting) undue) in
      ap (λ (os : List Output_). after_outputs k (before (Err reason) told) (output_alone (given.Refused (next_number at.world.count) reason) ∷ os)) none
      ∙ (ap (λ l. record { unsettled = map list_batch n.unsettled; waiting = l; told = told }) (append-nil (items_in n.waiting))
      ∙ ap (λ l. record { unsettled = map list_batch n.unsettled; waiting = items_in n.waiting; told = l }) (sym (append-nil told)))

  -- of an event that is accepted the batches are counted right
  abbrev pub CountedBy : Result State Reason → Type 0
  CountedBy (Ok s) = AllByRecursion IsCounted (batches_of options at event)
  CountedBy (Err reason) = Unit {0}

  pub handed_all : (q : Result State Reason) (told : List ToldReply) → CountedBy q → writes_in_order (held_then q) ≡ true
      → filter (is_open_in n.state.world) (writes_in n.waiting) ≡ writes_in n.waiting
      → after_outputs k (before q told) (told_then q) ≡ after q told
  handed_all (Ok s) told counted ordered undue = handed_ok s told counted ordered
  handed_all (Err reason) told counted ordered undue = handed_err reason told undue

  -- ---- of an engine

  -- what is left of it to be told
  pub left_is : (e : Core) (q : Result State Reason) → outputs_left e ≡ outputs_by options at (writes_in n.waiting) event q → e.held ≡ held_then q
      → e.leading ≡ (world_then q).leading → e.closed ≡ pos (closed_of (world_then q)) → filter (is_open_in n.state.world) (writes_in n.waiting) ≡ writes_in n.waiting
      → told_left e ≡ told_then q
  left_is e q left held leading closed undue =
      let same : answers e.leading e.closed e.held ≡ answers (world_then q).leading (pos (closed_of (world_then q))) (held_then q) =
      ap (λ (o : Option ℤ). answers o e.closed e.held) leading
      ∙ (ap (λ c. answers (world_then q).leading c e.held) closed ∙ ap (λ (l : List Write). answers (world_then q).leading (pos (closed_of (world_then q))) l) held) in
      let first : e.given ++ option_to_list e.refusal ≡ outputs_first q =
      append_cancel_right (e.given ++ option_to_list e.refusal) (outputs_first q) (answers (world_then q).leading (pos (closed_of (world_then q))) (held_then q))
      (ap (λ (os : List Output). (e.given ++ option_to_list e.refusal) ++ os) (sym same) ∙ (left ∙ outputs_split q undue)) in
      ap (λ (os : List Output). map output_alone os ++ told_answers e.leading e.closed e.held) first
      ∙ (ap (λ (o : Option ℤ). map output_alone (outputs_first q) ++ told_answers o e.closed e.held) leading
      ∙ (ap (λ c. map output_alone (outputs_first q) ++ told_answers (world_then q).leading c e.held) closed
      ∙ ap (λ (l : List Write). map output_alone (outputs_first q) ++ told_answers (world_then q).leading (pos (closed_of (world_then q))) l) held))
    where
      outputs_split : (r : Result State Reason) → filter (is_open_in n.state.world) (writes_in n.waiting) ≡ writes_in n.waiting
          → outputs_by options at (writes_in n.waiting) event r ≡ outputs_first r ++ answers (world_then r).leading (pos (closed_of (world_then r))) (held_then r)
      outputs_split (Ok s) undue = refl
      outputs_split (Err reason) undue =
          ap (λ (os : List Output). given.Refused (next_number at.world.count) reason ∷ os)
          (sym (ap (λ (l : List Write). answers n.state.world.leading (pos (closed_of n.state.world)) l) (append-nil (writes_in n.waiting))
          ∙ ap (λ (l : List Write). map (due_reply (pos (closed_of n.state.world))) l) (none_open n.state.world (writes_in n.waiting) undue)))
