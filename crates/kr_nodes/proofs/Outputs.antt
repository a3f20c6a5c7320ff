-- What all outputs of an event leave.
use Rattle.std.proofs.Common.{◌≡◌, ◌∙◌, sym, ℕ, ℤ, pos, Bool, true, false, cond, List, [], ◌∷◌, ◌++◌, map, refl, ap}
use Rattle.std.specs.Prelude.{Some, filter, int_lt, not}
use Rattle.std.specs.List.{AllByRecursion, flat_map}
use Rattle.std.proofs.lemmas.List.{append-nil, append_assoc}
use Rattle.kr_batch.specs.declared.Batch.{Batch}
use Rattle.kr_batch.specs.BatchBytes.{batch_bytes}
use Rattle.kr_calls.specs.declared.answers.AnswerKind.TheVariants as kinds
use Rattle.kr_calls.specs.declared.calls.Ask.TheVariants as asks
use Rattle.kr_calls.specs.declared.calls.Reply.{Reply}
use Rattle.kr_calls.specs.declared.events.Event.{Event}
use Rattle.kr_calls.specs.declared.events.Event.TheVariants as events
use Rattle.kr_calls.specs.declared.events.Output.{Output}
use Rattle.kr_calls.specs.declared.events.Output.TheVariants as given
use Rattle.kr_defs.specs.declared.options.Options.{Options}
use Rattle.kr_defs.specs.declared.record.Item.{Item}
use Rattle.kr_model.specs.declared.writes.Told.{Told as Output_}
use Rattle.kr_model.specs.Engine.{writes_in_order}
use Rattle.kr_model.specs.Outputs.{answers_now, images, is_open, replies_now, told_alone as output_alone, told_answers, told_reply}
use Rattle.kr_model.specs.World.{State, World, closed_of}
use Rattle.kr_model.proofs.Queues.{first_is_due, none_is_due, order_behind}
use Rattle.law_nodes.specs.NodeEvents.{writes_in}
use Rattle.law_nodes.specs.Nodes.{Waiting, told_due, told_now, told_without_place, told_write, waits_in}
use Rattle.kr_nodes.specs.declared.shared.ListBatch.{ListBatch}
use Rattle.kr_nodes.specs.inner.Handing.{Handed, after_given, after_output, after_outputs, list_batch_in, first_items, other_items, told_unplaced, told_at}
use Rattle.kr_nodes.specs.Standing.{list_batch, told_as}

abbrev pub items_in : List Waiting → List (List Item)
items_in ws = map (λ (w : Waiting). w.items) ws

-- the batch that is handed out is that of the list
abbrev pub IsCounted : Batch → Type 0
IsCounted b = list_batch_in (batch_bytes b) ≡ list_batch b

abbrev pub appended : Batch → Output
appended b = given.Append (batch_bytes b)

module _ (k : ℕ) where
  -- ---- outputs that no write waited for

  abbrev pub alone : Handed → List Output → Handed
  alone h outputs = after_outputs k h (map output_alone outputs)

  pub all_appended : (h : Handed) (bs : List Batch) → AllByRecursion IsCounted bs → alone h (map appended bs) ≡ record h { unsettled = h.unsettled ++ map list_batch bs }
  all_appended h [] c = ap (λ l. record h { unsettled = l }) (sym (append-nil h.unsettled))
  all_appended h (b ∷ bs) c =
      all_appended (record h { unsettled = h.unsettled ++ list_batch_in (batch_bytes b) ∷ [] }) bs c.1
      ∙ ap (λ l. record h { unsettled = l }) (append_assoc h.unsettled (list_batch_in (batch_bytes b) ∷ []) (map list_batch bs) ∙ ap (λ (x : ListBatch). h.unsettled ++ x ∷ map list_batch bs) c.0)

  pub no_image : (h : Handed) (s : State) (event : Event) → alone h (images s event) ≡ h
  no_image h s (events.Lead epoch next now) = refl
  no_image h s (events.Commit epoch end) = refl
  no_image h s (events.Lost epoch) = refl
  no_image h s (events.Batch bytes) = refl
  no_image h s (events.Load bytes) = refl
  no_image h s (events.Tick now) = refl
  no_image h s (events.Request client now ask) = refl
  no_image h s events.Image = refl

  abbrev pub Replies : Handed → List Output → Type 0
  Replies h outputs = alone h outputs ≡ record h { told = h.told ++ map told_as (flat_map (told_now k) outputs) }

  all_replied : (h : Handed) (client : ℕ) (correlation : ℤ) (rs : List Reply) → Replies h (map (given.Reply client correlation) rs)
  all_replied h client correlation [] = ap (λ l. record h { told = l }) (sym (append-nil h.told))
  all_replied h client correlation (r ∷ rs) =
      let one = told_unplaced k client correlation r in
      all_replied (record h { told = h.told ++ one ∷ [] }) client correlation rs
      ∙ ap (λ l. record h { told = l }) (append_assoc h.told (one ∷ []) (map told_as (flat_map (told_now k) (map (given.Reply client correlation) rs))))

  none_replied : (h : Handed) → Replies h []
  none_replied h = ap (λ l. record h { told = l }) (sym (append-nil h.told))

  pub now_replied : (options : Options) (s : State) (event : Event) (h : Handed) → Replies h (answers_now options s event)
  now_replied options s (events.Lead epoch next now) h = none_replied h
  now_replied options s (events.Commit epoch end) h = none_replied h
  now_replied options s (events.Lost epoch) h = none_replied h
  now_replied options s (events.Batch bytes) h = none_replied h
  now_replied options s (events.Load bytes) h = none_replied h
  now_replied options s (events.Tick now) h = none_replied h
  now_replied options s (events.Request client now (asks.Call call)) h = all_replied h client call.correlation (replies_now options s call.request)
  now_replied options s (events.Request client now (asks.Bare correlation fault)) h = refl
  now_replied options s events.Image h = none_replied h

  -- ---- replies of writes that waited

  one_due : (end : ℕ) (x : Waiting) (h : Handed) (rest : List (List Item)) → h.waiting ≡ x.items ∷ rest
      → after_output k h (told_reply (pos end) x.write) ≡ record h { waiting = rest; told = h.told ++ told_as (told_write k end x) ∷ [] }
  one_due end x h rest is =
      let w = x.write in
      elim (int_lt (pos end) w.need) as (λ b. after_given k h (Some (record { kind = cond b kinds.Lost kinds.Stands; decided = w.decided })) (given.Reply w.client w.correlation (cond b w.refusal w.reply))
      ≡ record h { waiting = rest; told = h.told ++ told_as (cond b (told_without_place k w.client w.correlation w.refusal) (record { node = k; client = w.client; correlation = w.correlation; place = w.decided.place; items = x.items; reply = w.reply })) ∷ [] }) [
        | true ↦ ap (λ (ws : List (List Item)). record h { waiting = other_items ws; told = h.told ++ told_unplaced k w.client w.correlation w.refusal ∷ [] }) is
        | false ↦ ap (λ (ws : List (List Item)). record h { waiting = other_items ws; told = h.told ++ told_at k w.client w.correlation w.decided.place (first_items ws) w.reply ∷ [] }) is
      ]

  -- where no reply is due, all wait
  none_due : (w : World) (ws : List Waiting) → told_answers w.leading (pos (closed_of w)) (writes_in ws) ≡ []
      → (filter (waits_in w) ws ≡ ws) × (filter (λ x. not (waits_in w x)) ws ≡ [])
  none_due w [] none = (refl, refl)
  none_due w (x ∷ ws) none =
      (elim (waits_in w x) as (λ b. map (told_reply (pos (closed_of w))) (cond (not b) (x.write ∷ filter (λ y. not (is_open w.leading (pos (closed_of w)) y)) (writes_in ws)) (filter (λ y. not (is_open w.leading (pos (closed_of w)) y)) (writes_in ws))) ≡ []
      → (cond b (x ∷ filter (waits_in w) ws) (filter (waits_in w) ws) ≡ x ∷ ws) × (cond (not b) (x ∷ filter (λ y. not (waits_in w y)) ws) (filter (λ y. not (waits_in w y)) ws) ≡ [])) [
        | true ↦ λ is. let more = none_due w ws is in (ap (λ (l : List Waiting). x ∷ l) more.0, more.1)
        | false ↦ λ is. absurd cc
      ]) none

  pub all_due : (w : World) (ws : List Waiting) (h : Handed) → writes_in_order (writes_in ws) ≡ true → h.waiting ≡ items_in ws
      → after_outputs k h (told_answers w.leading (pos (closed_of w)) (writes_in ws)) ≡ record h { waiting = items_in (filter (waits_in w) ws); told = h.told ++ map told_as (told_due k w ws) }
  all_due w [] h ordered is = ap (λ l. record h { waiting = l }) is ∙ ap (λ l. record h { waiting = []; told = l }) (sym (append-nil h.told))
  all_due w (x ∷ ws) h ordered is = by_first (waits_in w x) refl (all_due w ws (record h { waiting = items_in ws; told = h.told ++ told_as (told_write k (closed_of w) x) ∷ [] }) (order_behind x.write (writes_in ws) ordered) refl)
    where
      by_first : (b : Bool) → waits_in w x ≡ b
          → after_outputs k (record h { waiting = items_in ws; told = h.told ++ told_as (told_write k (closed_of w) x) ∷ [] }) (told_answers w.leading (pos (closed_of w)) (writes_in ws))
          ≡ record h { waiting = items_in (filter (waits_in w) ws); told = (h.told ++ told_as (told_write k (closed_of w) x) ∷ []) ++ map told_as (told_due k w ws) }
          → after_outputs k h (told_answers w.leading (pos (closed_of w)) (writes_in (x ∷ ws))) ≡ record h { waiting = items_in (filter (waits_in w) (x ∷ ws)); told = h.told ++ map told_as (told_due k w (x ∷ ws)) }
      by_first true waits rest =
          let none = none_is_due w.leading (pos (closed_of w)) x.write (writes_in ws) waits ordered in
          let all = none_due w (x ∷ ws) none in
          ap (λ (os : List Output_). after_outputs k h os) none
          ∙ (ap (λ l. record h { waiting = l }) (is ∙ ap (λ (l : List Waiting). items_in l) (sym all.0))
          ∙ ap (λ l. record h { waiting = items_in (filter (waits_in w) (x ∷ ws)); told = l }) (sym (append-nil h.told) ∙ ap (λ (l : List Waiting). h.told ++ map told_as (map (told_write k (closed_of w)) l)) (sym all.1)))
      by_first false due rest =
          let one = told_as (told_write k (closed_of w) x) in
          let first = one_due (closed_of w) x h (items_in ws) is in
          ap (λ (os : List Output_). after_outputs k h os) (first_is_due w.leading (pos (closed_of w)) x.write (writes_in ws) due)
          ∙ (ap (λ (g : Handed). after_outputs k g (told_answers w.leading (pos (closed_of w)) (writes_in ws))) first
          ∙ (rest
          ∙ (ap (λ l. record h { waiting = items_in (filter (waits_in w) ws); told = l }) (append_assoc h.told (one ∷ []) (map told_as (told_due k w ws)))
          ∙ ap (λ b. record h {
            waiting = items_in (cond b (x ∷ filter (waits_in w) ws) (filter (waits_in w) ws));
            told = h.told ++ map told_as (map (told_write k (closed_of w)) (cond (not b) (x ∷ filter (λ y. not (waits_in w y)) ws) (filter (λ y. not (waits_in w y)) ws)));
          }) (sym due))))
