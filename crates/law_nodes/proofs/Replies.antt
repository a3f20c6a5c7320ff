-- Writes that wait, and what is told of them.
use Rattle.std.proofs.Common.{◌≡◌, ◌∙◌, sym, subst, ℕ, ℤ, pos, negsuc, ◌+◌, ◌≤◌, Bool, true, false, cond, List, [], ◌∷◌, ◌++◌, length, refl, ap, arith}
use Rattle.std.specs.Prelude.{Option, None, filter, map, int_lt, ◌&&◌}
use Rattle.std.specs.List.{AllByRecursion, flat_map}
use Rattle.std.proofs.lemmas.Bool.Decides.{nat_tests}
use Rattle.std.proofs.lemmas.Int.{ints}
use Rattle.std.proofs.lemmas.List.{append_assoc}
use Rattle.kr_batch.specs.declared.Batch.{Batch}
use Rattle.kr_calls.specs.declared.events.Output.{Output}
use Rattle.kr_calls.specs.declared.events.Output.TheVariants as given
use Rattle.kr_defs.specs.declared.record.Item.{Item}
use Rattle.kr_defs.specs.Log.{Log}
use Rattle.kr_model.specs.World.{World, leads_in, log_with, closed_of}
use Rattle.law_nodes.specs.Agreement.{IsTold}
use Rattle.law_nodes.specs.Nodes.{NodeTold, Waiting, told_now, told_write, waits_in}
use Rattle.law_nodes.specs.OneList.{Follows, StandsIn, list_items}
use Rattle.law_nodes.proofs.Invariant.{Waits}
use Rattle.law_nodes.proofs.Lists.{items_one, stands_on}
use Rattle.law_nodes.proofs.Logs

-- ---- writes that wait

abbrev pub AllWait : Log → List Waiting → Type 0
AllWait log ws = AllByRecursion (Waits log) ws

pub waits_longer : (log : Log) (items : List Item) (ws : List Waiting) → AllWait log ws → AllWait (log_with log items) ws
waits_longer log items [] h = tt
waits_longer log items (w ∷ ws) h = (
  record {
    front = h.0.front;
    back = h.0.back ++ items;
    at = h.0.at;
    is = ap (λ l. l ++ items) h.0.is ∙ (append_assoc h.0.front (w.items ++ h.0.back) items ∙ ap (λ l. h.0.front ++ l) (append_assoc w.items h.0.back items));
    count = h.0.count;
    need = h.0.need;
  },
  waits_longer log items ws h.1,
)

pub waits_both : (log : Log) (xs ys : List Waiting) → AllWait log xs → AllWait log ys → AllWait log (xs ++ ys)
waits_both log [] ys h g = g
waits_both log (x ∷ xs) ys h g = (h.0, waits_both log xs ys h.1 g)

pub waits_some : (log : Log) (test : Waiting → Bool) (ws : List Waiting) → AllWait log ws → AllWait log (filter test ws)
waits_some log test [] h = tt
waits_some log test (w ∷ ws) h =
    elim (test w) as (λ b. AllWait log (cond b (w ∷ filter test ws) (filter test ws))) [
      | true ↦ (h.0, waits_some log test ws h.1)
      | false ↦ waits_some log test ws h.1
    ]

-- on standby nothing waits
pub none_waits : (w : World) → w.leading ≡ None → (ws : List Waiting) → filter (waits_in w) ws ≡ []
none_waits w none [] = refl
none_waits w none (x ∷ ws) =
    ap (λ (o : Option ℤ). cond (leads_in o x.write.epoch && int_lt (pos (closed_of w)) x.write.need) (x ∷ filter (waits_in w) ws) (filter (waits_in w) ws)) none
    ∙ none_waits w none ws

-- ---- what is told

abbrev pub AllTold : List Batch → List NodeTold → Type 0
AllTold list ts = AllByRecursion (IsTold list) ts

pub told_both : (list : List Batch) (xs ys : List NodeTold) → AllTold list xs → AllTold list ys → AllTold list (xs ++ ys)
told_both list [] ys h g = g
told_both list (x ∷ xs) ys h g = (h.0, told_both list xs ys h.1 g)

pub now_told : (list : List Batch) (k : ℕ) (outputs : List Output) → AllTold list (flat_map (told_now k) outputs)
now_told list k [] = tt
now_told list k (given.Append bytes ∷ os) = now_told list k os
now_told list k (given.Reply client correlation reply ∷ os) = ((λ place is. absurd cc), now_told list k os)
now_told list k (given.Refused event reason ∷ os) = now_told list k os
now_told list k (given.Image bytes ∷ os) = now_told list k os

write_told : (list : List Batch) (log : Log) (end k : ℕ) → Follows list log end → (w : Waiting) → Waits log w → IsTold list (told_write k end w)
write_told list log end k f w h = by_end (int_lt (pos end) w.write.need) refl
  where
    by_end : (b : Bool) → int_lt (pos end) w.write.need ≡ b
        → IsTold list (cond b (record { node = k; client = w.write.client; correlation = w.write.correlation; place = negsuc 0; items = []; reply = w.write.refusal }) (record { node = k; client = w.write.client; correlation = w.write.correlation; place = w.write.decided.place; items = w.items; reply = w.write.reply }))
    by_end true is = λ place at. absurd cc
    by_end false is = λ place at.
        let same : place ≡ log.offset + length h.front = (let e : pos place ≡ pos (log.offset + length h.front) = sym at ∙ h.at in omega (arith, ints, e)) in
        let due : int_lt (pos end) (pos ((log.offset + length h.front) + length w.items)) ≡ false = ap (λ need. int_lt (pos end) need) (sym h.need) ∙ is in
        Logs.settled_stands list log end place f h.front w.items h.back same h.is (let low : (place + length w.items) ≤ end = grind (arith, nat_tests) in low)

pub all_told : (list : List Batch) (log : Log) (end k : ℕ) → Follows list log end → (ws : List Waiting) → AllWait log ws → AllTold list (map (told_write k end) ws)
all_told list log end k f [] h = tt
all_told list log end k f (w ∷ ws) h = (write_told list log end k f w h.0, all_told list log end k f ws h.1)

-- the list grows
pub told_longer : (list : List Batch) (b : Batch) (ts : List NodeTold) → AllTold list ts → AllTold (list ++ b ∷ []) ts
told_longer list b [] h = tt
told_longer list b (t ∷ ts) h =
    ((λ place at. subst (λ l. StandsIn l place t.items) (sym (items_one list b)) (stands_on (list_items list) b.items t.items place (h.0 place at))), told_longer list b ts h.1)
