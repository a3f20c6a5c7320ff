-- An event of a session adds few records.
use Rattle.std.proofs.Common.{◌≡◌, ◌≤◌, ◌+◌, ◌-◌, ℕ, suc, ℤ, pos, Bool, true, false, cond, List, [], ◌∷◌, ◌++◌, length, refl, ap, ◌∙◌, arith}
use Rattle.std.proofs.lemmas.List.{length-map, length-take}
use Rattle.std.specs.Prelude.{filter, not, is_some, int_lt, ◌+ℤ◌, ◌&&◌, None, Result, Ok, Err}
use Rattle.std.specs.Ordering.{int_eq}
use Rattle.std.specs.Result.{result_unwrap_or}
use Rattle.kr_calls.specs.declared.calls.Ask.TheVariants as asks
use Rattle.kr_calls.specs.declared.calls.Call.{Call}
use Rattle.kr_calls.specs.declared.events.Event.{Event}
use Rattle.kr_calls.specs.declared.events.Event.TheVariants as events
use Rattle.kr_calls.specs.declared.events.Reason.{Reason}
use Rattle.kr_calls.specs.declared.calls.Request.{Request}
use Rattle.kr_defs.specs.declared.limits.TheConstants.{MOST_RECORDS}
use Rattle.kr_defs.specs.declared.options.Options.{Options}
use Rattle.kr_defs.specs.declared.record.Item.{Item}
use Rattle.kr_defs.specs.declared.record.Item.TheVariants as items
use Rattle.kr_defs.specs.declared.record.Record.{Record}
use Rattle.kr_defs.specs.declared.record.Record.TheVariants as kinds
use Rattle.kr_defs.specs.ImageLaws.{as_items}
use Rattle.kr_defs.specs.Log.{Log, open_at, tip}
use Rattle.kr_defs.proofs.Maps.{length-filter_le}
use Rattle.kr_defs.proofs.Tests.{Gives, gives_done, gives_refuse}
use Rattle.law_batch_limits.specs.Fitting.{FitsBatch}
use Rattle.law_batch_limits.proofs.FittingRecords.{requests_fit}
use Rattle.kr_model.specs.Commit.{after_commit, commit, is_end}
use Rattle.kr_model.specs.Entries.{entries_by, item_entries, items_from, log_entries}
use Rattle.kr_model.specs.Events.{at_time_of, happens, outcome}
use Rattle.kr_model.specs.Lead.{after_lead, giving_up, in_lead, lead, may_begin_at, taking_over}
use Rattle.kr_model.specs.Lost.{after_lost, cut, lost}
use Rattle.kr_model.specs.Reasons as reasons
use Rattle.kr_model.specs.Request.{after_ask, after_write, decision, is_decided, request}
use Rattle.kr_model.specs.World.{State, World, image_of_tip, is_far, leads_in, tip_of, with_batch}
use Rattle.kr_model.proofs.Leaderships.{control_if, lead_written}
use Rattle.kr_model.proofs.LogEntries.{batch_written, behind, cut_behind, none_behind}
use Rattle.kr_model.proofs.Logs.{tip_written}
use Rattle.kr_workload.specs.inner.Standing.{IsMade}
use Rattle.kr_workload.specs.Summary.{is_record}

-- ---- entries of items

entries_long : (place : ℤ) (items : List Item) → length (item_entries place items) ≡ length items
entries_long place [] = refl
entries_long place (item ∷ items) = ap (λ (n : ℕ). suc n) (entries_long (place +ℤ pos 1) items)

few_entries : (place : ℤ) (items : List Item) → length items ≤ MOST_RECORDS → length (filter is_record (item_entries place items)) ≤ MOST_RECORDS
few_entries place items few =
    let fewer = length-filter_le is_record (item_entries place items) in
    let long = entries_long place items in
    omega (arith, fewer, long, few)

-- ---- a log that grows by few items

record GrowsFew (log longer : Log) : Type 0 where
  few : length (items_from longer (tip log)) ≤ MOST_RECORDS
  near : tip longer ≤ tip log + MOST_RECORDS

none_grown : (log : Log) → GrowsFew log log
none_grown log = let e = ap (λ (l : List Item). length l) (none_behind log) in record { few = omega (arith, e); near = omega arith }

cut_grown : (log : Log) (place : ℕ) → GrowsFew log (cut log place)
cut_grown log place =
    let e = ap (λ (l : List Item). length l) (cut_behind log place) in
    let long = length-take (place - log.offset) log.items in
    record { few = omega (arith, e); near = omega (arith, long) }

batch_grown : (w : World) (items : List Item) → length items ≤ MOST_RECORDS → GrowsFew w.log (with_batch w items).log
batch_grown w items few =
    let e = ap (λ (log : Log). length (items_from log (tip w.log))) (batch_written w items) ∙ ap (λ (l : List Item). length l) (behind w.log items) in
    let long = ap (λ (log : Log). tip log) (batch_written w items) ∙ tip_written w.log items in
    record { few = omega (arith, e, few); near = omega (arith, long, few) }

-- an item of the quorum's own, and an abort
few_led : (at_end is_open : Bool) → length (control_if at_end ++ as_items (cond is_open (kinds.AbortTransaction None ∷ []) [])) ≤ 2
few_led true true = omega arith
few_led true false = omega arith
few_led false true = omega arith
few_led false false = omega arith

led_grown : (s : State) (epoch next : ℤ) → GrowsFew s.world.log (in_lead s epoch next).log
led_grown s epoch next =
    let led : World = (taking_over s epoch next).world in
    let items : List Item = control_if (int_eq next (pos s.world.committed)) ++ as_items (giving_up led) in
    let few = few_led (int_eq next (pos s.world.committed)) (is_some (open_at led.log (tip led.log))) in
    let e = ap (λ (log : Log). length (items_from log (tip s.world.log))) (lead_written s epoch next) ∙ ap (λ (l : List Item). length l) (behind s.world.log items) in
    let long = ap (λ (log : Log). tip log) (lead_written s epoch next) ∙ tip_written s.world.log items in
    record { few = omega (arith, e, few); near = omega (arith, long, few) }

written_grown : (options : Options) (s : State) (request : Request) → GrowsFew s.world.log (after_write options s request).world.log
written_grown options s request =
    let records = (decision options s request).records in
    let fits : FitsBatch records = requests_fit options s.basis (image_of_tip s) (pos (tip_of s)) request in
    let long : length (as_items records) ≡ length records = length-map records (λ (r : Record). items.Record r) in
    batch_grown s.world (as_items records) (omega (arith, long, fits.few))

asked_if : (b : Bool) (s after : State) → GrowsFew s.world.log after.world.log → GrowsFew s.world.log (cond b after s).world.log
asked_if true s after grown = grown
asked_if false s after grown = none_grown s.world.log

-- ---- what comes of events

module _ (options : Options) (s : State) where
  abbrev P : State → Type 0
  P after = GrowsFew s.world.log after.world.log

  lead_few : (epoch next : ℤ) → Gives P (lead s epoch next)
  lead_few epoch next =
      gives_refuse P (reasons.already_leading s.world.leading) (is_some s.world.leading) _ (λ _. gives_refuse P (reasons.old_epoch epoch s.world.greatest) (not (int_lt s.world.greatest epoch)) _ (λ _.
      gives_refuse P (reasons.bad_next next (pos s.world.committed)) (not (may_begin_at s.world next)) _ (λ _. gives_refuse P (reasons.exhausted next) (is_far next) _ (λ _.
      gives_done P (after_lead s epoch next) (led_grown s epoch next)))))

  commit_few : (epoch end : ℤ) → Gives P (commit s epoch end)
  commit_few epoch end =
      gives_refuse P (reasons.not_leading epoch s.world.leading) (not (leads_in s.world.leading epoch)) _ (λ _.
      gives_refuse P (reasons.bad_commit end (pos s.world.committed) (pos (tip_of s))) (not (is_end s.world end)) _ (λ _.
      gives_done P (after_commit s end) (none_grown s.world.log)))

  lost_few : (epoch : ℤ) → Gives P (lost s epoch)
  lost_few epoch =
      gives_refuse P (reasons.not_leading epoch s.world.leading) (not (leads_in s.world.leading epoch)) _ (λ _.
      gives_done P (after_lost s) (cut_grown s.world.log s.world.committed))

  request_few : (call : Call) → Gives P (request options s (asks.Call call))
  request_few call =
      gives_refuse P (reasons.exhausted (pos (tip_of s))) (is_decided s.world (asks.Call call) && is_far (pos (tip_of s))) _ (λ _.
      gives_done P (after_ask options s (asks.Call call)) (asked_if (is_decided s.world (asks.Call call)) s (after_write options s call.request) (written_grown options s call.request)))

  outcome_few : (event : Event) → IsMade event → Gives P (outcome options s event)
  outcome_few (events.Lead epoch next now) made = lead_few epoch next
  outcome_few (events.Commit epoch end) made = commit_few epoch end
  outcome_few (events.Lost epoch) made = lost_few epoch
  outcome_few (events.Request client now (asks.Call call)) made = request_few call
  outcome_few (events.Request client now (asks.Bare correlation fault)) made = absurd made
  outcome_few (events.Batch bytes) made = absurd made
  outcome_few (events.Load bytes) made = absurd made
  outcome_few (events.Tick now) made = absurd made
  outcome_few events.Image made = absurd made

  added : (event : Event) → IsMade event → (r : Result State Reason) → Gives P r → length (filter is_record (entries_by s event r)) ≤ MOST_RECORDS
  added (events.Lead epoch next now) made (Ok after) gives = few_entries (pos (tip_of s)) _ (gives after refl).few
  added (events.Commit epoch end) made (Ok after) gives = few_entries (pos (tip_of s)) _ (gives after refl).few
  added (events.Lost epoch) made (Ok after) gives = few_entries (pos (tip_of s)) _ (gives after refl).few
  added (events.Request client now ask) made (Ok after) gives = few_entries (pos (tip_of s)) _ (gives after refl).few
  added (events.Batch bytes) made (Ok after) gives = absurd made
  added (events.Load bytes) made (Ok after) gives = absurd made
  added (events.Tick now) made (Ok after) gives = absurd made
  added events.Image made (Ok after) gives = absurd made
  added event made (Err reason) gives = omega arith

  near_or : (r : Result State Reason) → Gives P r → tip_of (result_unwrap_or r s) ≤ tip_of s + MOST_RECORDS
  near_or (Ok after) gives = (gives after refl).near
  near_or (Err reason) gives = omega arith

-- an event of a session adds no more records than a batch has
pub few_records : (options : Options) (s : State) (event : Event) → IsMade event → length (filter is_record (log_entries options s event)) ≤ MOST_RECORDS
few_records options s event made =
    let here = at_time_of s event in
    added options here event made (outcome options here event) (outcome_few options here event made)

-- and the tip moves by no more places
pub few_places : (options : Options) (s : State) (event : Event) → IsMade event → tip_of (happens options s event) ≤ tip_of s + MOST_RECORDS
few_places options s event made =
    let here = at_time_of s event in
    near_or options here (outcome options here event) (outcome_few options here event made)
