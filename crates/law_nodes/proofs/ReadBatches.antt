-- The batches that an event appends are read back as they are.
use Rattle.std.proofs.Common.{◌≡◌, ◌∙◌, sym, subst, ℕ, ℤ, pos, ◌≤◌, ◌<◌, ◌^◌, Bool, true, false, cond, List, [], ◌∷◌, ◌++◌, length, refl, ap, arith}
use Rattle.std.specs.Prelude.{◌+ℤ◌, ◌&&◌, FitsSigned, Option, Some, None, Result, Ok, Err, is_some, not, unsigned_abs}
use Rattle.std.specs.Int.{w32, w64}
use Rattle.std.specs.List.{AllByRecursion, list_all, slice_get}
use Rattle.std.specs.Option.{option_map_or}
use Rattle.std.specs.Ordering.{int_cmp}
use Rattle.std.proofs.lemmas.Bool.Decides.{nat_tests}
use Rattle.std.proofs.lemmas.Int.{fits_signed_from_abs, ints}
use Rattle.std.proofs.lemmas.List.{append-nil, append_assoc, length-map}
use Rattle.std.proofs.lemmas.List.Elements.{All-from_recursion}
use Rattle.kr_batch.specs.declared.Batch.{Batch}
use Rattle.kr_batch.specs.BatchBytes.{IsHeldItem}
use Rattle.kr_batch.specs.Reading.{is_base}
use Rattle.kr_calls.specs.declared.calls.Ask.TheVariants as asks
use Rattle.kr_calls.specs.declared.calls.Call.{Call}
use Rattle.kr_calls.specs.declared.events.Event.{Event}
use Rattle.kr_calls.specs.declared.events.Event.TheVariants as events
use Rattle.kr_calls.specs.Deciding.{apply_records, has_few_targets, is_request}
use Rattle.kr_calls.specs.TakingOut.{fencing}
use Rattle.kr_defs.specs.declared.broker.Broker.{Broker}
use Rattle.kr_defs.specs.declared.limits.TheConstants.{PLACES_END}
use Rattle.kr_defs.specs.declared.options.Options.{Options}
use Rattle.kr_defs.specs.declared.record.Item.{Item}
use Rattle.kr_defs.specs.declared.record.Item.TheVariants as items
use Rattle.kr_defs.specs.declared.record.Record.{Record}
use Rattle.kr_defs.specs.Image.{Image, IsValid}
use Rattle.kr_defs.specs.ImageLaws.{as_items}
use Rattle.kr_defs.specs.Log.{Log, tip}
use Rattle.kr_defs.specs.LogStates.{closed}
use Rattle.kr_defs.specs.Map as entries
use Rattle.kr_defs.proofs.Tests.{Gives, both, gives_done, gives_refuse, ok_or_this}
use Rattle.kr_model.specs.Entries.{entries_added, item_entries, items_from}
use Rattle.kr_model.specs.Outputs.{next_batch}
use Rattle.kr_calls.specs.declared.events.Reason.{Reason}
use Rattle.kr_calls.specs.Decide.{is_read}
use Rattle.kr_model.specs.Events.{at_time_of, outcome}
use Rattle.kr_model.specs.Lead.{taking_over}
use Rattle.kr_model.specs.Reasons.{exhausted, led_epoch}
use Rattle.kr_model.specs.Request.{after_ask, after_write, decision, is_decided}
use Rattle.kr_model.specs.Tick.{fence, fence_all, fencing_of, lapsed_contacts}
use Rattle.kr_model.specs.World.{State, image_of_tip, is_far, log_with, tip_of}
use Rattle.kr_model.proofs.DueWrites.{batch_leaves}
use Rattle.kr_model.proofs.Leaderships.{none_given_up}
use Rattle.kr_model.proofs.LogEntries.{batch_written, behind, not_none}
use Rattle.kr_model.proofs.Logs.{tip_written}
use Rattle.kr_model.proofs.OrderlyStates.{none_lapses}
use Rattle.kr_model.proofs.Places.{near}
use Rattle.kr_model.proofs.SafeEntries.{fenced_to}
use Rattle.law_batch_limits.specs.Fitting.{FitsBatch}
use Rattle.law_batch_limits.proofs.FittingRecords.{records_fit, requests_fit}
use Rattle.law_safety.proofs.FencingSizes.{fencings_fit}
use Rattle.law_nodes.specs.declared.moves.Move.{Move}
use Rattle.law_nodes.specs.Moves.{run}
use Rattle.law_nodes.specs.Nodes.{RunNode, batch_for, batches_for, batches_of, fencing_batches}
use Rattle.law_nodes.specs.OneList.{list_items}
use Rattle.law_nodes.proofs.AllMoves.{run_is}
use Rattle.law_nodes.proofs.Invariant.{IsCore, IsNode, at_node, core_at}
use Rattle.law_nodes.proofs.LeaderLogs.{core_fenced}
use Rattle.law_nodes.proofs.Lists.{items_append}
use Rattle.law_nodes.proofs.Logs as following
use Rattle.law_nodes.specs.ReadingBack.{AppendsReadBack, AreHeld, IsHeldEntry, ReadsBack}

-- ---- items that are held

pub items_held : (place : ℤ) (items : List Item) → AllByRecursion IsHeldEntry (item_entries place items) → AllByRecursion IsHeldItem items
items_held place [] h = tt
items_held place (item ∷ items) h = (h.0, items_held (place +ℤ pos 1) items h.1)

held_front : (xs ys : List Item) → AllByRecursion IsHeldItem (xs ++ ys) → AllByRecursion IsHeldItem xs
held_front [] ys h = tt
held_front (x ∷ xs) ys h = (h.0, held_front xs ys h.1)

held_behind : (xs ys : List Item) → AllByRecursion IsHeldItem (xs ++ ys) → AllByRecursion IsHeldItem ys
held_behind [] ys h = h
held_behind (x ∷ xs) ys h = held_behind xs ys h.1

pub reads_both : (xs ys : List Batch) → AllByRecursion ReadsBack xs → AllByRecursion ReadsBack ys → AllByRecursion ReadsBack (xs ++ ys)
reads_both [] ys h g = g
reads_both (x ∷ xs) ys h g = (h.0, reads_both xs ys h.1 g)

-- ---- one batch

-- the numbers of the next batch are those of their types
pub record HasNumbers (s : State) : Type 0 where
  pub low : tip_of s ≤ unsigned_abs PLACES_END
  pub epoch : FitsSigned w32 (led_epoch s.world.leading)
  pub time : FitsSigned w64 s.basis.time

low_base : (n : ℕ) → n ≤ unsigned_abs PLACES_END → is_base (pos n) ≡ true
low_base n h = grind (arith, nat_tests)

low_fits : (n : ℕ) → n ≤ unsigned_abs PLACES_END → FitsSigned w64 (pos n)
low_fits n h = fits_signed_from_abs w64 (pos n) (let small : n < 2 ^ 63 = omega (arith, h) in small)

pub one_reads : (s : State) (records : List Record) → HasNumbers s → FitsBatch records → AllByRecursion IsHeldItem (as_items records) → AllByRecursion ReadsBack (batch_for s records)
one_reads s [] n fits held = tt
one_reads s (r ∷ rs) n fits held =
    let batch = next_batch s (r ∷ rs) in
    let reads : ReadsBack batch = record {
      regular = record {
        based = omega (arith, ints);
        base = low_fits (tip_of s) n.low;
        epoch = n.epoch;
        time = n.time;
        some = omega arith;
        few = subst (λ m. m ≤ 10000) (sym (length-map (r ∷ rs) (λ (x : Record). items.Record x))) fits.few;
        each = fits.each;
        held = All-from_recursion IsHeldItem (as_items (r ∷ rs)) held;
        small = fits.small;
      };
      low = low_base (tip_of s) n.low;
    } in
    subst (λ b. AllByRecursion ReadsBack (cond b [] (batch ∷ []))) (sym (not_none (length rs))) (reads, tt)

-- the items of the batch that is made of records
batch_items : (s : State) (records : List Record) → list_items (batch_for s records) ≡ as_items records
batch_items s [] = refl
batch_items s (r ∷ rs) =
    ap (λ b. list_items (cond b [] (next_batch s (r ∷ rs) ∷ []))) (not_none (length rs)) ∙ append-nil (as_items (r ∷ rs))

-- ---- of a request

module _ (options : Options) (s : State) (client : ℕ) (now : ℤ) (call : Call) where
  abbrev records : List Record
  records = (decision options s call.request).records

  pub asked_reads : (before : State) → before.world.log ≡ s.world.log → (is_decided s.world (asks.Call call) ≡ true → HasNumbers s)
      → AllByRecursion IsHeldEntry (entries_added before (events.Request client now (asks.Call call)) (after_ask options s (asks.Call call)))
      → AllByRecursion ReadsBack (batches_for options s (asks.Call call))
  asked_reads before same n held = by_decided (is_decided s.world (asks.Call call)) refl
    where
      by_decided : (b : Bool) → is_decided s.world (asks.Call call) ≡ b → AllByRecursion ReadsBack (cond b (batch_for s records) [])
      by_decided false is = tt
      by_decided true is =
          let after : (after_ask options s (asks.Call call)).world.log ≡ log_with s.world.log (as_items records) =
          ap (λ b. (cond b (after_write options s call.request) s).world.log) is ∙ batch_written s.world (as_items records) in
          let added : items_from (after_ask options s (asks.Call call)).world.log (tip_of before) ≡ as_items records =
          ap (λ (l : Log). items_from l (tip_of before)) after ∙ (ap (λ (l : Log). items_from (log_with s.world.log (as_items records)) (tip l)) same ∙ behind s.world.log (as_items records)) in
          one_reads s records (n is) (requests_fit options s.basis (image_of_tip s) (pos (tip_of s)) call.request)
          (items_held (pos (tip_of before)) (as_items records)
          (subst (λ (l : List Item). AllByRecursion IsHeldEntry (item_entries (pos (tip_of before)) l)) added held))

-- ---- of fencings

module _ (options : Options) where
  fits_by : (image after : Image) (broker : ℤ) (o : Option Broker) → IsValid image
      → apply_records image (option_map_or (λ (state : Broker). fencing options.minimum image broker state.epoch) o []) ≡ Ok after → FitsBatch (option_map_or (λ (state : Broker). fencing options.minimum image broker state.epoch) o [])
  fits_by image after broker None valid meaning = records_fit image after [] meaning refl
  fits_by image after broker (Some state) valid meaning =
      let records = fencing options.minimum image broker state.epoch in
      records_fit image after records meaning (both (list_all has_few_targets records) (is_request records) (fencings_fit options.minimum image broker state.epoch valid)).1

  fencing_fits : (image : Image) (broker : ℤ) → IsValid image → FitsBatch (fencing_of options image broker)
  fencing_fits image broker valid =
      let f = fenced_to options image broker valid in fits_by image f.after broker (entries.get int_cmp image.brokers broker) valid f.means

  -- what fencings write
  pub fenced_log : (brokers : List ℤ) (s : State) → (fence_all options s brokers).world.log ≡ log_with s.world.log (list_items (fencing_batches options s brokers))
  fenced_log [] s = ap (λ (l : List Item). record s.world.log { items = l }) (sym (append-nil s.world.log.items))
  fenced_log (broker ∷ brokers) s =
      let own = batch_for s (fencing_of options (image_of_tip s) broker) in
      let rest = fencing_batches options (fence options s broker) brokers in
      let first : (fence options s broker).world.log ≡ log_with s.world.log (list_items own) =
      batch_written s.world (as_items (fencing_of options (image_of_tip s) broker)) ∙ ap (λ (l : List Item). log_with s.world.log l) (sym (batch_items s (fencing_of options (image_of_tip s) broker))) in
      fenced_log brokers (fence options s broker)
      ∙ (ap (λ (l : Log). log_with l (list_items rest)) first
      ∙ ap (λ (l : List Item). record s.world.log { items = l }) (append_assoc s.world.log.items (list_items own) (list_items rest) ∙ ap (λ (l : List Item). s.world.log.items ++ l) (sym (items_append own rest))))

  module _ (list : List Batch) (elected : ℤ) (settled : ℕ) where
    pub fences_read : (brokers : List ℤ) (s : State) (unsettled : List Batch) → IsCore list elected s settled unsettled → (epoch : ℤ) → s.world.leading ≡ Some epoch → FitsSigned w32 epoch → FitsSigned w64 s.basis.time
        → tip_of (fence_all options s brokers) ≤ unsigned_abs PLACES_END → AllByRecursion IsHeldItem (list_items (fencing_batches options s brokers)) → AllByRecursion ReadsBack (fencing_batches options s brokers)
    fences_read [] s unsettled c epoch led fits time low held = tt
    fences_read (broker ∷ brokers) s unsettled c epoch led fits time low held =
        let records = fencing_of options (image_of_tip s) broker in
        let own = batch_for s records in
        let rest = fencing_batches options (fence options s broker) brokers in
        let valid = following.valid_tip list s.world.log s.world.committed c.committed c.means in
        let both_held = subst (AllByRecursion IsHeldItem) (items_append own rest) held in
        let higher = ap (λ (l : Log). tip l) (fenced_log (broker ∷ brokers) s) ∙ tip_written s.world.log (list_items (fencing_batches options s (broker ∷ brokers))) in
        let next = core_fenced list elected settled options (broker ∷ []) s unsettled c epoch led in
        reads_both own rest
        (one_reads s records
        (record { low = omega (arith, low, higher); epoch = subst (λ (o : Option ℤ). FitsSigned w32 (led_epoch o)) (sym led) fits; time = time })
        (fencing_fits (image_of_tip s) broker valid)
        (subst (AllByRecursion IsHeldItem) (batch_items s records) (held_front (list_items own) (list_items rest) both_held)))
        (fences_read brokers (fence options s broker) (unsettled ++ fencing_batches options s (broker ∷ [])) next epoch ((batch_leaves s.world (as_items records)).leading ∙ led) fits time low
        (held_behind (list_items own) (list_items rest) both_held))

-- ---- any event of a node

-- no transaction is open in its log, and so a new leader gives none up
pub none_led : (list : List Batch) (elected : ℤ) (n : RunNode) → IsNode list elected n → (options : Options) (epoch next now : ℤ)
    → batches_of options (at_time_of n.state (events.Lead epoch next now)) (events.Lead epoch next now) ≡ []
none_led list elected n own options epoch next now =
    let s : State = at_time_of n.state (events.Lead epoch next now) in
    let there = following.has_plain_state n.state.world.log own.core.means (tip_of n.state) in
    ap (λ (records : List Record). batch_for (taking_over s epoch next) records) (none_given_up s epoch next (closed there.0) there.1 refl)

module _ (options : Options) (count : ℕ) (past : List Move) (k : ℕ) (n : RunNode) (is : slice_get (run options count past).nodes k ≡ Some n) where
  own : IsNode (run options count past).list (run options count past).elected n
  own = at_node (IsNode (run options count past).list (run options count past).elected) (run options count past).nodes k n (run_is options count past).nodes is

  lead_reads : (epoch next now : ℤ) → AllByRecursion ReadsBack (batches_of options (at_time_of n.state (events.Lead epoch next now)) (events.Lead epoch next now))
  lead_reads epoch next now = subst (AllByRecursion ReadsBack) (sym (none_led (run options count past).list (run options count past).elected n own options epoch next now)) tt

  module _ (client : ℕ) (now : ℤ) (call : Call) (after : State) where
    abbrev asking : Event
    asking = events.Request client now (asks.Call call)

    abbrev s : State
    s = at_time_of n.state asking

    abbrev decided : Bool
    decided = is_decided s.world (asks.Call call)

    asked_to : (far : Bool) → cond (decided && far) (Err (exhausted (pos (tip_of s)))) (Ok (after_ask options s (asks.Call call))) ≡ Ok after → (after ≡ after_ask options s (asks.Call call)) × (decided ≡ true → far ≡ false)
    asked_to far = by_test (decided && far) refl
      where
        by_test : (b : Bool) → (decided && far) ≡ b → cond b (Err (exhausted (pos (tip_of s)))) (Ok (after_ask options s (asks.Call call))) ≡ Ok after → (after ≡ after_ask options s (asks.Call call)) × (decided ≡ true → far ≡ false)
        by_test true test got = absurd cc
        by_test false test got = (sym (ap (λ (q : Result State Reason). ok_or_this after q) got), λ yes. sym (ap (λ d. d && far) yes) ∙ test)

    led_fits : (o : Option ℤ) → is_some o ≡ true → ((epoch : ℤ) → o ≡ Some epoch → FitsSigned w32 epoch) → FitsSigned w32 (led_epoch o)
    led_fits None some fits = absurd cc
    led_fits (Some epoch) some fits = fits epoch refl

    request_reads : outcome options s asking ≡ Ok after → AreHeld n.state asking after → AllByRecursion ReadsBack (batches_for options s (asks.Call call))
    request_reads got held =
        let to = asked_to (is_far (pos (tip_of s))) got in
        asked_reads options s client now call n.state refl (λ yes. record {
          low = near (tip_of s) (to.1 yes);
          epoch = led_fits n.state.world.leading (both (is_some s.world.leading) (not (is_read call.request)) yes).0 held.epoch;
          time = held.time;
        }) (subst (λ (a : State). AllByRecursion IsHeldEntry (entries_added n.state asking a)) to.0 held.added)

  module _ (now : ℤ) (after : State) where
    abbrev ticking : Event
    ticking = events.Tick now

    abbrev t : State
    t = at_time_of n.state ticking

    abbrev lapsed : List ℤ
    lapsed = lapsed_contacts options t

    timed : IsCore (run options count past).list (run options count past).elected t n.settled n.unsettled
    timed = core_at (run options count past).list (run options count past).elected n.state n.settled n.unsettled n.state.world.count t.basis.time own.core

    ticked_to : Gives (λ (a : State). a ≡ fence_all options t lapsed) (outcome options t ticking)
    ticked_to =
        let P : State → Type 0 = λ a. a ≡ fence_all options t lapsed in
        gives_refuse P (exhausted (pos (tip_of t))) (is_some t.world.leading && is_far (pos (tip_of t))) _ (λ _. gives_done P (fence_all options t lapsed) refl)

    tick_reads : outcome options t ticking ≡ Ok after → AreHeld n.state ticking after → AllByRecursion ReadsBack (fencing_batches options t lapsed)
    tick_reads got held = by_leading n.state.world.leading refl
      where
        by_leading : (o : Option ℤ) → n.state.world.leading ≡ o → AllByRecursion ReadsBack (fencing_batches options t lapsed)
        by_leading None none = subst (λ (brokers : List ℤ). AllByRecursion ReadsBack (fencing_batches options t brokers)) (sym (none_lapses options t (timed.standby none).2)) tt
        by_leading (Some epoch) led =
            let is_after = ticked_to after got in
            let log : after.world.log ≡ log_with t.world.log (list_items (fencing_batches options t lapsed)) = ap (λ (a : State). a.world.log) is_after ∙ fenced_log options lapsed t in
            let added : items_from after.world.log (tip_of n.state) ≡ list_items (fencing_batches options t lapsed) =
            ap (λ (l : Log). items_from l (tip_of n.state)) log ∙ behind t.world.log (list_items (fencing_batches options t lapsed)) in
            fences_read options (run options count past).list (run options count past).elected n.settled lapsed t n.unsettled timed epoch led (held.epoch epoch led) held.time
            (subst (λ (a : State). tip_of a ≤ unsigned_abs PLACES_END) is_after held.low)
            (items_held (pos (tip_of n.state)) (list_items (fencing_batches options t lapsed))
            (subst (λ (l : List Item). AllByRecursion IsHeldEntry (item_entries (pos (tip_of n.state)) l)) added held.added))

pub appends_read_back : AppendsReadBack
appends_read_back options count past k n (events.Lead epoch next now) after is got held = lead_reads options count past k n is epoch next now
appends_read_back options count past k n (events.Commit epoch end) after is got held = tt
appends_read_back options count past k n (events.Lost epoch) after is got held = tt
appends_read_back options count past k n (events.Batch bytes) after is got held = tt
appends_read_back options count past k n (events.Load bytes) after is got held = tt
appends_read_back options count past k n (events.Tick now) after is got held = tick_reads options count past k n is now after got held
appends_read_back options count past k n (events.Request client now (asks.Call call)) after is got held = request_reads options count past k n is client now call after got held
appends_read_back options count past k n (events.Request client now (asks.Bare correlation fault)) after is got held = tt
appends_read_back options count past k n events.Image after is got held = tt
