-- What a step appends is safe.
use Rattle.std.proofs.Common.{◌≡◌, ◌∙◌, sym, subst, ℕ, ℤ, pos, Bool, true, false, cond, List, [], ◌∷◌, ◌++◌, refl, ap}
use Rattle.std.proofs.lemmas.List.{append_assoc, append-nil}
use Rattle.std.specs.Prelude.{◌+ℤ◌, ◌&&◌, Option, Some, None, Result, Ok, Err, IfOk, not, int_lt, is_some, length}
use Rattle.std.specs.Option.{option_map_or}
use Rattle.std.specs.Ordering.{int_cmp, int_eq}
use Rattle.std.specs.Result.{result_unwrap_or}
use Rattle.kr_calls.specs.declared.calls.Ask.{Ask}
use Rattle.kr_calls.specs.declared.calls.Ask.TheVariants as asks
use Rattle.kr_calls.specs.declared.calls.Request.{Request}
use Rattle.kr_calls.specs.declared.events.Entry.{Entry}
use Rattle.kr_calls.specs.declared.events.Event.{Event}
use Rattle.kr_calls.specs.declared.events.Reason.{Reason}
use Rattle.kr_calls.specs.declared.events.Event.TheVariants as events
use Rattle.kr_calls.specs.Deciding.{apply_records}
use Rattle.kr_calls.specs.SafeChange.{Exchange}
use Rattle.kr_calls.specs.TakingOut.{fencing}
use Rattle.kr_calls.proofs.TakingOutSteps.{fencing_stands}
use Rattle.kr_defs.specs.declared.broker.Broker.{Broker}
use Rattle.kr_defs.specs.declared.ill.Ill.{Ill}
use Rattle.kr_defs.specs.declared.options.Options.{Options}
use Rattle.kr_defs.specs.declared.record.Item.{Item}
use Rattle.kr_defs.specs.declared.record.Record.{Record}
use Rattle.kr_defs.specs.declared.record.Record.TheVariants as kinds
use Rattle.kr_defs.specs.Apply.{apply, apply_record}
use Rattle.kr_defs.specs.Guard.{and_then}
use Rattle.kr_defs.specs.Image.{Image, IsValid, empty}
use Rattle.kr_defs.specs.ImageLaws.{as_items}
use Rattle.kr_defs.specs.Log.{Log, apply_all, image_at, open_at, tip}
use Rattle.kr_defs.specs.Map as maps
use Rattle.kr_defs.proofs.Logs.{valid_at}
use Rattle.law_safety.specs.SafeChangeLaws.{AreSafe}
use Rattle.law_safety.proofs.SafeRequests.{fencings_are_safe, requests_are_safe, valid_after}
use Rattle.kr_model.specs.Commit.{commit, is_end}
use Rattle.kr_model.specs.Entries.{entries_by, items_from, item_entries}
use Rattle.kr_model.specs.Events.{outcome, at_time_of}
use Rattle.kr_model.specs.Lost.{after_lost, lost}
use Rattle.kr_model.specs.Lead.{giving_up, in_lead, lead, may_begin_at, taking_over}
use Rattle.kr_model.specs.World.{leads_in, State, World, image_of_tip, is_far, tip_of, with_batch, log_with}
use Rattle.kr_model.specs.Reasons.{already_leading, bad_commit, bad_next, exhausted, not_leading, old_epoch}
use Rattle.kr_model.specs.Request.{after_write, decision, is_decided, request}
use Rattle.kr_model.specs.SafeSteps.{AreSafeEntries, StepsAreSafe, exchange_in, is_anothers}
use Rattle.kr_model.specs.Tick.{fence, fence_all, fencing_of, lapsed_contacts, tick}
use Rattle.kr_model.proofs.Logs.{as_records, apply_append, tip_written}
use Rattle.kr_model.proofs.LogEntries.{batch_written, behind, cut_behind, none_behind, placed_both}
use Rattle.kr_model.proofs.LongerLogs.{present_then}
use Rattle.kr_model.proofs.Leaderships.{control_if, lead_written}

-- ---- records as entries

module _ (exchange : Option Exchange) where
  pub records_safe : (image : Image) (records : List Record) (place : ℤ) → AreSafe exchange image records → AreSafeEntries exchange image (item_entries place (as_items records))
  unfolding apply
  records_safe image [] place safe = tt
  records_safe image (r ∷ records) place safe = (
    safe.0,
    elim (apply_record image r) as (λ (q : Result Image Ill). IfOk q (λ after. AreSafe exchange after records) → IfOk q (λ after. AreSafeEntries exchange after (item_entries (place +ℤ pos 1) (as_items records)))) [
      | Ok after ↦ λ safe. records_safe after records (place +ℤ pos 1) safe
      | Err cause ↦ λ safe. tt
    ] safe.1,
  )

  -- items, and then others on the image behind them
  both_safe : (image mid : Image) (xs : List Item) (place : ℤ) (others : List Entry) → AreSafeEntries exchange image (item_entries place xs) → apply_all image xs ≡ Ok mid
      → AreSafeEntries exchange mid others → AreSafeEntries exchange image (item_entries place xs ++ others)
  both_safe image mid [] place others safe means then = subst (λ (r : Result Image Ill). AreSafeEntries exchange (result_unwrap_or r image) others) (sym means) then
  both_safe image mid (x ∷ xs) place others safe means then = (
    safe.0,
    elim (apply image x) as (λ (q : Result Image Ill). IfOk q (λ after. AreSafeEntries exchange after (item_entries (place +ℤ pos 1) xs)) → and_then q (λ after. apply_all after xs) ≡ Ok mid
        → IfOk q (λ after. AreSafeEntries exchange after (item_entries (place +ℤ pos 1) xs ++ others))) [
          | Ok after ↦ λ safe means. both_safe after mid xs (place +ℤ pos 1) others safe means then
          | Err cause ↦ λ safe means. tt
        ] safe.1 means,
  )

-- ---- logs that grow safely

-- the log is longer by safe items, which make this of the image at its tip
record Grows (log longer : Log) (image after : Image) : Type 0 where
  more : List Item
  writes : longer ≡ log_with log more
  safe : AreSafeEntries None image (item_entries (pos (tip log)) more)
  means : apply_all image more ≡ Ok after

grows_none : (log : Log) (image : Image) → Grows log log image image
grows_none log image = record {
  more = [];
  writes = ap (λ (is : List Item). record log { items = is }) (sym (append-nil log.items));
  safe = tt;
  means = refl;
}

then_apply : (r : Result Image Ill) (mid : Image) (next : Image → Result Image Ill) → r ≡ Ok mid → and_then r next ≡ next mid
then_apply r mid next is = ap (λ q. and_then q next) is

grows_then : (log longer last : Log) (image mid after : Image) → Grows log longer image mid → Grows longer last mid after → Grows log last image after
grows_then log longer last image mid after first second =
    let xs = first.more in
    let ys = second.more in
    let place = pos (tip log) in
    let at : pos (tip longer) ≡ place +ℤ pos (length xs) = ap (λ (l : Log). pos (tip l)) first.writes ∙ ap (λ n. pos n) (tip_written log xs) in record {
      more = xs ++ ys;
      writes = second.writes ∙ (ap (λ (l : Log). log_with l ys) first.writes ∙ ap (λ (is : List Item). record log { items = is }) (append_assoc log.items xs ys));
      safe = subst (AreSafeEntries None image) (sym (placed_both place xs ys))
          (both_safe None image mid xs place (item_entries (place +ℤ pos (length xs)) ys) first.safe first.means
          (subst (λ z. AreSafeEntries None mid (item_entries z ys)) at second.safe));
      means = apply_append xs ys image ∙ (then_apply (apply_all image xs) mid (λ i. apply_all i ys) first.means ∙ second.means);
    }

-- an image stands at the tip
abbrev Shows : Log → Image → Type 0
Shows log image = image_at log (tip log) ≡ Ok image

shows_then : (log longer : Log) (image after : Image) → Shows log image → Grows log longer image after → Shows longer after
shows_then log longer image after shows g = subst (λ (l : Log). Shows l after) (sym g.writes) (present_then log g.more image after shows g.means)

safe_added : (exchange : Option Exchange) (log longer : Log) (items : List Item) (image : Image) → longer ≡ log_with log items → AreSafeEntries exchange image (item_entries (pos (tip log)) items)
    → AreSafeEntries exchange image (item_entries (pos (tip log)) (items_from longer (tip log)))
safe_added exchange log longer items image is safe =
    subst (λ (xs : List Item). AreSafeEntries exchange image (item_entries (pos (tip log)) xs)) (sym (ap (λ (l : Log). items_from l (tip log)) is ∙ behind log items)) safe

seen_of : (s : State) (image : Image) → Shows s.world.log image → image_of_tip s ≡ image
seen_of s image shows = ap (λ (r : Result Image Ill). result_unwrap_or r empty) shows

-- ---- fencings

-- what the records that fence a broker make of an image
pub record FencedTo (options : Options) (image : Image) (broker : ℤ) : Type 0 where
  pub after : Image
  pub means : apply_records image (fencing_of options image broker) ≡ Ok after
  pub safe : AreSafe None image (fencing_of options image broker)

abbrev fencing_by : Options → Image → ℤ → Option Broker → List Record
fencing_by options image broker o = option_map_or (λ (state : Broker). fencing options.minimum image broker state.epoch) o []

pub fenced_to : (options : Options) (image : Image) (broker : ℤ) → IsValid image → FencedTo options image broker
fenced_to options image broker valid = by_get (maps.get int_cmp image.brokers broker) refl
  where
    by_get : (o : Option Broker) → maps.get int_cmp image.brokers broker ≡ o → FencedTo options image broker
    by_get None none = record {
      after = image;
      means = ap (λ o. apply_records image (fencing_by options image broker o)) none;
      safe = subst (λ o. AreSafe None image (fencing_by options image broker o)) (sym none) tt;
    }
    by_get (Some state) is =
        let left = fencing_stands options.minimum image broker state valid is in record {
          after = record image { brokers = maps.insert int_cmp image.brokers broker (record state { fenced = true }); partitions = left.0 };
          means = ap (λ o. apply_records image (fencing_by options image broker o)) is ∙ left.1;
          safe = subst (λ o. AreSafe None image (fencing_by options image broker o)) (sym is) (fencings_are_safe options.minimum image broker state valid is);
        }

module _ (options : Options) where
  fence_grows : (s : State) (image : Image) (broker : ℤ) → Shows s.world.log image → (f : FencedTo options image broker) → Grows s.world.log (fence options s broker).world.log image f.after
  fence_grows s image broker shows f =
      let records = fencing_of options image broker in record {
        more = as_items records;
        writes = batch_written s.world (as_items (fencing_of options (image_of_tip s) broker)) ∙ ap (λ i. log_with s.world.log (as_items (fencing_of options i broker))) (seen_of s image shows);
        safe = records_safe None image records (pos (tip_of s)) f.safe;
        means = as_records image records ∙ f.means;
      }

  valid_then : (image after : Image) (records : List Record) → IsValid image → apply_records image records ≡ Ok after → IsValid after
  valid_then image after records valid means = valid_after image records valid after means

  all_grow : (ids : List ℤ) (s : State) (image : Image) → IsValid image → Shows s.world.log image → (after : Image) × Grows s.world.log (fence_all options s ids).world.log image after
  all_grow [] s image valid shows = (image, grows_none s.world.log image)
  all_grow (broker ∷ ids) s image valid shows =
      let f = fenced_to options image broker valid in
      let first = fence_grows s image broker shows f in
      let next = fence options s broker in
      let rest = all_grow ids next f.after (valid_then image f.after (fencing_of options image broker) valid f.means) (shows_then s.world.log next.world.log image f.after shows first) in
      (rest.0, grows_then s.world.log next.world.log (fence_all options next ids).world.log image f.after rest.0 first rest.1)

-- ---- events

module _ (exchange : Option Exchange) (s : State) (event : Event) (image : Image) where
  abbrev IsSafeBy : Result State Reason → Type 0
  IsSafeBy r = AreSafeEntries exchange image (entries_by s event r)

  refused_row : (b : Bool) (reason : Reason) (r : Result State Reason) → IsSafeBy r → IsSafeBy (cond b (Err reason) r)
  refused_row true reason r safe = tt
  refused_row false reason r safe = safe

-- what a new leadership adds: an item of the quorum's own, and the record that gives up an open transaction
abbrev abort_if : Bool → List Record
abort_if c = cond c (kinds.AbortTransaction None ∷ []) []

lead_items_safe : (image : Image) (place : ℤ) (b c : Bool) → AreSafeEntries None image (item_entries place (control_if b ++ as_items (abort_if c)))
unfolding apply apply_record
lead_items_safe image place true true = (tt, tt)
lead_items_safe image place true false = tt
lead_items_safe image place false true = (tt, (tt, tt))
lead_items_safe image place false false = (tt, tt)

safe_none : (exchange : Option Exchange) (image : Image) (place : ℤ) (items : List Item) → items ≡ [] → AreSafeEntries exchange image (item_entries place items)
safe_none exchange image place items none = subst (λ (is : List Item). AreSafeEntries exchange image (item_entries place is)) (sym none) tt

module _ (options : Options) (s : State) (image : Image) (valid : IsValid image) (shows : Shows s.world.log image) where
  lead_safe : (epoch next now : ℤ) → IsSafeBy None s (events.Lead epoch next now) image (lead (at_time_of s (events.Lead epoch next now)) epoch next)
  lead_safe epoch next now =
      let event = events.Lead epoch next now in
      refused_row None s event image (is_some s.world.leading) (already_leading s.world.leading) _
      (refused_row None s event image (not (int_lt s.world.greatest epoch)) (old_epoch epoch s.world.greatest) _
      (refused_row None s event image (not (may_begin_at s.world next)) (bad_next next (pos s.world.committed)) _
      (refused_row None s event image (is_far next) (exhausted next) _
      (let timed = at_time_of s event in
      let led : World = (taking_over timed epoch next).world in
      safe_added None s.world.log (in_lead timed epoch next).log (control_if (int_eq next (pos s.world.committed)) ++ as_items (giving_up led)) image (lead_written timed epoch next)
      (lead_items_safe image (pos (tip_of s)) (int_eq next (pos s.world.committed)) (is_some (open_at led.log (tip led.log))))))))

  commit_safe : (epoch end : ℤ) → IsSafeBy None s (events.Commit epoch end) image (commit s epoch end)
  commit_safe epoch end =
      let event = events.Commit epoch end in
      refused_row None s event image (not (leads_in s.world.leading epoch)) (not_leading epoch s.world.leading) _
      (refused_row None s event image (not (is_end s.world end)) (bad_commit end (pos s.world.committed) (pos (tip_of s))) _
      (safe_none None image (pos (tip_of s)) (items_from s.world.log (tip_of s)) (none_behind s.world.log)))

  lost_safe : (epoch : ℤ) → IsSafeBy None s (events.Lost epoch) image (lost s epoch)
  lost_safe epoch =
      refused_row None s (events.Lost epoch) image (not (leads_in s.world.leading epoch)) (not_leading epoch s.world.leading) _
      (safe_none None image (pos (tip_of s)) (items_from (after_lost s).world.log (tip_of s)) (cut_behind s.world.log s.world.committed))

  tick_safe : (now : ℤ) → IsSafeBy None s (events.Tick now) image (tick options (at_time_of s (events.Tick now)))
  tick_safe now =
      let t = at_time_of s (events.Tick now) in
      let ids = lapsed_contacts options t in
      let grown = all_grow options ids t image valid shows in
      refused_row None s (events.Tick now) image (is_some s.world.leading && is_far (pos (tip_of s))) (exhausted (pos (tip_of s))) _
      (safe_added None s.world.log (fence_all options t ids).world.log grown.1.more image grown.1.writes grown.1.safe)

  module _ (client : ℕ) (now : ℤ) where
    abbrev served : Ask → State
    served ask = at_time_of s (events.Request client now ask)

    abbrev records_for : Ask → Request → List Record
    records_for ask request = (decision options (served ask) request).records

    abbrev exchange_for : Ask → Request → Exchange
    exchange_for ask request = (request, (decision options (served ask) request).reply)

    request_records : (ask : Ask) (request : Request) → AreSafe (Some (exchange_for ask request)) image (records_for ask request)
    request_records ask request =
        subst (λ i. AreSafe (Some (exchange_for ask request)) i (records_for ask request)) (seen_of s image shows)
        (requests_are_safe options (served ask).basis (image_of_tip s) (pos (tip_of s)) request (subst IsValid (sym (seen_of s image shows)) valid))

    write_safe : (b : Bool) (ask : Ask) (request : Request)
        → AreSafeEntries (Some (exchange_for ask request)) image (item_entries (pos (tip_of s)) (items_from (cond b (after_write options (served ask) request) (served ask)).world.log (tip_of s)))
    write_safe true ask request =
        let own = as_items (records_for ask request) in
        safe_added (Some (exchange_for ask request)) s.world.log (with_batch s.world own).log own image (batch_written s.world own)
        (records_safe (Some (exchange_for ask request)) image (records_for ask request) (pos (tip_of s)) (request_records ask request))
    write_safe false ask request = safe_none (Some (exchange_for ask request)) image (pos (tip_of s)) (items_from s.world.log (tip_of s)) (none_behind s.world.log)

    request_safe : (ask : Ask) → let event = events.Request client now ask in IsSafeBy (exchange_in options (at_time_of s event) event) s event image (request options (served ask) ask)
    request_safe (asks.Call call) =
        let ask = asks.Call call in
        refused_row (Some (exchange_for ask call.request)) s (events.Request client now ask) image (is_decided s.world ask && is_far (pos (tip_of s))) (exhausted (pos (tip_of s))) _
        (write_safe (is_decided s.world ask) ask call.request)
    request_safe (asks.Bare correlation fault) =
        safe_none None image (pos (tip_of s)) (items_from s.world.log (tip_of s)) (none_behind s.world.log)

  event_safe : (event : Event) → is_anothers event ≡ false → IsSafeBy (exchange_in options (at_time_of s event) event) s event image (outcome options (at_time_of s event) event)
  event_safe (events.Lead epoch next now) own = lead_safe epoch next now
  event_safe (events.Commit epoch end) own = commit_safe epoch end
  event_safe (events.Lost epoch) own = lost_safe epoch
  event_safe (events.Batch bytes) own = absurd cc
  event_safe (events.Load bytes) own = absurd cc
  event_safe (events.Tick now) own = tick_safe now
  event_safe (events.Request client now ask) own = request_safe client now ask
  event_safe events.Image own = safe_none None image (pos (tip_of s)) (items_from s.world.log (tip_of s)) (none_behind s.world.log)

pub steps_are_safe : StepsAreSafe
steps_are_safe before after event s writes k step own =
    let valid = valid_at s.world.log (tip_of s) k.is_state.valid before.images.tip k.present in
    subst (AreSafeEntries (exchange_in before.options (at_time_of s event) event) before.images.tip) (sym (step.fresh s writes k))
    (event_safe before.options s before.images.tip valid k.present event own)
