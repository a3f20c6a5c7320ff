-- Of each request there is one reply: it is given out, or a write waits for it.
use Rattle.std.proofs.Common.{◌≡◌, ◌≤◌, ℕ, zero, suc, ◌+◌, ℤ, pos, Bool, true, false, cond, List, [], ◌∷◌, ◌++◌, length, append-nil, length-append, map, refl, sym, ap, ◌∙◌, arith}
use Rattle.std.proofs.lemmas.Grind.{flat_map-append}
use Rattle.std.proofs.lemmas.List.Filters.{length-filter_both}
use Rattle.std.specs.Prelude.{filter, not, is_some, ◌&&◌, ◌==◌, option_to_list, Option, Some, None, Result, Ok, Err, IsOk}
use Rattle.std.specs.Result.{result_unwrap_or}
use Rattle.kr_calls.specs.declared.calls.Ask.{Ask}
use Rattle.kr_calls.specs.declared.calls.Ask.TheVariants as asks
use Rattle.kr_calls.specs.declared.calls.Call.{Call}
use Rattle.kr_calls.specs.declared.calls.Reply.{Reply}
use Rattle.kr_calls.specs.declared.calls.Request.{Request}
use Rattle.kr_calls.specs.declared.calls.Request.TheVariants as requests
use Rattle.kr_calls.specs.declared.events.Event.{Event}
use Rattle.kr_calls.specs.declared.events.Event.TheVariants as events
use Rattle.kr_calls.specs.declared.events.Output.{Output}
use Rattle.kr_calls.specs.declared.events.Output.TheVariants as given
use Rattle.kr_calls.specs.declared.events.Reason.{Reason}
use Rattle.kr_calls.specs.declared.errors.TheConstants.{NOT_CONTROLLER}
use Rattle.kr_calls.specs.Decide.{is_read, query}
use Rattle.kr_calls.specs.Refuse.{refuse}
use Rattle.kr_defs.specs.declared.options.Options.{Options}
use Rattle.kr_defs.specs.declared.record.Record.{Record}
use Rattle.kr_defs.specs.Image.{Image}
use Rattle.kr_defs.proofs.Maps.{length-filter_le}
use Rattle.kr_defs.proofs.Tests.{both}
use Rattle.kr_model.specs.declared.writes.Write.{Write}
use Rattle.kr_model.specs.Events.{at_time_of, next_number, outcome, with_next_number}
use Rattle.kr_model.specs.Lead.{giving_up, taking_over}
use Rattle.kr_model.specs.Outputs.{answers_in, answers_now, append, appends, due_reply, if_accepted, images, is_open_in, outputs_by, outputs_of, replies_now, waiting_after, write_of, writes_of}
use Rattle.kr_model.specs.Reasons as reasons
use Rattle.kr_model.specs.Request.{after_ask, decision, is_decided, request}
use Rattle.kr_model.specs.World.{State, closed_of, image_of_closed, is_far, tip_of}
use Rattle.kr_workload.specs.inner.Standing.{IsMade}
use Rattle.kr_workload.specs.Summary.{replies_of}

-- ---- replies of outputs

count : List Output → ℕ
count outputs = length (replies_of outputs)

counts_both : (xs ys : List Output) → count (xs ++ ys) ≡ count xs + count ys
unfolding count
counts_both xs ys = ap (λ (l : List Reply). length l) (flat_map-append _ xs ys) ∙ length-append (replies_of xs) (replies_of ys)

counts_told : (client : ℕ) (correlation : ℤ) (replies : List Reply) → count (map (given.Reply client correlation) replies) ≡ length replies
unfolding count
counts_told client correlation [] = refl
counts_told client correlation (reply ∷ replies) = ap (λ (n : ℕ). suc n) (counts_told client correlation replies)

counts_due : (end : ℤ) (writes : List Write) → count (map (due_reply end) writes) ≡ length writes
unfolding count
counts_due end [] = refl
counts_due end (write ∷ writes) = ap (λ (n : ℕ). suc n) (counts_due end writes)

counts_append : (b : Bool) (bytes : List ℕ) → count (cond b [] (given.Append bytes ∷ [])) ≡ 0
unfolding count
counts_append true bytes = refl
counts_append false bytes = refl

counts_appended : (b : Bool) (s : State) (records : List Record) → count (cond b (append s records) []) ≡ 0
unfolding count
counts_appended true s records = counts_append (length records == 0) _
counts_appended false s records = refl

counts_none : count [] ≡ 0
unfolding count
counts_none = refl

counts_refused : (number : ℕ) (reason : Reason) → count (given.Refused number reason ∷ []) ≡ 0
unfolding count
counts_refused number reason = refl

-- a reply at once, or a write
one_of_both : (read led : Bool) (query : Option Reply) (refusal : Reply) (write : Write) → (read ≡ true → is_some query ≡ true)
    → length (cond read (option_to_list query) (cond led [] (refusal ∷ []))) + length (cond (led && not read) (write ∷ []) []) ≡ 1
one_of_both true true (Some reply) refusal write told = omega arith
one_of_both true true None refusal write told = absurd (let none = told refl in cc)
one_of_both true false (Some reply) refusal write told = omega arith
one_of_both true false None refusal write told = absurd (let none = told refl in cc)
one_of_both false true query refusal write told = omega arith
one_of_both false false query refusal write told = omega arith

-- a read is told
read_told : (options : Options) (image : Image) (request : Request) → is_read request ≡ true → is_some (query options image request) ≡ true
unfolding query
read_told options image (requests.ListPartitionReassignments q) read = refl
read_told options image (requests.Metadata q) read = refl
read_told options image other read = absurd cc

-- how many requests an event is
abbrev pub asked : Event → ℕ
asked (events.Request client now ask) = 1
asked other = 0

asked_once : (event : Event) → asked event ≤ 1
asked_once (events.Request client now ask) = omega arith
asked_once (events.Lead epoch next now) = omega arith
asked_once (events.Commit epoch end) = omega arith
asked_once (events.Lost epoch) = omega arith
asked_once (events.Batch bytes) = omega arith
asked_once (events.Load bytes) = omega arith
asked_once (events.Tick now) = omega arith
asked_once events.Image = omega arith

none_asked : (n : ℕ) → n ≤ 1 → (n ≡ 1 → ⊥) → n ≡ 0
none_asked zero once not_one = refl
none_asked (suc n) once not_one = absurd (not_one (omega (arith, once)))

-- ---- an event, where these writes wait

-- of a request one reply at once, or one write
record HasOne (options : Options) (s : State) (event : Event) : Type 0 where
  none_appended : count (appends options s event) ≡ 0
  none_shown : count (images s event) ≡ 0
  one : count (answers_now options s event) + length (writes_of options s event) ≡ asked event

module _ (options : Options) (s : State) (writes : List Write) (event : Event) where
  waits : State → List Write → ℕ
  waits after all = length (filter (is_open_in after.world) all)

  -- replies and waiting writes, where this comes of the event
  AllBy : Result State Reason → ℕ
  AllBy r = count (outputs_by options s writes event r) + waits (with_next_number (result_unwrap_or r s)) (writes ++ if_accepted r (writes_of options s event))

  taken : HasOne options s event → (after : State) → AllBy (Ok after) ≡ length writes + asked event
  unfolding AllBy waits
  taken has after =
      let all = writes ++ writes_of options s event in
      let opens : Write → Bool = is_open_in after.world in
      let a = counts_both ((appends options s event ++ images s event) ++ answers_now options s event) (answers_in after.world all) in
      let b = counts_both (appends options s event ++ images s event) (answers_now options s event) in
      let c = counts_both (appends options s event) (images s event) in
      let d = counts_due (pos (closed_of after.world)) (filter (λ (write : Write). not (opens write)) all) in
      let e = length-filter_both opens (λ (write : Write). not (opens write)) (λ write. refl) all in
      let f = length-append writes (writes_of options s event) in
      omega (arith, a, b, c, d, e, f, has.none_appended, has.none_shown, has.one)

  few_by : HasOne options s event → (r : Result State Reason) → AllBy r ≤ length writes + 1
  unfolding AllBy waits
  few_by has (Ok after) = let all = taken has after in let once = asked_once event in omega (arith, all, once)
  few_by has (Err reason) =
      let fewer = length-filter_le (is_open_in s.world) (writes ++ []) in
      let long = length-append writes [] in
      let none : count (outputs_by options s writes event (Err reason)) ≡ 0 = counts_refused (next_number s.world.count) reason in
      omega (arith, fewer, long, none)

  -- all of these wait before the event, and a request isn't refused
  all_by : HasOne options s event → filter (is_open_in s.world) writes ≡ writes → (r : Result State Reason) → (asked event ≡ 1 → IsOk r) → AllBy r ≡ length writes + asked event
  unfolding AllBy waits
  all_by has all_wait (Ok after) ok = taken has after
  all_by has all_wait (Err reason) ok =
      let same : length (filter (is_open_in s.world) (writes ++ [])) ≡ length writes =
      ap (λ (l : List Write). length (filter (is_open_in s.world) l)) (append-nil writes) ∙ ap (λ (l : List Write). length l) all_wait in
      let none : count (outputs_by options s writes event (Err reason)) ≡ 0 = counts_refused (next_number s.world.count) reason in
      let no_request : asked event ≡ 0 = none_asked (asked event) (asked_once event) (λ one. let no : false ≡ true = ok one in absurd cc) in
      omega (arith, same, none, no_request)

module _ (options : Options) (s : State) where
  call_has : (client : ℕ) (now : ℤ) (call : Call) → HasOne options s (events.Request client now (asks.Call call))
  call_has client now call =
      let told = counts_told client call.correlation (replies_now options s call.request) in
      let one = one_of_both (is_read call.request) (is_some s.world.leading) (query options (image_of_closed s) call.request) (refuse call.request NOT_CONTROLLER) (write_of options s client call) (read_told options (image_of_closed s) call.request) in record {
        none_appended = counts_appended (is_decided s.world (asks.Call call)) s (decision options s call.request).records;
        none_shown = counts_none;
        one = omega (arith, told, one);
      }

  has_one : (event : Event) → IsMade event → HasOne options s event
  has_one (events.Request client now (asks.Call call)) made = call_has client now call
  has_one (events.Request client now (asks.Bare correlation fault)) made = absurd made
  has_one (events.Commit epoch end) made = let none = counts_none in record { none_appended = none; none_shown = none; one = omega (arith, none) }
  has_one (events.Lost epoch) made = let none = counts_none in record { none_appended = none; none_shown = none; one = omega (arith, none) }
  has_one (events.Lead epoch next now) made =
      let none = counts_none in record { none_appended = counts_append (length (giving_up (taking_over s epoch next).world) == 0) _; none_shown = none; one = omega (arith, none) }
  has_one (events.Batch bytes) made = absurd made
  has_one (events.Load bytes) made = absurd made
  has_one (events.Tick now) made = absurd made
  has_one events.Image made = absurd made

-- the replies of an event of a session, and the writes that wait then, are at most one more than the writes that waited
pub few_replies : (options : Options) (s : State) (writes : List Write) (event : Event) → IsMade event
    → length (replies_of (outputs_of options s writes event)) + length (waiting_after options s writes event) ≤ length writes + 1
unfolding count AllBy waits
few_replies options s writes event made =
    let here = at_time_of s event in
    few_by options here writes event (has_one options here event made) (outcome options here event)

-- a request isn't refused where the tip isn't far
not_refused : (options : Options) (s : State) (ask : Ask) → is_far (pos (tip_of s)) ≡ false → IsOk (request options s ask)
not_refused options s ask near =
    elim (is_decided s.world ask && is_far (pos (tip_of s))) as (λ b. (is_decided s.world ask && is_far (pos (tip_of s))) ≡ b → IsOk (cond b (Err (reasons.exhausted (pos (tip_of s)))) (Ok (after_ask options s ask)))) [
      | true ↦ λ is. absurd (let far = (both (is_decided s.world ask) (is_far (pos (tip_of s))) is).1 in let no = sym near ∙ far in cc)
      | false ↦ λ is. refl
    ] refl

taken_if : (options : Options) (s : State) (event : Event) → is_far (pos (tip_of s)) ≡ false → asked event ≡ 1 → IsOk (outcome options (at_time_of s event) event)
taken_if options s (events.Request client now ask) near one = not_refused options (at_time_of s (events.Request client now ask)) ask near
taken_if options s (events.Lead epoch next now) near one = absurd (omega (arith, one))
taken_if options s (events.Commit epoch end) near one = absurd (omega (arith, one))
taken_if options s (events.Lost epoch) near one = absurd (omega (arith, one))
taken_if options s (events.Batch bytes) near one = absurd (omega (arith, one))
taken_if options s (events.Load bytes) near one = absurd (omega (arith, one))
taken_if options s (events.Tick now) near one = absurd (omega (arith, one))
taken_if options s events.Image near one = absurd (omega (arith, one))

-- there they are exactly as many as waited, and one more for a request
pub all_replies : (options : Options) (s : State) (writes : List Write) (event : Event) → IsMade event → filter (is_open_in s.world) writes ≡ writes → is_far (pos (tip_of s)) ≡ false
    → length (replies_of (outputs_of options s writes event)) + length (waiting_after options s writes event) ≡ length writes + asked event
unfolding count AllBy waits
all_replies options s writes event made all_wait near =
    let here = at_time_of s event in
    all_by options here writes event (has_one options here event made) all_wait (outcome options here event) (taken_if options s event near)
