-- A controller knows where the batches end that it appended and that weren't committed, and the greatest epoch that it led.
use Rattle.std.proofs.Common.{◌≡◌, ◌∙◌, sym, subst, ℕ, ℤ, pos, ◌+◌, ◌<◌, ◌≤◌, Bool, true, false, cond, List, [], ◌∷◌, ◌++◌, length, map, refl, ap, arith, inl, inr, ◌⊎◌}
use Rattle.std.specs.Prelude.{int_lt, ◌==◌, ◌&&◌, filter, is_some, Result, Ok, Err}
use Rattle.std.specs.List.{AllByRecursion}
use Rattle.std.proofs.lemmas.Bool.Decides.{nat_tests}
use Rattle.std.proofs.lemmas.Int.{ints}
use Rattle.std.proofs.lemmas.List.{append-nil, append_assoc, map-append}
use Rattle.kr_batch.specs.declared.Batch.{Batch}
use Rattle.kr_calls.specs.declared.calls.Ask.{Ask}
use Rattle.kr_calls.specs.declared.calls.Ask.TheVariants as asks
use Rattle.kr_calls.specs.declared.events.Event.{Event}
use Rattle.kr_calls.specs.declared.events.Event.TheVariants as events
use Rattle.kr_calls.specs.declared.events.Reason.{Reason}
use Rattle.kr_defs.specs.declared.options.Options.{Options}
use Rattle.kr_defs.specs.declared.record.Record.{Record}
use Rattle.kr_defs.specs.ImageLaws.{as_items}
use Rattle.kr_defs.specs.Log.{tip}
use Rattle.kr_defs.proofs.Tests.{Gives, gives_done, gives_refuse}
use Rattle.kr_model.specs.Events.{at_time_of, outcome}
use Rattle.kr_model.specs.Outputs.{if_accepted, next_batch}
use Rattle.kr_model.specs.Reasons.{exhausted}
use Rattle.kr_model.specs.Request.{after_ask, after_write, decision, is_decided}
use Rattle.kr_model.specs.Tick.{fence, fence_all, fencing_of, lapsed_contacts}
use Rattle.kr_model.specs.World.{State, World, image_of_tip, is_far, log_with, tip_of, with_records}
use Rattle.kr_model.proofs.LogEntries.{not_none}
use Rattle.kr_model.proofs.Logs.{tip_written}
use Rattle.law_quorum.specs.Batches.{behind}
use Rattle.law_quorum.specs.Batches.{Batch as StoredBatch}
use Rattle.law_quorum.specs.Nodes.{Node}
use Rattle.law_quorum.proofs.Places.{behind_append}
use Rattle.law_link.specs.Links.{Has}
use Rattle.law_nodes.specs.Nodes.{RunNode, after_by, after_event, batch_for, batches_of, fencing_batches}
use Rattle.law_nodes.proofs.Lists.{HasItems}
use Rattle.law_one_log.specs.Daemons.{IsNoFrame, batches_given}
use Rattle.law_one_log.specs.StoredBatches.{batches_in, stored, value_of_batch}
use Rattle.law_one_log.proofs.DaemonStates.{with_batches}
use Rattle.law_one_log.proofs.ReadLists.{AllStored}

has_first : (x : ℕ) (xs ys : List ℕ) → Has x xs → Has x (xs ++ ys)
has_first x [] ys h = absurd h
has_first x (y ∷ xs) ys h = elim h [ inl e ↦ inl e | inr r ↦ inr (has_first x xs ys r) ]

has_last : (x : ℕ) (xs : List ℕ) → Has x (xs ++ x ∷ [])
has_last x [] = inl refl
has_last x (y ∷ xs) = inr (has_last x xs)

-- ---- the ends of batches, the first of which begins at a place

abbrev pub EndsAmong : List ℕ → ℕ → List StoredBatch → Type 0
EndsAmong ends at [] = Unit {0}
EndsAmong ends at (b ∷ bs) = Has (at + b.count) ends × EndsAmong ends (at + b.count) bs

among_one : (ends : List ℕ) (at : ℕ) (bs : List StoredBatch) (b : StoredBatch) (end : ℕ) → EndsAmong ends at bs → behind at bs + b.count ≡ end → EndsAmong (ends ++ end ∷ []) at (bs ++ b ∷ [])
among_one ends at [] b end h is = (subst (λ (n : ℕ). Has n (ends ++ end ∷ [])) (sym is) (has_last end ends), tt)
among_one ends at (x ∷ bs) b end h is = (has_first (at + x.count) ends (end ∷ []) h.0, among_one ends (at + x.count) bs b end h.1 is)

pub among_after : (ends : List ℕ) (at : ℕ) (xs ys : List StoredBatch) → EndsAmong ends at (xs ++ ys) → EndsAmong ends (behind at xs) ys
among_after ends at [] ys h = h
among_after ends at (x ∷ xs) ys h = among_after ends (at + x.count) xs ys h.1

-- where the first of them end
pub among_first : (ends : List ℕ) (at : ℕ) (xs ys : List StoredBatch) → EndsAmong ends at (xs ++ ys) → (behind at xs ≡ at) ⊎ Has (behind at xs) ends
among_first ends at [] ys h = inl refl
among_first ends at (x ∷ xs) ys h = elim (among_first ends (at + x.count) xs ys h.1) [
  | inl e ↦ inr (subst (λ (n : ℕ). Has n ends) (sym e) h.0)
  | inr r ↦ inr r
]

-- those above a place are kept where lower ones go
has_kept : (t : Bool) (x y : ℕ) (rest : List ℕ) → Has x rest → Has x (cond t (y ∷ rest) rest)
has_kept true x y rest h = inr h
has_kept false x y rest h = h

is_higher : (low x : ℕ) → low < x → int_lt (pos low) (pos x) ≡ true
is_higher low x up = grind (arith, ints, nat_tests)

has_above : (low x : ℕ) (ends : List ℕ) → low < x → Has x ends → Has x (filter (λ n. int_lt (pos low) (pos n)) ends)
has_above low x [] up h = absurd h
has_above low x (y ∷ ends) up h = elim h [
  | inl e ↦ (
      let t : int_lt (pos low) (pos y) ≡ true = subst (λ (n : ℕ). int_lt (pos low) (pos n) ≡ true) e (is_higher low x up) in
      let kept : List ℕ = filter (λ n. int_lt (pos low) (pos n)) ends in
      subst (λ (b : Bool). Has x (cond b (y ∷ kept) kept)) (sym t) (inl e))
  | inr r ↦ has_kept (int_lt (pos low) (pos y)) x y (filter (λ n. int_lt (pos low) (pos n)) ends) (has_above low x ends up r)
]

pub among_above : (ends : List ℕ) (low at : ℕ) (bs : List StoredBatch) → low ≤ at → AllStored bs → AllByRecursion HasItems (batches_in bs) → EndsAmong ends at bs
    → EndsAmong (filter (λ n. int_lt (pos low) (pos n)) ends) at bs
among_above ends low at [] le s some h = tt
among_above ends low at (b ∷ bs) le s some h =
    let count = s.0.count in
    let one : 0 < length (value_of_batch b).items = some.0 in (
      has_above low (at + b.count) ends (omega (arith, le, count, one)) h.0,
      among_above ends low (at + b.count) bs (omega (arith, le)) s.1 some.1 h.1,
    )

-- ---- what it knows

-- it led no epoch from the least on
pub record Knows (d : Node) (least : ℕ) (w : World) : Type 0 where
  pub ends : EndsAmong w.batch_ends d.end d.own
  pub low : int_lt w.greatest (pos least) ≡ true

abbrev pub all_stored : List Batch → List StoredBatch
all_stored bs = map (λ (b : Batch). stored b) bs

-- where a batch of records at its tip ends
abbrev end_with : State → List Record → ℕ
end_with s records = tip s.world.log + length (as_items records)

module _ (at least : ℕ) where
  -- with what it appended
  pub record KnowsAll (own : List StoredBatch) (w : World) : Type 0 where
    pub ends : EndsAmong w.batch_ends at own
    pub tip : behind at own ≡ tip w.log
    pub low : int_lt w.greatest (pos least) ≡ true

  one_known : (s : State) (own : List StoredBatch) → KnowsAll own s.world → (records : List Record) → KnowsAll (own ++ all_stored (batch_for s records)) (with_records s.world records)
  one_known s own h [] = subst (λ (bs : List StoredBatch). KnowsAll bs s.world) (sym (append-nil own)) h
  one_known s own h (r ∷ rs) = by_tests (length (as_items (r ∷ rs)) == 0) (length (r ∷ rs) == 0) (not_none (length (as_items rs))) (not_none (length rs))
    where
      by_tests : (a b : Bool) → a ≡ false → b ≡ false
          → KnowsAll (own ++ all_stored (cond b [] (next_batch s (r ∷ rs) ∷ []))) (cond a s.world (record s.world { log = log_with s.world.log (as_items (r ∷ rs)); batch_ends = s.world.batch_ends ++ end_with s (r ∷ rs) ∷ [] }))
      by_tests true b is g = absurd cc
      by_tests false true g is = absurd cc
      by_tests false false g is =
          let b = stored (next_batch s (r ∷ rs)) in
          let up : ℕ = end_with s (r ∷ rs) in
          let end : behind at own + b.count ≡ up = ap (λ (n : ℕ). n + length (as_items (r ∷ rs))) h.tip in
          record {
            ends = among_one s.world.batch_ends at own b up h.ends end;
            tip = behind_append at own (b ∷ []) ∙ (end ∙ sym (tip_written s.world.log (as_items (r ∷ rs))));
            low = h.low;
          }

  fenced_known : (options : Options) (brokers : List ℤ) (s : State) (own : List StoredBatch) → KnowsAll own s.world
      → KnowsAll (own ++ all_stored (fencing_batches options s brokers)) (fence_all options s brokers).world
  fenced_known options [] s own h = subst (λ (bs : List StoredBatch). KnowsAll bs s.world) (sym (append-nil own)) h
  fenced_known options (broker ∷ brokers) s own h =
      let records = fencing_of options (image_of_tip s) broker in
      let next = fence options s broker in
      let first = batch_for s records in
      let rest = fencing_batches options next brokers in
      subst (λ (bs : List StoredBatch). KnowsAll bs (fence_all options next brokers).world)
      (append_assoc own (all_stored first) (all_stored rest) ∙ ap (λ (bs : List StoredBatch). own ++ bs) (sym (map-append (λ (b : Batch). stored b) first rest)))
      (fenced_known options brokers next (own ++ all_stored first) (one_known s own h records))

  asked_known : (options : Options) (s : State) (own : List StoredBatch) → KnowsAll own s.world → (client : ℕ) (now : ℤ) (ask : Ask)
      → KnowsAll (own ++ all_stored (batches_of options s (events.Request client now ask))) (after_ask options s ask).world
  asked_known options s own h client now (asks.Call call) =
      let records = (decision options s call.request).records in
      elim (is_decided s.world (asks.Call call)) as (λ (b : Bool). KnowsAll (own ++ all_stored (cond b (batch_for s records) [])) (cond b (after_write options s call.request) s).world) [
        | true ↦ one_known s own h records
        | false ↦ subst (λ (bs : List StoredBatch). KnowsAll bs s.world) (sym (append-nil own)) h
      ]
  asked_known options s own h client now (asks.Bare correlation fault) = subst (λ (bs : List StoredBatch). KnowsAll bs s.world) (sym (append-nil own)) h

-- ---- an event of its own

module _ (options : Options) (d : Node) (least : ℕ) (n : RunNode) (tip : behind d.end d.own ≡ tip_of n.state) (h : Knows d least n.state.world) where
  abbrev KnowsOf : Event → State → Type 0
  KnowsOf event after = KnowsAll d.end least (d.own ++ all_stored (batches_of options (at_time_of n.state event) event)) after.world

  now_known : (event : Event) → KnowsAll d.end least d.own (at_time_of n.state event).world
  now_known event = record { ends = h.ends; tip = tip; low = h.low }

  outcome_known : (event : Event) → IsNoFrame event → Gives (KnowsOf event) (outcome options (at_time_of n.state event) event)
  outcome_known (events.Request client now ask) own =
      let event = events.Request client now ask in
      let s = at_time_of n.state event in
      gives_refuse (KnowsOf event) (exhausted (pos (tip_of s))) (is_decided s.world ask && is_far (pos (tip_of s))) _ (λ _.
      gives_done (KnowsOf event) (after_ask options s ask) (asked_known d.end least options s d.own (now_known event) client now ask))
  outcome_known (events.Tick now) own =
      let event = events.Tick now in
      let s = at_time_of n.state event in
      gives_refuse (KnowsOf event) (exhausted (pos (tip_of s))) (is_some s.world.leading && is_far (pos (tip_of s))) _ (λ _.
      gives_done (KnowsOf event) (fence_all options s (lapsed_contacts options s)) (fenced_known d.end least options (lapsed_contacts options s) s d.own (now_known event)))
  outcome_known events.Image own =
      gives_done (KnowsOf events.Image) (at_time_of n.state events.Image) (subst (λ (bs : List StoredBatch). KnowsAll d.end least bs n.state.world) (sym (append-nil d.own)) (now_known events.Image))
  outcome_known (events.Lead epoch next now) own = absurd own
  outcome_known (events.Commit epoch end) own = absurd own
  outcome_known (events.Lost epoch) own = absurd own
  outcome_known (events.Batch bytes) own = absurd own
  outcome_known (events.Load bytes) own = absurd own

  known_by : (event : Event) (q : Result State Reason) → Gives (KnowsOf event) q
      → Knows (with_batches d (all_stored (if_accepted q (batches_of options (at_time_of n.state event) event)))) least (after_by options n (at_time_of n.state event) event q).state.world
  known_by event (Ok after) gives = let g = gives after refl in record { ends = g.ends; low = g.low }
  known_by event (Err reason) gives = record {
    ends = subst (λ (bs : List StoredBatch). EndsAmong n.state.world.batch_ends d.end bs) (sym (append-nil d.own)) h.ends;
    low = h.low;
  }

  -- it knows of what it appends
  pub still_known : (event : Event) → IsNoFrame event → Knows (with_batches d (all_stored (batches_given options n event))) least (after_event options n event).state.world
  still_known event own = known_by event (outcome options (at_time_of n.state event) event) (outcome_known event own)
