-- What an event leaves as it was: the greatest time, but for the event's own, and the committed end.
use Rattle.std.proofs.Common.{◌≡◌, ◌∙◌, ℤ, pos, Bool, true, false, cond, List, [], ◌∷◌, refl}
use Rattle.std.specs.Prelude.{◌≢◌, FitsSigned, Option, Some, None, Result, Ok, Err, int_lt, is_some, not, unsigned_abs, ◌&&◌}
use Rattle.std.specs.Int.{int_max, w64}
use Rattle.std.specs.Ordering.{int_eq}
use Rattle.kr_batch.specs.declared.Batch.{Batch}
use Rattle.kr_batch.specs.Reading.{batch_of}
use Rattle.kr_calls.specs.declared.calls.Ask.{Ask}
use Rattle.kr_calls.specs.declared.calls.Ask.TheVariants as asks
use Rattle.kr_calls.specs.declared.events.Event.{Event}
use Rattle.kr_calls.specs.declared.events.Event.TheVariants as events
use Rattle.kr_calls.specs.declared.events.Reason.{Reason}
use Rattle.kr_defs.specs.declared.ill.Ill.{Ill}
use Rattle.kr_defs.specs.declared.options.Options.{Options}
use Rattle.kr_defs.specs.declared.record.Item.TheVariants as items
use Rattle.kr_defs.specs.Image.{Image}
use Rattle.kr_defs.specs.ImageLaws.{as_items}
use Rattle.kr_defs.specs.LogStates.{first_ill_at}
use Rattle.kr_defs.proofs.Tests.{Gives, gives_done, gives_refuse, gives_then}
use Rattle.kr_snapshot.specs.Reading.{image_of}
use Rattle.kr_model.specs.Batch.{after_batch, batch_or, end_of, take_batch, unless_ill}
use Rattle.kr_model.specs.Commit.{after_commit, is_end}
use Rattle.kr_model.specs.Events.{at_time_of, outcome, time_after}
use Rattle.kr_model.specs.Lead.{after_lead, giving_up, may_begin_at, taking_over}
use Rattle.kr_model.specs.Load.{after_load, image_or, take_image}
use Rattle.kr_model.specs.Lost.{after_lost}
use Rattle.kr_model.specs.Reasons as reasons
use Rattle.kr_model.specs.Request.{after_ask, after_write, decision, is_decided}
use Rattle.kr_model.specs.Tick.{fence, fence_all, fencing_of, lapsed_contacts}
use Rattle.kr_model.specs.World.{State, image_of_tip, is_far, leads_in, state_of_tip, tip_of, with_batch}
use Rattle.kr_model.proofs.DueWrites.{batch_leaves}
use Rattle.law_nodes.specs.Nodes.{RunNode, after_by, after_event}

abbrev pub SameTime : State → State → Type 0
SameTime s after = after.basis.time ≡ s.basis.time

abbrev pub SameEnd : State → State → Type 0
SameEnd s after = after.world.committed ≡ s.world.committed

-- an event of a kind that commits nothing
abbrev pub LeavesEnd : Event → Type 0
LeavesEnd (events.Commit epoch end) = ⊥
LeavesEnd (events.Batch bytes) = ⊥
LeavesEnd (events.Load bytes) = ⊥
LeavesEnd other = Unit {0}

module _ (options : Options) where
  fenced_time : (brokers : List ℤ) (s : State) → SameTime s (fence_all options s brokers)
  fenced_time [] s = refl
  fenced_time (broker ∷ brokers) s = fenced_time brokers (fence options s broker)

  fenced_end : (brokers : List ℤ) (s : State) → SameEnd s (fence_all options s brokers)
  fenced_end [] s = refl
  fenced_end (broker ∷ brokers) s = fenced_end brokers (fence options s broker) ∙ (batch_leaves s.world (as_items (fencing_of options (image_of_tip s) broker))).committed

  module _ (s : State) where
    asked_time : (ask : Ask) → SameTime s (after_ask options s ask)
    asked_time (asks.Call call) =
        elim (is_decided s.world (asks.Call call)) as (λ b. SameTime s (cond b (after_write options s call.request) s)) [
          | true ↦ refl
          | false ↦ refl
        ]
    asked_time (asks.Bare correlation fault) = refl

    asked_end : (ask : Ask) → SameEnd s (after_ask options s ask)
    asked_end (asks.Call call) =
        elim (is_decided s.world (asks.Call call)) as (λ b. SameEnd s (cond b (after_write options s call.request) s)) [
          | true ↦ (batch_leaves s.world (as_items (decision options s call.request).records)).committed
          | false ↦ refl
        ]
    asked_end (asks.Bare correlation fault) = refl

    led_end : (next : ℤ) (b : Bool) → (cond b s.world (with_batch s.world (items.Control ∷ []))).committed ≡ s.world.committed
    led_end next true = refl
    led_end next false = (batch_leaves s.world (items.Control ∷ [])).committed

    ill_time : (b : Batch) (o : Option (ℤ × Ill)) → Gives (SameTime s) (unless_ill o (after_batch s b))
    ill_time b None = gives_done (SameTime s) (after_batch s b) refl
    ill_time b (Some (place, cause)) = λ after is. absurd cc

    pub time_kept : (event : Event) → Gives (SameTime s) (outcome options s event)
    time_kept (events.Lead epoch next now) =
        let P = SameTime s in
        gives_refuse P (reasons.already_leading s.world.leading) (is_some s.world.leading) _ (λ _. gives_refuse P (reasons.old_epoch epoch s.world.greatest) (not (int_lt s.world.greatest epoch)) _ (λ _.
        gives_refuse P (reasons.bad_next next (pos s.world.committed)) (not (may_begin_at s.world next)) _ (λ _. gives_refuse P (reasons.exhausted next) (is_far next) _ (λ _.
        gives_done P (after_lead s epoch next) refl))))
    time_kept (events.Commit epoch end) =
        let P = SameTime s in
        gives_refuse P (reasons.not_leading epoch s.world.leading) (not (leads_in s.world.leading epoch)) _ (λ _.
        gives_refuse P (reasons.bad_commit end (pos s.world.committed) (pos (tip_of s))) (not (is_end s.world end)) _ (λ _. gives_done P (after_commit s end) refl))
    time_kept (events.Lost epoch) =
        let P = SameTime s in gives_refuse P (reasons.not_leading epoch s.world.leading) (not (leads_in s.world.leading epoch)) _ (λ _. gives_done P (after_lost s) refl)
    time_kept (events.Batch bytes) =
        let P = SameTime s in
        gives_refuse P (reasons.already_leading s.world.leading) (is_some s.world.leading) _ (λ _. gives_then (λ (b : Batch). Unit {0}) P (batch_or (batch_of bytes)) (take_batch s) (λ _ _. tt) (λ b _.
        gives_refuse P (reasons.gap (pos s.world.committed) b.base) (not (int_eq b.base (pos s.world.committed))) _ (λ _. gives_refuse P (reasons.exhausted (end_of b)) (is_far (end_of b)) _ (λ _.
        ill_time b (first_ill_at (state_of_tip s) (tip_of s) b.items)))))
    time_kept (events.Load bytes) =
        let P = SameTime s in
        gives_refuse P (reasons.already_leading s.world.leading) (is_some s.world.leading) _ (λ _. gives_then (λ (x : ℤ × Image). Unit {0}) P (image_or (image_of bytes)) (take_image s) (λ _ _. tt) (λ x _.
        gives_refuse P (reasons.older_image x.0 (pos s.world.committed)) (int_lt x.0 (pos s.world.committed)) _ (λ _. gives_refuse P (reasons.exhausted x.0) (is_far x.0) _ (λ _.
        gives_done P (after_load s (unsigned_abs x.0) x.1) refl))))
    time_kept (events.Tick now) =
        let P = SameTime s in
        gives_refuse P (reasons.exhausted (pos (tip_of s))) (is_some s.world.leading && is_far (pos (tip_of s))) _ (λ _.
        gives_done P (fence_all options s (lapsed_contacts options s)) (fenced_time (lapsed_contacts options s) s))
    time_kept (events.Request client now ask) =
        let P = SameTime s in
        gives_refuse P (reasons.exhausted (pos (tip_of s))) (is_decided s.world ask && is_far (pos (tip_of s))) _ (λ _. gives_done P (after_ask options s ask) (asked_time ask))
    time_kept events.Image = gives_done (SameTime s) s refl

    pub end_kept : (event : Event) → LeavesEnd event → Gives (SameEnd s) (outcome options s event)
    end_kept (events.Lead epoch next now) kind =
        let P = SameEnd s in
        gives_refuse P (reasons.already_leading s.world.leading) (is_some s.world.leading) _ (λ _. gives_refuse P (reasons.old_epoch epoch s.world.greatest) (not (int_lt s.world.greatest epoch)) _ (λ _.
        gives_refuse P (reasons.bad_next next (pos s.world.committed)) (not (may_begin_at s.world next)) _ (λ _. gives_refuse P (reasons.exhausted next) (is_far next) _ (λ _.
        gives_done P (after_lead s epoch next)
        ((batch_leaves (taking_over s epoch next).world (as_items (giving_up (taking_over s epoch next).world))).committed ∙ led_end next (int_eq next (pos s.world.committed)))))))
    end_kept (events.Lost epoch) kind =
        let P = SameEnd s in gives_refuse P (reasons.not_leading epoch s.world.leading) (not (leads_in s.world.leading epoch)) _ (λ _. gives_done P (after_lost s) refl)
    end_kept (events.Tick now) kind =
        let P = SameEnd s in
        gives_refuse P (reasons.exhausted (pos (tip_of s))) (is_some s.world.leading && is_far (pos (tip_of s))) _ (λ _.
        gives_done P (fence_all options s (lapsed_contacts options s)) (fenced_end (lapsed_contacts options s) s))
    end_kept (events.Request client now ask) kind =
        let P = SameEnd s in
        gives_refuse P (reasons.exhausted (pos (tip_of s))) (is_decided s.world ask && is_far (pos (tip_of s))) _ (λ _. gives_done P (after_ask options s ask) (asked_end ask))
    end_kept events.Image kind = gives_done (SameEnd s) s refl
    end_kept (events.Commit epoch end) kind = absurd kind
    end_kept (events.Batch bytes) kind = absurd kind
    end_kept (events.Load bytes) kind = absurd kind

    -- a Commit moves the committed end to where it says, or not
    pub end_moved : (epoch : ℤ) (end : ℤ) → Gives (λ after. after.world.committed ≡ unsigned_abs end) (outcome options s (events.Commit epoch end))
    end_moved epoch end =
        let P : State → Type 0 = λ after. after.world.committed ≡ unsigned_abs end in
        gives_refuse P (reasons.not_leading epoch s.world.leading) (not (leads_in s.world.leading epoch)) _ (λ _.
        gives_refuse P (reasons.bad_commit end (pos s.world.committed) (pos (tip_of s))) (not (is_end s.world end)) _ (λ _. gives_done P (after_commit s end) refl))

-- ---- of a node

module _ (options : Options) (n : RunNode) (event : Event) where
  abbrev at : State
  at = at_time_of n.state event

  by_time : (q : Result State Reason) → Gives (SameTime at) q → (after_by options n at event q).state.basis.time ≡ time_after n.state.basis.time event
  by_time (Ok after) gives = gives after refl
  by_time (Err reason) gives = refl

  pub node_time : (after_event options n event).state.basis.time ≡ time_after n.state.basis.time event
  node_time = by_time (outcome options at event) (time_kept options at event)

  by_end : (q : Result State Reason) → Gives (SameEnd at) q → (after_by options n at event q).state.world.committed ≡ n.state.world.committed
  by_end (Ok after) gives = gives after refl
  by_end (Err reason) gives = refl

  pub node_end : LeavesEnd event → (after_event options n event).state.world.committed ≡ n.state.world.committed
  node_end kind = by_end (outcome options at event) (end_kept options at event kind)

  by_settled : (q : Result State Reason) → (after_by options n at event q).settled ≡ n.settled
  by_settled (Ok after) = refl
  by_settled (Err reason) = refl

  pub node_settled : (after_event options n event).settled ≡ n.settled
  node_settled = by_settled (outcome options at event)

-- where a Commit was accepted, the committed end is there
module _ (options : Options) (n : RunNode) (epoch end : ℤ) where
  abbrev event : Event
  event = events.Commit epoch end

  by_commit : (q : Result State Reason) → Gives (λ after. after.world.committed ≡ unsigned_abs end) q → ((after_by options n n.state event q).state.world.committed ≢ unsigned_abs end)
      → (after_by options n n.state event q).state.world.committed ≡ n.state.world.committed
  by_commit (Ok after) gives other = absurd (other (gives after refl))
  by_commit (Err reason) gives other = refl

  pub uncommitted : ((after_event options n event).state.world.committed ≢ unsigned_abs end) → (after_event options n event).state.world.committed ≡ n.state.world.committed
  uncommitted other = by_commit (outcome options n.state event) (end_moved options n.state epoch end) other

-- ---- times

pub max_fits : (a b : ℤ) → FitsSigned w64 a → FitsSigned w64 b → FitsSigned w64 (int_max a b)
max_fits a b f g =
    elim (int_lt b a) as (λ t. FitsSigned w64 (cond t a b)) [
      | true ↦ f
      | false ↦ g
    ]
