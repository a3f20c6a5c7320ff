-- A batch, or an image, that comes to a node on standby.
use Rattle.std.proofs.Common.{◌≡◌, ◌∙◌, sym, ℕ, ℤ, pos, ◌+◌, cond, List, [], ◌++◌, length, refl, ap}
use Rattle.std.specs.Prelude.{Option, Some, None, Result, Ok, Err, filter, int_lt, is_some, not, unsigned_abs}
use Rattle.std.specs.Ordering.{int_eq}
use Rattle.kr_batch.specs.declared.Batch.{Batch}
use Rattle.kr_batch.specs.declared.fault.BatchFault.{BatchFault}
use Rattle.kr_batch.specs.BatchBytes.{batch_bytes}
use Rattle.kr_batch.specs.Reading.{batch_of}
use Rattle.kr_calls.specs.declared.events.Event.{Event}
use Rattle.kr_calls.specs.declared.events.Event.TheVariants as events
use Rattle.kr_calls.specs.declared.events.Reason.{Reason}
use Rattle.kr_defs.specs.declared.ill.Ill.{Ill}
use Rattle.kr_defs.specs.declared.options.Options.{Options}
use Rattle.kr_defs.specs.Guard.{and_then}
use Rattle.kr_defs.specs.Image.{Image}
use Rattle.kr_defs.specs.LogStates.{first_ill_at}
use Rattle.kr_defs.proofs.Tests.{Gives, gives_done, gives_refuse}
use Rattle.kr_snapshot.specs.declared.fault.ImageFault.{ImageFault}
use Rattle.kr_snapshot.specs.Reading.{image_of}
use Rattle.kr_model.specs.Batch.{after_batch, batch_or, end_of, take_batch, unless_ill}
use Rattle.kr_model.specs.Events.{outcome, with_next_number}
use Rattle.kr_model.specs.Load.{after_load, image_or, take_image}
use Rattle.kr_model.specs.Reasons as reasons
use Rattle.kr_model.specs.World.{State, is_far, state_of_tip, tip_of}
use Rattle.law_nodes.specs.Moves.{after_arrival}
use Rattle.law_nodes.specs.Nodes.{RunNode, Waiting, after_by, after_event, at_own_end, tells_by, told_due, told_of, waits_in, writes_with}

-- ---- of a node that no write waits at, an arrival is an event

abbrev pub Arrives : Event → Type 0
Arrives (events.Batch bytes) = Unit {0}
Arrives (events.Load bytes) = Unit {0}
Arrives other = ⊥

module _ (options : Options) (k : ℕ) (n : RunNode) (idle : n.waiting ≡ []) where
  none_then : (w : State) (event : Event) → Arrives event → filter (waits_in w.world) (writes_with options n.state n.waiting event) ≡ n.waiting
  none_then w (events.Batch bytes) kind = ap (λ (ws : List Waiting). filter (waits_in w.world) (ws ++ [])) idle ∙ sym idle
  none_then w (events.Load bytes) kind = ap (λ (ws : List Waiting). filter (waits_in w.world) (ws ++ [])) idle ∙ sym idle
  none_then w (events.Lead epoch next now) kind = absurd kind
  none_then w (events.Commit epoch end) kind = absurd kind
  none_then w (events.Lost epoch) kind = absurd kind
  none_then w (events.Tick now) kind = absurd kind
  none_then w (events.Request client now ask) kind = absurd kind
  none_then w events.Image kind = absurd kind

  by_arrival : (event : Event) → Arrives event → (q : Result State Reason) → at_own_end (after_by options n n.state event q) ≡ after_arrival n q
  by_arrival event kind (Ok w) =
      ap (λ (ws : List Waiting). record { state = with_next_number w; waiting = ws; settled = w.world.committed; unsettled = [] }) (none_then w event kind)
  by_arrival event kind (Err reason) = refl

  pub arrival_is : (event : Event) → Arrives event → (q : Result State Reason) → outcome options n.state event ≡ q → at_own_end (after_event options n event) ≡ after_arrival n q
  arrival_is (events.Batch bytes) kind q is =
      ap (λ (x : Result State Reason). at_own_end (after_by options n n.state (events.Batch bytes) x)) is ∙ by_arrival (events.Batch bytes) tt q
  arrival_is (events.Load bytes) kind q is =
      ap (λ (x : Result State Reason). at_own_end (after_by options n n.state (events.Load bytes) x)) is ∙ by_arrival (events.Load bytes) tt q
  arrival_is (events.Lead epoch next now) kind q is = absurd kind
  arrival_is (events.Commit epoch end) kind q is = absurd kind
  arrival_is (events.Lost epoch) kind q is = absurd kind
  arrival_is (events.Tick now) kind q is = absurd kind
  arrival_is (events.Request client now ask) kind q is = absurd kind
  arrival_is events.Image kind q is = absurd kind

  -- and tells nobody anything
  tells_none : (event : Event) → Arrives event → (q : Result State Reason) → tells_by options k n n.state event q ≡ []
  tells_none (events.Batch bytes) kind (Ok w) = ap (λ (ws : List Waiting). told_due k w.world (ws ++ [])) idle
  tells_none (events.Load bytes) kind (Ok w) = ap (λ (ws : List Waiting). told_due k w.world (ws ++ [])) idle
  tells_none (events.Lead epoch next now) kind (Ok w) = absurd kind
  tells_none (events.Commit epoch end) kind (Ok w) = absurd kind
  tells_none (events.Lost epoch) kind (Ok w) = absurd kind
  tells_none (events.Tick now) kind (Ok w) = absurd kind
  tells_none (events.Request client now ask) kind (Ok w) = absurd kind
  tells_none events.Image kind (Ok w) = absurd kind
  tells_none event kind (Err reason) = refl

  pub told_none : (event : Event) → Arrives event → told_of options k n event ≡ []
  told_none (events.Batch bytes) kind = tells_none (events.Batch bytes) tt (outcome options n.state (events.Batch bytes))
  told_none (events.Load bytes) kind = tells_none (events.Load bytes) tt (outcome options n.state (events.Load bytes))
  told_none (events.Lead epoch next now) kind = absurd kind
  told_none (events.Commit epoch end) kind = absurd kind
  told_none (events.Lost epoch) kind = absurd kind
  told_none (events.Tick now) kind = absurd kind
  told_none (events.Request client now ask) kind = absurd kind
  told_none events.Image kind = absurd kind

-- ---- what is read is taken

module _ (options : Options) (s : State) (none : s.world.leading ≡ None) where
  pub batch_is : (b : Batch) → batch_of (batch_bytes b) ≡ Ok b → outcome options s (events.Batch (batch_bytes b)) ≡ take_batch s b
  batch_is b reads =
      ap (λ (o : Option ℤ). cond (is_some o) (Err (reasons.already_leading o)) (and_then (batch_or (batch_of (batch_bytes b))) (take_batch s))) none
      ∙ ap (λ (q : Result Batch BatchFault). and_then (batch_or q) (take_batch s)) reads

  pub image_is : (bytes : List ℕ) (x : ℤ × Image) → image_of bytes ≡ Ok x → outcome options s (events.Load bytes) ≡ take_image s x
  image_is bytes x reads =
      ap (λ (o : Option ℤ). cond (is_some o) (Err (reasons.already_leading o)) (and_then (image_or (image_of bytes)) (take_image s))) none
      ∙ ap (λ (q : Result (ℤ × Image) ImageFault). and_then (image_or q) (take_image s)) reads

-- ---- where its end is then

ill_end : (s : State) (b : Batch) (o : Option (ℤ × Ill)) → Gives (λ (w : State). w.world.committed ≡ tip_of s + length b.items) (unless_ill o (after_batch s b))
ill_end s b None = gives_done (λ (w : State). w.world.committed ≡ tip_of s + length b.items) (after_batch s b) refl
ill_end s b (Some (place, cause)) = λ w is. absurd cc

batch_end : (s : State) (b : Batch) → Gives (λ (w : State). w.world.committed ≡ tip_of s + length b.items) (take_batch s b)
batch_end s b =
    let P : State → Type 0 = λ w. w.world.committed ≡ tip_of s + length b.items in
    gives_refuse P (reasons.gap (pos s.world.committed) b.base) (not (int_eq b.base (pos s.world.committed))) _ (λ _. gives_refuse P (reasons.exhausted (end_of b)) (is_far (end_of b)) _ (λ _.
    ill_end s b (first_ill_at (state_of_tip s) (tip_of s) b.items)))

image_end : (s : State) (x : ℤ × Image) → Gives (λ (w : State). w.world.committed ≡ unsigned_abs x.0) (take_image s x)
image_end s (offset, image) =
    let P : State → Type 0 = λ w. w.world.committed ≡ unsigned_abs offset in
    gives_refuse P (reasons.older_image offset (pos s.world.committed)) (int_lt offset (pos s.world.committed)) _ (λ _. gives_refuse P (reasons.exhausted offset) (is_far offset) _ (λ _.
    gives_done P (after_load s (unsigned_abs offset) image) refl))

module _ (n : RunNode) where
  at_or : (to : ℕ) (q : Result State Reason) → Gives (λ (w : State). w.world.committed ≡ to) q → ((after_arrival n q).state.world.committed ≡ n.state.world.committed → ⊥) → (after_arrival n q).state.world.committed ≡ to
  at_or to (Ok w) gives other = gives w refl
  at_or to (Err reason) gives other = absurd (other refl)

  pub fed_to : (b : Batch) → ((after_arrival n (take_batch n.state b)).state.world.committed ≡ n.state.world.committed → ⊥) → (after_arrival n (take_batch n.state b)).state.world.committed ≡ tip_of n.state + length b.items
  fed_to b other = at_or (tip_of n.state + length b.items) (take_batch n.state b) (batch_end n.state b) other

  stays_or : (to : ℕ) (q : Result State Reason) → Gives (λ (w : State). w.world.committed ≡ to) q → ((after_arrival n q).state.world.committed ≡ to → ⊥) → (after_arrival n q).state.world.committed ≡ n.state.world.committed
  stays_or to (Ok w) gives other = absurd (other (gives w refl))
  stays_or to (Err reason) gives other = refl

  pub loaded_to : (x : ℤ × Image) → ((after_arrival n (take_image n.state x)).state.world.committed ≡ unsigned_abs x.0 → ⊥) → (after_arrival n (take_image n.state x)).state.world.committed ≡ n.state.world.committed
  loaded_to x other = stays_or (unsigned_abs x.0) (take_image n.state x) (image_end n.state x) other
