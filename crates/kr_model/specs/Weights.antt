-- How much a log's items change of an image, and what a store has counted under the ends of its batches. This project's own
-- measure.
use Rattle.std.specs.Prelude.{◌≡◌, ◌≤◌, ◌+◌, ◌*◌, ◌-◌, ◌++◌, ℕ, ℤ, pos, nat_le, unsigned_abs, List, [], ◌∷◌, filter, length, take, Result, Ok, Err}
use Rattle.std.specs.Option.{option_map_or}
use Rattle.kr_defs.specs.declared.ill.Ill.{Ill}
use Rattle.kr_defs.specs.declared.record.Item.{Item}
use Rattle.kr_defs.specs.declared.record.Item.TheVariants as items
use Rattle.kr_defs.specs.declared.record.Record.TheVariants as kinds
use Rattle.kr_defs.specs.Image.{Image}
use Rattle.kr_defs.specs.Log.{Log, closed_end_at, open_at}
use Rattle.kr_defs.specs.LogStates.{LogState, apply_at, closed}
use Rattle.kr_defs.specs.Weight.{weight}
use Rattle.kr_store.specs.Images.{Images}
use Rattle.kr_model.specs.World.{State, closed_of, tip_of}

-- what an item weighs behind these: an abort goes over those of its transaction once more
abbrev pub weight_behind : ℕ → Image → Item → ℕ
weight_behind since image (items.Record (kinds.AbortTransaction reason)) = weight image (items.Record (kinds.AbortTransaction reason)) + since
weight_behind since image item = weight image item

-- the weights of the items of a transaction up to an item of it
abbrev pub since_begin : ℕ → Image → Item → ℕ
since_begin since image (items.Record (kinds.BeginTransaction name)) = 0
since_begin since image item = since + weight_behind since image item

-- what comes of the state behind an item, where it has one
abbrev pub weight_of_state : (LogState → ℕ) → Result LogState Ill → ℕ
weight_of_state rest (Ok state) = rest state
weight_of_state rest (Err cause) = 0

-- the sum of the weights of items, each by the state before it; behind one that has no meaning none counts
abbrev pub item_weights : ℕ → LogState → ℕ → List Item → ℕ
item_weights since state place [] = 0
item_weights since state place (item ∷ items) =
    weight_behind since state.image item + weight_of_state (λ (after : LogState). item_weights (since_begin since state.image item) after (place + 1) items) (apply_at state place item)

-- of the items of a log below a place
abbrev pub weight_below : Log → ℕ → ℕ
weight_below log place = item_weights 0 (closed log.image) log.offset (take (place - log.offset) log.items)

-- of those from a place on and below another
abbrev pub weight_between : Log → ℕ → ℕ → ℕ
weight_between log from to = weight_below log to - weight_below log from

-- under the end of each batch there are at most as many calls as its items weigh, where what stands before weighs so much
abbrev pub AreWeighed : Log → ℕ → List ℕ → List (ℤ × ℕ) → Type 0
AreWeighed log before [] [] = Unit {0}
AreWeighed log before [] (m ∷ ms) = ⊥
AreWeighed log before (n ∷ ns) [] = ⊥
AreWeighed log before (n ∷ ns) (m ∷ ms) = (m.0 ≡ pos n) × (m.1 + before ≤ weight_below log n) × AreWeighed log (weight_below log n) ns ms

-- of the items up to the closed end at a place: the begin of an open transaction, which makes no call, among them
abbrev pub weight_settled : Log → ℕ → ℕ
weight_settled log place = option_map_or (λ (begin : ℕ). weight_below log (begin + 1)) (open_at log place) (weight_below log place)

-- none since the last batch, and none under the first place
pub record IsWeighed (images : Images) (log : Log) (first before : ℕ) (ends : List ℕ) : Type 0 where
  pub unmade : images.made ≡ 0
  pub rest : List (ℤ × ℕ)
  pub counted : images.kept_made ≡ (pos first, 0) ∷ rest
  pub each : AreWeighed log before ends rest

-- ---- what undoing and covering takes

-- at most the weights of the items, and eight steps for each of their batches and once more
abbrev pub steps_for : ℕ → ℕ → ℕ
steps_for weight batches = weight + 8 * (batches + 1)

-- a Lost undoes what stands above the committed end
abbrev pub lost_steps : State → ℕ
lost_steps s = steps_for (weight_between s.world.log s.world.committed (tip_of s)) (length s.world.batch_ends)

-- a Commit newly covers what stands up to the closed end behind it
abbrev pub commit_steps : State → ℤ → ℕ
commit_steps s end =
    let closed : ℕ = closed_end_at s.world.log (unsigned_abs end) in
    steps_for (weight_between s.world.log (closed_of s.world) closed) (length (filter (λ n. nat_le n closed) (s.world.covered ++ s.world.batch_ends)))
