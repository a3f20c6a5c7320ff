-- A log of batches from place 0 on, and the state that its items make (KIP-631, KIP-868).
use Rattle.std.specs.Prelude.{◌≡◌, ℕ, ℤ, pos, ◌+ℤ◌, ◌<◌, List, [], ◌∷◌, ◌++◌, length, Option, Some, None, Result, Ok, Err, if◌then◌else◌}
use Rattle.std.specs.Option.{option_and_then, option_map_or}
use Rattle.std.specs.Ordering.{int_eq}
use Rattle.kr_defs.specs.declared.ill.Ill.{Ill}
use Rattle.kr_defs.specs.Image.{Image, empty}
use Rattle.kr_defs.specs.LogStates.{LogState, Opened, apply_all_at, closed}
use Rattle.kr_store.specs.Images.{log_place}
use Rattle.kr_wire.specs.Grammar.{Each}
use Rattle.kr_batch.specs.declared.Batch.{Batch}
use Rattle.kr_batch.specs.Grammar.{IsBatch}

-- a log so far: the place behind its last item, and the state that the items make
pub record Folded : Type 0 where
  pub tip : ℤ
  pub state : LogState

-- the log of no items
abbrev pub nothing : Folded
nothing = record { tip = pos 0; state = closed empty }

abbrev pub with_state : ℤ → Result LogState Ill → Option Folded
with_state tip (Ok state) = Some (record { tip = tip; state = state })
with_state tip (Err cause) = None

-- with a batch more: it stands where the log ends, and all its items have a meaning
abbrev pub folded_with : Folded → Batch → Option Folded
folded_with log batch =
    if int_eq batch.base log.tip then with_state (log.tip +ℤ pos (length batch.items)) (apply_all_at log.state (log_place log.tip) batch.items) else None

-- the end of what is settled: the place of a transaction that is open at the log's end, or that end
abbrev pub settled_end : Folded → ℤ
settled_end log = option_map_or (λ (o : Opened). pos o.place) log.state.opened log.tip

-- the image there
abbrev pub settled_image : Folded → Image
settled_image log = option_map_or (λ (o : Opened). o.image) log.state.opened log.state.image

abbrev pub folded : Folded → List Batch → Option Folded
folded log [] = Some log
folded log (batch ∷ batches) = option_and_then (λ next. folded next batches) (folded_with log batch)

-- the bytes are batches, one after the other, which make this log
pub record IsLog (log : Folded) (bytes : List ℕ) : Type 0 where
  pub batches : List Batch
  pub made : folded nothing batches ≡ Some log
  pub spelled : Each IsBatch batches bytes

-- there are bytes, and no front of them is a batch that may follow
pub record NoneFollows (log : Folded) (bytes : List ℕ) : Type 0 where
  pub some : 0 < length bytes
  pub none : (front behind : List ℕ) (batch : Batch) (next : Folded) → bytes ≡ front ++ behind → IsBatch batch front → folded_with log batch ≡ Some next → ⊥
