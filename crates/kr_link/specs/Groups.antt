-- Batches that wait, and those of them that go together in an append.
use Rattle.std.specs.Prelude.{ℕ, ◌+◌, Bool, true, false, cond, not, ◌&&◌, List, [], ◌∷◌, length, Option, Some, None, nat_le, option_map, slice_get}
use Rattle.law_quorum.specs.Batches.{Batch}
use Rattle.law_core.specs.Core.{AppendGroup, append_group}

abbrev pub has_no_batch : List Batch → Bool
has_no_batch [] = true
has_no_batch (b ∷ bs) = false

-- where the first begins
abbrev pub first_base_of : List Batch → Option ℕ
first_base_of bs = option_map (λ (b : Batch). b.base) (slice_get bs 0)

abbrev pub batch_end : Batch → ℕ
batch_end b = b.base + b.count

-- the group, and what stays
abbrev pub waiting_group : List Batch → AppendGroup
waiting_group [] = ([], [])
waiting_group (b ∷ bs) = append_group b bs

-- the first, where it has room, and what stays
abbrev pub fitted : ℕ → List Batch → Option Batch
fitted room [] = None
fitted room (b ∷ bs) = cond (nat_le (length b.bytes) room) (Some b) None

abbrev pub left_behind : ℕ → List Batch → List Batch
left_behind room [] = []
left_behind room (b ∷ bs) = cond (nat_le (length b.bytes) room) bs (b ∷ bs)

-- no append is under way, and something waits
abbrev pub may_ask : List Batch → List Batch → Bool
may_ask asked waits = has_no_batch asked && not (has_no_batch waits)
