-- Where the values of one block lie. This project's own.
use Rattle.std.specs.Prelude.{◌≡◌, ◌<◌, ◌-◌, ◌/◌, ℕ}
use Rattle.std.specs.Mem.{type_size}
use Rattle.std.specs.Ptr.{Ptr, block_ptr, null_ptr, ptr_add}
use denote.RattleType.{RattleType}

-- the index of the value at the place, where the first value lies at `first`
abbrev pub index_at : RattleType → Ptr → Ptr → ℕ
index_at R (block_ptr b o) (block_ptr c p) = (p - o) / type_size R
index_at R (block_ptr b o) null_ptr = 0
index_at R null_ptr p = 0

-- one of the n values of the block lies at the place
abbrev pub IsPlace : RattleType → Ptr → ℕ → Ptr → Type 0
IsPlace R first n place = (place ≡ ptr_add R (index_at R first place) first) × (index_at R first place < n)

-- the i-th does
abbrev pub IsPlaceOf : RattleType → Ptr → ℕ → Ptr → ℕ → Type 0
IsPlaceOf R first n place i = IsPlace R first n place × (index_at R first place ≡ i)
