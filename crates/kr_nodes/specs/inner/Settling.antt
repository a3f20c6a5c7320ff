-- What becomes of the list as a batch joins it.
use Rattle.std.specs.Prelude.{◌≡◌, ◌+ℤ◌, ◌≤ℤ◌, ◌<ℤ◌, pos, ◌^◌, [], ◌∷◌, ◌++◌}
use Rattle.kr_nodes.specs.declared.shared.ListBatch.{ListBatch}
use Rattle.kr_nodes.specs.declared.shared.Shared.{Shared}

pub record Joins (before after : Shared) (batch : ListBatch) : Type 0 where
  pub list : after.list.items ≡ before.list.items ++ batch ∷ []
  pub length_is : (before.length +ℤ pos batch.count) <ℤ pos (2 ^ 63) → pos 0 ≤ℤ before.length → after.length ≡ before.length +ℤ pos batch.count
  pub elected : after.elected ≡ before.elected
  pub told : after.told ≡ before.told
