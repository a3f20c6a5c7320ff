-- A map with kept epochs where the map of one is the present one again.
use Rattle.std.specs.Prelude.{◌≡◌, ◌≤◌, ◌+◌, ℤ, Some}
use Rattle.kr_defs.specs.KeptMaps.{KeptMaps, calls_in, kept_above, map_at}

-- no epoch is dropped. What was done counts as at most as many calls as the entries above the epoch and the present map had
pub record RestoresMap {K V : Type 0} (maps : KeptMaps K V) (epoch : ℤ) (later : KeptMaps K V) : Type 0 where
  pub kept : later.kept ≡ maps.kept
  pub present : map_at maps epoch ≡ Some later.present
  pub least : maps.made ≤ later.made
  pub most : later.made ≤ maps.made + (calls_in (kept_above maps epoch) + maps.made)
