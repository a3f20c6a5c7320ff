-- The map of a timeline that is looked at.
use Rattle.std.specs.Prelude.{List, Option, Some}
use Rattle.kr_defs.specs.KeptMaps.{KeptMaps, map_at}
use Rattle.kr_store.specs.declared.places.At.{At}
use Rattle.kr_store.specs.declared.places.At.TheVariants as places

abbrev pub entries_at : {K V : Type 0} → KeptMaps K V → At → Option (List (K × V))
entries_at maps places.Tip = Some maps.present
entries_at maps (places.Epoch epoch) = map_at maps epoch
