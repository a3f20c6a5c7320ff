-- The closed end of the images that an engine keeps (KIP-868).
use Rattle.std.specs.Prelude.{ℤ, unwrap_or}
use Rattle.kr_store.specs.Images.{Images, begun_at, forgotten, marked}
use Rattle.kr_model.specs.Engine.{Core}

-- at a kept place: the begin of the transaction that was open there, or the place itself
abbrev pub closed_at : Images → ℤ → ℤ
closed_at images place = unwrap_or (begun_at images place) place

-- at the tip, which is this place
abbrev pub closed_behind : Images → ℤ → ℤ
closed_behind images place = unwrap_or images.begun place

-- the present state is that of the place, which is committed, and what is kept below its closed end is dropped
abbrev pub core_moved : Core → ℤ → Core
core_moved e place = record e {
  images = forgotten (marked e.images place) (closed_behind e.images place);
  tip = place;
  committed = place;
  closed = closed_behind e.images place;
}
