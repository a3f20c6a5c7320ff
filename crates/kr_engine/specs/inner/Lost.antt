-- What a Lost makes of an engine.
use Rattle.std.specs.Prelude.{◌+◌, ◌*◌, ℕ, ℤ, length, not, Option, Some, None, unwrap_or, if◌then◌else◌}
use Rattle.kr_calls.specs.declared.events.Reason.{Reason}
use Rattle.kr_defs.specs.Heartbeats as hearing
use Rattle.kr_store.specs.Images.{Images, above, calls_of, reverted}
use Rattle.kr_model.specs.World.{leads_in}
use Rattle.kr_model.specs.Reasons.{not_leading}
use Rattle.kr_model.specs.Engine.{Core}

abbrev pub lost_reason : Core → ℤ → Option Reason
lost_reason e epoch = if not (leads_in e.leading epoch) then Some (not_leading epoch e.leading) else None

abbrev pub core_after_lost : Core → Core
core_after_lost e = record e {
  images = unwrap_or (reverted e.images e.committed) e.images;
  heard = hearing.end;
  tip = e.committed;
  leading = None;
}

-- what it takes at most to go back to the place
abbrev pub reverting_steps : Images → ℤ → ℕ
reverting_steps images end = calls_of (above images end) + images.made + 7 * length (above images end) + 6
