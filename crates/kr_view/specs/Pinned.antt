-- What the store of a copy keeps of the log. This project's own.
use Rattle.std.specs.Prelude.{ℤ, List, Option, Some, find, map, unwrap_or, if◌then◌else◌}
use Rattle.std.specs.Option.{option_map}
use Rattle.std.specs.Ordering.{int_eq}
use Rattle.kr_defs.specs.Image.{Image, empty}
use Rattle.kr_calls.specs.declared.pins.Pin.{Pin}
use Rattle.kr_calls.specs.SeatList.{PinnedLog, Reached}
use Rattle.kr_store.specs.Images.{Images, kept_at, tip_state}

-- the image at the end, or that of the first pin of the place
abbrev pub kept_image_at : PinnedLog → ℤ → Option Image
kept_image_at l place = if int_eq place l.at.end then Some l.at.state.image else option_map (λ (p : Pin × Image). p.1) (find (λ (p : Pin × Image). int_eq p.0.place place) l.pinned)

abbrev pub pin_image : Images → Pin → Pin × Image
pin_image store pin = (pin, unwrap_or (kept_at store pin.place) empty)

-- the state of a store that stands at this end
abbrev pub reached_in : Images → ℤ → Reached
reached_in store end = record { state = tip_state store; end = end }

-- what a store with this end and these pins keeps
abbrev pub log_in : Images → ℤ → List Pin → PinnedLog
log_in store end pins = record { at = reached_in store end; pinned = map (pin_image store) pins }
