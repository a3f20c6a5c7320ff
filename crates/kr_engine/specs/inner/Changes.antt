-- What calls make of an engine, whatever the event.
use Rattle.std.specs.Prelude.{ℕ, ℤ, pos, negsuc, int_lt, List, [], ◌++◌, Option, Some, None, true, ◌≡◌}
use Rattle.std.specs.List.{AllByRecursion}
use Rattle.kr_calls.specs.declared.events.Entry.{Entry}
use Rattle.kr_calls.specs.declared.events.Event.{Event}
use Rattle.kr_calls.specs.declared.events.Reason.{Reason}
use Rattle.kr_calls.specs.declared.events.Output.TheVariants as given
use Rattle.kr_defs.specs.declared.options.Options.{Options}
use Rattle.kr_defs.specs.Heartbeats as hearing
use Rattle.kr_store.specs.Images.{Images, marked, no_images}
use Rattle.kr_model.specs.Events.{time_after, next_number}
use Rattle.kr_model.specs.Engine.{Core}
use Rattle.kr_defs.specs.Image.{Image}
use Rattle.kr_store.specs.Images.{kept_once}

-- to which nothing has happened
abbrev pub new_core : Options → Core
new_core options = record {
  options = options;
  images = marked no_images (pos 0);
  heard = hearing.end;
  tip = pos 0;
  committed = pos 0;
  closed = pos 0;
  leading = None;
  greatest = negsuc 0;
  count = 0;
  time = pos 0;
  led = pos 0;
  held = [];
  given = [];
  refusal = None;
  fresh = [];
}

-- what the last event added is told no more
abbrev pub cleared_core : Core → Core
cleared_core e = record e { fresh = [] }

-- at the greatest time of any event, where nothing is added yet
abbrev pub timed_core : Core → Event → Core
timed_core e event = record e { time = time_after e.time event; fresh = [] }

abbrev pub core_with_entries : Core → List Entry → Core
core_with_entries e new = record e { fresh = e.fresh ++ new }

-- one event more
abbrev pub counted_core : Core → Core
counted_core e = record e { count = next_number e.count }

abbrev pub refused_core : Core → Reason → Core
refused_core e reason = record e { refusal = Some (given.Refused (next_number e.count) reason) }

abbrev pub refused_core_or : Core → Option Reason → Core → Core
refused_core_or e None after = after
refused_core_or e (Some reason) after = refused_core e reason

-- an event is refused, or makes this of the engine
abbrev pub Settles : Core → Core → Option Reason → Core → Type 0
Settles before after reason core = after ≡ refused_core_or before reason core

-- an image is the only one that is kept
abbrev pub core_at : Core → ℤ → Image → Core
core_at e place image = record e { images = kept_once place image; tip = place; committed = place; closed = place }

-- ---- what is left of an event where memory was wanted, until it is taken back

-- some of what it gives and adds
abbrev pub GivesAlone : Core → Core → Type 0
GivesAlone before after = after ≡ record before { given = after.given; fresh = after.fresh }

-- only later epochs are kept besides
pub record IsLonger (before after : Images) (place : ℤ) : Type 0 where
  pub images : List (ℤ × Image)
  pub kept : after.kept ≡ before.kept ++ images
  pub later : AllByRecursion (λ (k : ℤ × Image). int_lt place k.0 ≡ true) images
  pub counts : List (ℤ × ℕ)
  pub calls : after.kept_made ≡ before.kept_made ++ counts
  pub later_counts : AllByRecursion (λ (m : ℤ × ℕ). int_lt place m.0 ≡ true) counts
  pub begins : List (ℤ × Option ℤ)
  pub begun : after.kept_begun ≡ before.kept_begun ++ begins
  pub later_begins : AllByRecursion (λ (b : ℤ × Option ℤ). int_lt place b.0 ≡ true) begins

-- and some of its records, whatever the present image is
pub record BreaksOff (before after : Core) : Type 0 where
  pub same : after ≡ record before { images = after.images; tip = after.tip; given = after.given; fresh = after.fresh }
  pub longer : IsLonger before.images after.images before.tip
