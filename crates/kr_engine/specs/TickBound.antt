-- How many steps a tick takes at most: a contact that is looked at is one, and a record that is given.
use Rattle.std.specs.Prelude.{◌+◌, ◌+ℤ◌, ◌-ℤ◌, ◌≤ℤ◌, ℕ, ℤ, pos, length}
use Rattle.kr_calls.specs.declared.events.Event.TheVariants as events
use Rattle.kr_defs.specs.Heartbeats.{expired}
use Rattle.kr_model.specs.Engine.{Core}
use Rattle.kr_model.specs.Events.{time_after}

-- the contacts whose session has ended at the time and one more, and the records
abbrev pub WithinTick : Core → Core → ℤ → ℕ → ℕ → Type 0
WithinTick before after now first last =
    let lapsed = expired before.heard (time_after before.time (events.Tick now) -ℤ pos before.options.session_ms) in
    pos last ≤ℤ (pos (first + length lapsed + 1) +ℤ (after.tip -ℤ before.tip))
