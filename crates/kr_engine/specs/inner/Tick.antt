-- What a tick makes of an engine.
use Rattle.std.specs.Prelude.{◌≡◌, ◌≤◌, ◌+◌, ◌*◌, ◌&&◌, ◌+ℤ◌, ◌-ℤ◌, ◌≤ℤ◌, ℕ, ℤ, pos, unsigned_abs, List, [], ◌∷◌, length, IsSome, is_some, Option, Some, None, if◌then◌else◌}
use Rattle.kr_calls.specs.declared.events.Reason.{Reason}
use Rattle.kr_defs.specs.declared.limits.TheConstants.{PLACES_END}
use Rattle.kr_defs.specs.Heartbeats.{expired}
use Rattle.kr_store.specs.Images.{AreValid}
use Rattle.kr_model.specs.Engine.{Core, IsSound}
use Rattle.kr_engine.specs.inner.Changes.{refused_core}
use Rattle.kr_model.specs.Reasons.{exhausted}
use Rattle.kr_model.specs.World.{is_far}
use Rattle.kr_engine.specs.inner.Append.{Fences}

abbrev pub tick_reason : Core → Option Reason
tick_reason e = if is_some e.leading && is_far e.tip then Some (exhausted e.tip) else None

-- the contacts whose session has ended
abbrev pub lapsed_contacts : Core → List ℤ
lapsed_contacts e = expired e.heard (e.time -ℤ pos e.options.session_ms)

-- the brokers are fenced, one after the other
abbrev pub FencesAll : Core → Core → List ℤ → Type 0
FencesAll before after [] = after ≡ before
FencesAll before after (broker ∷ brokers) = (between : Core) × Fences before between broker × FencesAll between after brokers

-- the tick is refused, or fences the contacts whose session has ended
abbrev pub SettlesTick : Core → Core → Option Reason → Type 0
SettlesTick before after None = FencesAll before after (lapsed_contacts before)
SettlesTick before after (Some reason) = after ≡ refused_core before reason

-- so many brokers may be fenced: a leader's log has room for their records
pub record CanFence (e : Core) (count : ℕ) : Type 0 where
  pub sound : IsSound e
  pub valid : AreValid e.images
  pub leads : IsSome e.leading
  pub room : unsigned_abs e.tip + 10000 * count ≤ unsigned_abs PLACES_END

abbrev pub CanFenceAll : Core → List ℤ → Type 0
CanFenceAll e [] = Unit {0}
CanFenceAll e (broker ∷ brokers) = CanFence e (length (broker ∷ brokers))

-- ---- steps

-- as many steps as records
abbrev pub Advances : Core → Core → ℕ → ℕ → Type 0
Advances before after first last = pos last +ℤ before.tip ≡ pos first +ℤ after.tip

-- beside these, one for each contact whose session has ended, and one more
abbrev pub WithinLapsed : Core → Core → ℕ → ℕ → Type 0
WithinLapsed before after first last = pos last ≤ℤ (pos (first + length (lapsed_contacts before) + 1) +ℤ (after.tip -ℤ before.tip))
